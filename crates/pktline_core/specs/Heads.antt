-- What four digits say of the packet that they begin.
use Rattle.std.specs.Prelude.{◌≡◌, ◌⊎◌, ⊤, ℕ, ◌+◌, ◌≤◌, ◌<◌, List, length, take, IsTrue, Result, Ok, Err, Some, None}
use Rattle.std.specs.declared.option.Option.{Option}
use Rattle.std.specs.Io.KnownBytes.{Consumes, IsAtEnd}
use Rattle.base_types.specs.Counts.{HasRisen}
use Rattle.pktline_core.specs.LinkState.{LinkState}
use Rattle.pktline_core.specs.Packets.{Packet, number_of}
use Rattle.pktline_core.specs.Packets as packet
use Rattle.pktline_core.specs.declared.reading.Head.{Head}
use Rattle.pktline_core.specs.declared.reading.Head.TheVariants.{Line, Flush}
use Rattle.pktline_core.specs.declared.packets.PktFault.{PktFault}
use Rattle.pktline_core.specs.declared.packets.PktFault.TheVariants.{Truncated, BadLength, ReadFault}

-- no packet has this length
abbrev pub IsNoLength : Option ℕ → Type 0
IsNoLength None = ⊤
IsNoLength (Some n) = ((0 < n) × (n < 4)) ⊎ (65520 < n)

-- what was taken, and what it says
abbrev pub SaysHead : LinkState → LinkState → List ℕ → Result Head PktFault → Type 0
SaysHead old new taken (Ok (Line size)) = (length taken ≡ 4) × (number_of taken ≡ Some (size + 4)) × (size ≤ 65516)
SaysHead old new taken (Ok Flush) = (length taken ≡ 4) × (number_of taken ≡ Some 0)
SaysHead old new taken (Err BadLength) = (length taken ≡ 4) × IsNoLength (number_of taken)
SaysHead old new taken (Err Truncated) = (length taken < 4) × IsAtEnd new.left
SaysHead old new taken (Err ReadFault) = (length taken < 4) × HasRisen old.read_faults new.read_faults × IsTrue old.may_fail

pub record ReadsHead (old new : LinkState) (result : Result Head PktFault) : Type 0 where
  pub taken : List ℕ
  pub consumed : Consumes old.left new.left taken
  pub counted : new.given ≡ old.given + length taken
  pub says : SaysHead old new taken result

-- a payload of this size lies within so many bytes
abbrev pub IsWithin : ℕ → Head → Type 0
IsWithin room (Line size) = size ≤ room
IsWithin room Flush = ⊤

-- the packet that a head and the buffer make
abbrev pub head_answer : List ℕ → Result Head PktFault → Result Packet PktFault
head_answer buffer (Ok (Line size)) = Ok (packet.Line (take size buffer))
head_answer buffer (Ok Flush) = Ok packet.Flush
head_answer buffer (Err fault) = Err fault
