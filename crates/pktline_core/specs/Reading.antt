-- What the reader of packets does.
use Rattle.std.specs.Prelude.{◌≡◌, ⊤, ℕ, ◌+◌, Bool, true, List, [], length, take, drop, IsTrue, Result, Ok, Err, Some, None}
use Rattle.std.specs.declared.option.Option.{Option}
use Rattle.std.specs.Io.KnownBytes.{Consumes, IsAtEnd}
use Rattle.base_types.specs.Counts.{HasRisen}
use Rattle.base_types.specs.Fronts.{Whole, Broken, Partial}
use Rattle.pktline_core.specs.LinkState.{LinkState}
use Rattle.pktline_core.specs.Packets.{Packet, packet_front}
use Rattle.pktline_core.specs.Packets as packet
use Rattle.pktline_core.specs.declared.packets.Pkt.{Pkt}
use Rattle.pktline_core.specs.declared.packets.Pkt.TheVariants.{Line, Flush}
use Rattle.pktline_core.specs.declared.packets.PktFault.{PktFault}
use Rattle.pktline_core.specs.declared.packets.PktFault.TheVariants.{Truncated, BadLength, ReadFault}

pub record ReaderState : Type 0 where
  -- how many bytes whole packets took
  pub offset : ℕ
  -- whether a fault was answered
  pub failed : Bool
  -- where the payload of the last line lies
  pub buffer : List ℕ

-- a packet that was read, seen as its value
abbrev pub packet_of : Pkt → Packet
packet_of (Line payload) = packet.Line payload.now
packet_of Flush = packet.Flush

abbrev pub answer_of : Result Pkt PktFault → Result Packet PktFault
answer_of (Ok packet) = Ok (packet_of packet)
answer_of (Err fault) = Err fault

-- What was taken decides the answer.
abbrev pub Decides : List ℕ → LinkState → LinkState → Result Packet PktFault → Type 0
Decides taken old new (Ok packet) = packet_front taken ≡ Whole (length taken) packet
Decides taken old new (Err BadLength) = packet_front taken ≡ Broken (length taken) BadLength
Decides taken old new (Err Truncated) = (packet_front taken ≡ Partial Truncated) × IsAtEnd new.left
Decides taken old new (Err ReadFault) = (packet_front taken ≡ Partial Truncated) × HasRisen old.read_faults new.read_faults × IsTrue old.may_fail

-- So many bytes were taken as decide the answer, and no more.
pub record ReadsPacket (old new : LinkState) (answer : Result Packet PktFault) : Type 0 where
  pub taken : List ℕ
  pub consumed : Consumes old.left new.left taken
  pub counted : new.given ≡ old.given + length taken
  pub decided : Decides taken old new answer

-- Over an input that is told the answer is what stands at its front, in whatever pieces the source gives it.
abbrev pub AnswersInput : List ℕ → Option (List ℕ) → Result Packet PktFault → Type 0
AnswersInput input left (Ok packet) = (n : ℕ) × (packet_front input ≡ Whole n packet) × (left ≡ Some (drop n input))
AnswersInput input left (Err BadLength) = (packet_front input ≡ Broken 4 BadLength) × (left ≡ Some (drop 4 input))
AnswersInput input left (Err Truncated) = (packet_front input ≡ Partial Truncated) × (left ≡ Some [])
AnswersInput input left (Err ReadFault) = (n : ℕ) × (packet_front (take n input) ≡ Partial Truncated) × (left ≡ Some (drop n input))

-- the same of what a source has left, before and after, where it tells it
unfoldable pub AnswersLeft : Option (List ℕ) → Option (List ℕ) → Result Packet PktFault → Type 0
AnswersLeft None left answer = ⊤
AnswersLeft (Some input) left answer = AnswersInput input left answer

-- After a packet the reader stands behind it; after a fault it stands where it stood, and is done.
abbrev pub MovesReader : ReaderState → ReaderState → LinkState → LinkState → Result Packet PktFault → Type 0
MovesReader old new before now (Ok packet) = (new.failed ≡ old.failed) × (new.offset + before.given ≡ old.offset + now.given)
MovesReader old new before now (Err fault) = (new.failed ≡ true) × (new.offset ≡ old.offset)

-- no failed read is hidden
abbrev pub TellsFault : {V : Type 0} → LinkState → LinkState → Result V PktFault → Type 0
TellsFault old new (Err ReadFault) = ⊤
TellsFault old new answer = new.read_faults ≡ old.read_faults
