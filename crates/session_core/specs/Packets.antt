-- What a session writes and reads, packet by packet.
use Rattle.std.specs.Prelude.{◌≡◌, ℕ, ◌+◌, List, [], Option, Some, None, Result, Ok, Err, codes}
use Rattle.pktline_core.specs.LinkState.{LinkState}
use Rattle.pktline_core.specs.Packets as packets
use Rattle.pktline_core.specs.Packets.{spelling, Line}
use Rattle.pktline_core.specs.declared.links.WriteFault.{WriteFault}
use Rattle.pktline_core.specs.declared.links.WriteFault.TheVariants.{Failed, NoMemory}
use Rattle.pktline_core.specs.declared.packets.PktFault.{PktFault}
use Rattle.pktline_core.specs.declared.packets.PktFault.TheVariants.{Truncated, BadLength, ReadFault}
use Rattle.hub.specs.Desk.{DeskView}
use Rattle.interaction_tree.specs.Wanted.{Packet}
use Rattle.interaction_tree.specs.Interaction.{CutOff, Interaction, gives, ends, ◌>>=◌, write, read}
use Rattle.interaction_tree.specs.Runs.{Runs}
use Rattle.session_core.specs.declared.end.SessionEnd.{SessionEnd}
use Rattle.session_core.specs.declared.end.SessionEnd.TheVariants as end
use Rattle.session_core.specs.End.{halt_of}

-- a packet of a line with this payload
abbrev pub packet : List ℕ → List ℕ
packet payload = spelling (Line payload)

-- the end where bytes aren't written
abbrev pub end_of_write : WriteFault → SessionEnd
end_of_write Failed = end.WriteFault
end_of_write NoMemory = end.NoMemory

-- a last packet, and the end
unfoldable pub refuse : {A : Type 0} → List ℕ → SessionEnd → Interaction SessionEnd A
refuse text end = do
  said ← write (packet text)
  ends end

-- the packet at this offset leaves the form
unfoldable pub malformed : {A : Type 0} → ℕ → Interaction SessionEnd A
malformed offset = refuse (codes "ERR malformed input") (end.Malformed offset)

-- what the packet at this offset has to say; it leaves the form where it says nothing
abbrev pub or_malformed : {A : Type 0} → ℕ → Option A → Interaction SessionEnd A
or_malformed offset None = malformed offset
or_malformed offset (Some value) = gives value

-- where the input ends inside what is wanted nothing more is written
abbrev pub cut_short : {F : Type 0} → F → CutOff SessionEnd
cut_short fault = record { bytes = []; end = end.Truncated }

-- a packet at this offset that takes so many bytes, and the offset behind it
abbrev pub packet_in : ℕ → ℕ → Result packets.Packet PktFault → Interaction SessionEnd (packets.Packet × ℕ)
packet_in offset used (Ok packet) = gives (packet, offset + used)
packet_in offset used (Err fault) = malformed offset

-- The packet at this offset, which counts from the session's first byte, and the offset behind it.
unfoldable pub next_packet : ℕ → Interaction SessionEnd (packets.Packet × ℕ)
next_packet offset = do
  reply ← read Packet cut_short
  packet_in offset reply.used reply.found

-- what a session does where a packet has this fault, and its end
abbrev pub EndsBy : PktFault → ℕ → LinkState → LinkState → SessionEnd → Type 0
EndsBy BadLength offset old new found = (desk : DeskView) → Runs {A = Unit {0}} old new desk desk (malformed offset) (Err (halt_of found))
EndsBy Truncated offset old new found = (new ≡ old) × (found ≡ end.Truncated)
EndsBy ReadFault offset old new found = (new ≡ old) × (found ≡ end.ReadFault)
