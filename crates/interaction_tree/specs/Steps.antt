-- What one call leaves an interaction as.
use Rattle.std.specs.Prelude.{⊤, ℕ, Result, Ok, Err}
use Rattle.pktline_core.specs.declared.links.WriteFault.{WriteFault}
use Rattle.pktline_core.specs.declared.links.WriteFault.TheVariants as write
use Rattle.pktline_core.specs.declared.packets.PktFault.{PktFault}
use Rattle.pktline_core.specs.declared.packets.PktFault.TheVariants as packet
use Rattle.pktline_core.specs.Packets as packets
use Rattle.raw_pack.specs.declared.fault.PackFault.{PackFault}
use Rattle.raw_pack.specs.declared.fault.PackFault.TheVariants as pack
use Rattle.interaction_tree.specs.Wanted.{Packet, Reply}
use Rattle.interaction_tree.specs.Interaction.{CutOff}
use Rattle.interaction_tree.specs.Traces.{Reading, Writing, Memory, Halt, Ended, Failed}

-- a call that writes
abbrev pub written_as : {E : Type 0} → Result (Unit {0}) WriteFault → Result (Unit {0}) (Halt E)
written_as (Ok unit) = Ok tt
written_as (Err write.Failed) = Err (Failed Writing)
written_as (Err write.NoMemory) = Err (Failed Memory)

-- The reader of packets, which took so many bytes. Where the input ends inside a packet nothing more is due.
abbrev pub packet_as : {E : Type 0} → (PktFault → CutOff E) → ℕ → Result packets.Packet PktFault → Result (Reply Packet) (Halt E)
packet_as cut used (Ok value) = Ok (record { used = used; found = Ok value })
packet_as cut used (Err packet.BadLength) = Ok (record { used = used; found = Err packet.BadLength })
packet_as cut used (Err packet.Truncated) = Err (Ended (cut packet.Truncated).end)
packet_as cut used (Err packet.ReadFault) = Err (Failed Reading)

-- a fault of a pack itself, and not of its reading
abbrev pub IsOfPack : PackFault → Type 0
IsOfPack pack.ReadFault = ⊥
IsOfPack pack.NoMemory = ⊥
IsOfPack fault = ⊤
