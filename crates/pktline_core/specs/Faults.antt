-- Faults of a link and of a packet: their texts, and the fault of a packet that wasn't read whole.
use Rattle.std.specs.Prelude.{ℕ, List, codes}
use Rattle.pktline_core.specs.declared.links.WriteFault.{WriteFault}
use Rattle.pktline_core.specs.declared.links.WriteFault.TheVariants as write
use Rattle.pktline_core.specs.declared.links.TakeFault.{TakeFault}
use Rattle.pktline_core.specs.declared.links.TakeFault.TheVariants.{Ended, Failed}
use Rattle.pktline_core.specs.declared.packets.PktFault.{PktFault}
use Rattle.pktline_core.specs.declared.packets.PktFault.TheVariants.{Truncated, BadLength, ReadFault}

abbrev pub fault_of_take : TakeFault → PktFault
fault_of_take Ended = Truncated
fault_of_take Failed = ReadFault

abbrev pub take_text : TakeFault → List ℕ
take_text Ended = codes "the input ended"
take_text Failed = codes "read failed"

abbrev pub write_text : WriteFault → List ℕ
write_text write.Failed = codes "write failed"
write_text write.NoMemory = codes "out of memory"

abbrev pub packet_text : PktFault → List ℕ
packet_text Truncated = codes "packet cut off"
packet_text BadLength = codes "bad packet length"
packet_text ReadFault = codes "read failed"
