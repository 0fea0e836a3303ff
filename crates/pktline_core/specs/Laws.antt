-- What holds of the format of packets.
use Rattle.std.specs.Prelude.{◌≡◌, ◌↔◌, ℕ, ◌≤◌, List, [], ◌++◌, length, take}
use Rattle.base_types.specs.Fronts.{Whole, Broken}
use Rattle.pktline_core.specs.Packets.{Packet, Line, Flush, IsPacket, packet_front, spelling}
use Rattle.pktline_core.specs.declared.packets.PktFault.{PktFault}

-- a packet that can be written
abbrev pub IsWritable : Packet → Type 0
IsWritable (Line payload) = length payload ≤ 65516
IsWritable Flush = Unit {0}

pub record PacketLaws : Type 0 where
  -- A packet stands at the front of an input exactly where the input begins with a spelling of it, by the
  -- grammar.
  pub grammar : (bytes : List ℕ) (n : ℕ) (packet : Packet) → (packet_front bytes ≡ Whole n packet) ↔ ((n ≤ length bytes) × IsPacket (take n bytes) packet)
  -- What is known of a beginning stays so, whatever follows it.
  pub whole_stays : (bytes more : List ℕ) (n : ℕ) (packet : Packet) → packet_front bytes ≡ Whole n packet → packet_front (bytes ++ more) ≡ Whole n packet
  pub broken_stays : (bytes more : List ℕ) (n : ℕ) (fault : PktFault) → packet_front bytes ≡ Broken n fault → packet_front (bytes ++ more) ≡ Broken n fault
  -- What was written is read again, whatever follows it.
  pub written_is_read : (packet : Packet) (more : List ℕ) → IsWritable packet → packet_front (spelling packet ++ more) ≡ Whole (length (spelling packet)) packet
  -- No spelling of a packet, in digits of either case, begins the spelling of another.
  pub begins_no_other : (bytes more : List ℕ) (one other : Packet) → IsPacket bytes one → IsPacket (bytes ++ more) other → more ≡ []
