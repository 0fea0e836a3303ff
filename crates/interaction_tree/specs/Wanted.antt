-- What may be wanted of an input, and what a reading of it replies.
use Rattle.std.specs.Prelude.{ℕ, suc, nat_le, List, length, take, if◌then◌else◌, Result, Ok, Err}
use Rattle.base_types.specs.Fronts.{Front, Whole, Broken, Partial}
use Rattle.git_object.specs.Content.{Content}
use Rattle.pktline_core.specs.Packets as packets
use Rattle.pktline_core.specs.declared.packets.PktFault.{PktFault}
use Rattle.raw_pack.specs.Packs.{pack_front}
use Rattle.raw_pack.specs.declared.fault.PackFault.{PackFault}
use Rattle.request_head.specs.Heads.{head_front}
use Rattle.request_head.specs.declared.head.HeadFault.{HeadFault}

pub data Wanted : Type 0 where
  -- a packet of Git's protocol
  Packet : Wanted
  -- a raw pack
  Pack : Wanted
  -- the head of a request of HTTP
  Head : Wanted
  -- this, of an input that ends behind so many bytes and one
  Within : ℕ → Wanted → Wanted

-- why it doesn't stand there
abbrev pub Fault : Wanted → Type 0
Fault Packet = PktFault
Fault Pack = PackFault
Fault Head = HeadFault
Fault (Within most wanted) = Fault wanted

-- what is read where it stands there; of a part of an input, it or the fault by which the part ended inside it
abbrev pub Value : Wanted → Type 0
Value Packet = packets.Packet
Value Pack = List Content
Value Head = List ℕ
Value (Within most wanted) = Result (Value wanted) (Fault wanted)

-- What stands at the front of an input, by what stands at the front of its first so many bytes: where these
-- are all there, and end inside what is wanted, they are read with that fault.
abbrev pub of_part : {V F : Type 0} → ℕ → List ℕ → Front V F → Front (Result V F) F
of_part most input (Whole used value) = Whole used (Ok value)
of_part most input (Broken used fault) = Broken used fault
of_part most input (Partial fault) = if nat_le most (length input) then Whole most (Err fault) else Partial fault

-- what stands at the front of an input where this is wanted
unfoldable pub front_of : (wanted : Wanted) → List ℕ → Front (Value wanted) (Fault wanted)
front_of Packet input = packets.packet_front input
front_of Pack input = pack_front input
front_of Head input = head_front input
front_of (Within most wanted) input = of_part (suc most) input (front_of wanted (take (suc most) input))

-- how many bytes a reading used, and the value or the fault that they show
pub record Reply (wanted : Wanted) : Type 0 where
  pub used : ℕ
  pub found : Result (Value wanted) (Fault wanted)

-- what stands at the front of an input of which a reading finds this in so many bytes
abbrev pub shown : {V F : Type 0} → ℕ → Result V F → Front V F
shown used (Ok value) = Whole used value
shown used (Err fault) = Broken used fault

-- by what stands at the front: the one where the input ends inside it, the other where it is decided
abbrev pub by_front : {V F X : Type 0} → Front V F → (F → X) → (ℕ → Result V F → X) → X
by_front (Whole used value) cut_off decided = decided used (Ok value)
by_front (Broken used fault) cut_off decided = decided used (Err fault)
by_front (Partial fault) cut_off decided = cut_off fault
