-- What is sure of a session's end, by how its interaction was left.
use Rattle.std.proofs.Common.{◌≡◌, ◌⊎◌, ◌↔◌, inl, inr, refl, ap}
use Rattle.pktline_core.specs.LinkState.{LinkState}
use Rattle.interaction_tree.specs.Traces.{Ended, Failed, Halt, Memory}
use Rattle.session_core.specs.declared.end.SessionEnd.{SessionEnd}
use Rattle.session_core.specs.declared.end.SessionEnd.TheVariants.{Served, Denied, NoRepo, BadCommand, BadUser, Malformed, TooLong, Truncated, ReadFault, WriteFault, NoMemory, BadPack, NotOurRef}
use Rattle.session_core.specs.End.{HaltIsSure, IsSure, halt_of}
use Rattle.session_core.specs.Protocol.{SureByHalt}

abbrev IsLeft : Halt SessionEnd → Type 0
IsLeft halt = ((end : SessionEnd) × (halt ≡ Ended end)) ⊎ (halt ≡ Failed Memory)

is_left : (end : SessionEnd) → (halt_of end ≡ Ended end) ⊎ (end ≡ NoMemory) → IsLeft (halt_of end)
is_left end (inl same) = inl (end, same)
is_left end (inr lack) = inr (ap halt_of lack)

left_by : (end : SessionEnd) → IsLeft (halt_of end) → (halt_of end ≡ Ended end) ⊎ (end ≡ NoMemory)
left_by Served left = inl refl
left_by Denied left = inl refl
left_by NoRepo left = inl refl
left_by (BadPack fault) left = inl refl
left_by (NotOurRef id) left = inl refl
left_by BadCommand left = inl refl
left_by BadUser left = inl refl
left_by (Malformed offset) left = inl refl
left_by (TooLong count) left = inl refl
left_by Truncated left = inl refl
left_by ReadFault (inl one) = absurd (let gone = one.1 in cc)
left_by ReadFault (inr gone) = absurd cc
left_by WriteFault (inl one) = absurd (let gone = one.1 in cc)
left_by WriteFault (inr gone) = absurd cc
left_by NoMemory left = inr refl

pub halt_is_sure : (old new : LinkState) (end : SessionEnd) → IsSure old new end → HaltIsSure old new (halt_of end)
halt_is_sure old new end sure = λ reads writes. is_left end (sure reads writes)

pub sure_by_halt : SureByHalt
sure_by_halt old new end = (halt_is_sure old new end, λ sure reads writes. left_by end (sure reads writes))
