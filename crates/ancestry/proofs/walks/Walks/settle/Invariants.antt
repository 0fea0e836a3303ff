use Rattle.std.proofs.Common.{◌≡◌, ◌+◌, ◌-◌, ◌*◌, ◌^◌, length, vec_len}
use Rattle.ancestry.proofs.walks.Walks.settle.Given as goal

abbrev pub invariant-loop-id : goal.invariant-loop-id
invariant-loop-id l = (l.self ≡ l.fn.self) × (l.lens ≡ l.self)

-- what is still to be entered, and then what is still to be done
abbrev pub decreases-loop-id : goal.decreases-loop-id
decreases-loop-id l = (2 ^ 63 - length l.entered.keys) * 2 ^ 63 + vec_len l.work
