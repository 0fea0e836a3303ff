use Rattle.std.proofs.Common.{ℕ, ◌≡◌, nat_le, nat_lt, ◌&&◌}
use Rattle.refex.specs.ByteSet.{holds}
use Rattle.refex.proofs.bytes.ByteSet.range.Given as goal

abbrev pub invariant-loop-c : goal.invariant-loop-c
invariant-loop-c l = (k : ℕ) → holds l.set k ≡ (nat_le l.first k && nat_lt k l.c)
