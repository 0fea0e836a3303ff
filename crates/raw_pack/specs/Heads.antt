-- The parts of which reading a head is made.
use Rattle.std.specs.Prelude.{ℕ, zero, suc, ◌+◌, ◌≤◌}
use Rattle.raw_pack.specs.declared.head.Head.{Head}

-- what the next byte of a size is worth, where so many may follow it
abbrev pub unit_of : ℕ → ℕ
unit_of zero = 33554432
unit_of (suc zero) = 262144
unit_of (suc (suc zero)) = 2048
unit_of (suc (suc (suc left))) = 16

-- a body of this head, behind bodies of so many bytes, is within the reader's limits
pub record IsTaken (sum : ℕ) (head : Head) : Type 0 where
  pub body : head.size ≤ 16777216
  pub both : sum + head.size ≤ 268435456
