-- Counts, of faults above all: of links, of doors, of disks. A count never falls, and its type ends at 2 ^ 64
-- - 1.
use Rattle.std.specs.Prelude.{ℕ, ◌+◌, ◌-◌, ◌^◌, ◌≤◌, min}

-- one more, as far as the type reaches
abbrev pub one_more : ℕ → ℕ
one_more count = min (count + 1) (2 ^ 64 - 1)

-- A count has risen: it is at least one more than it was. A count that stands at its type's end is taken to
-- have risen.
abbrev pub HasRisen : ℕ → ℕ → Type 0
HasRisen before now = one_more before ≤ now
