-- Numbers that are drawn, the same in each run.
use Rattle.std.specs.Prelude.{ℕ, zero, suc, ◌+◌, ◌*◌, ◌%◌}

-- the number that is drawn behind this one
abbrev pub drawn_behind : ℕ → ℕ
drawn_behind x = (75 * x + 74) % 65537

-- The number that so many draws lead to; before any it is the start.
unfoldable pub drawn : ℕ → ℕ → ℕ
drawn start zero = start % 65537
drawn start (suc count) = drawn_behind (drawn start count)
