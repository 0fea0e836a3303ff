-- Ascending lists of numbers. It serves private functions alone.
use Rattle.std.specs.Prelude.{ℕ, ◌+◌, List, [], ◌∷◌, length, nat_lt, nat_eq, if◌then◌else◌, Option, Some, None}
use Rattle.rule_compile.specs.declared.cursor.Cursor.{Cursor}

abbrev pub first_of : List ℕ → Option ℕ
first_of [] = None
first_of (n ∷ ns) = Some n

-- the lesser of two numbers, where there are two
abbrev pub least_of : Option ℕ → Option ℕ → Option ℕ
least_of None other = other
least_of (Some n) None = Some n
least_of (Some n) (Some m) = if nat_lt m n then Some m else Some n

-- the numbers without the first where that is this one
abbrev pub after : List ℕ → ℕ → List ℕ
after [] n = []
after (m ∷ ms) n = if nat_eq m n then ms else m ∷ ms

-- how many numbers are left
abbrev pub left_of : Cursor → ℕ
left_of c = length c.plain.now + length c.all.now + length c.patterns.now
