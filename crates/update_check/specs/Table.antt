-- A table of outcomes: rows in order, of which the first that has an outcome counts.
use Rattle.std.specs.Prelude.{◌≡◌, Option, None, Some}

-- A row has an outcome, or none. An outcome counts before the rows behind it; where the row has none, they
-- are asked.
pub data First {O : Type 0} (Row Behind : Option O → Type 0) : Option O → Type 0 where
  Counts : (outcome : O) → Row (Some outcome) → First Row Behind (Some outcome)
  Passes : (found : Option O) → Row None → Behind found → First Row Behind found

-- behind the last row there is none
abbrev pub End : {O : Type 0} → Option O → Type 0
End found = found ≡ None
