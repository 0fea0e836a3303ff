-- Places in runs.
use Rattle.std.specs.Prelude.{◌≡◌, ◌↔◌, ℕ, ◌<◌, ◌≤◌, nat_le, nat_lt, Bool, true, false, ◌&&◌, ◌||◌, List}
use Rattle.std.specs.List.{All, AllPairs, Contains, list_any}
use Rattle.std.specs.List.Sorted.{IsStrictlyIncreasing}
use Rattle.ancestry.specs.declared.runs.Run.{Run}

-- from the first place of the run on, and before its end
abbrev pub is_within : Run → ℕ → Bool
is_within run place = nat_le run.from place && nat_lt place run.to

-- one of the runs has the place
abbrev pub is_in : List Run → ℕ → Bool
is_in runs place = list_any (λ run. is_within run place) runs

-- none is empty, and each ends before the next, or where that begins
pub record AreRuns (runs : List Run) : Type 0 where
  pub full : All (λ run. run.from < run.to) runs
  pub apart : AllPairs (λ one next. one.to ≤ next.from) runs

-- steps on the way, which private functions cite

-- from here on there is no such place
abbrev pub HasNoneFrom : (ℕ → Bool) → ℕ → Type 0
HasNoneFrom f at = (place : ℕ) → at ≤ place → f place ≡ false

-- the first such place from here on
pub record IsFirstFrom (f : ℕ → Bool) (at place : ℕ) : Type 0 where
  pub from : at ≤ place
  pub is : f place ≡ true
  pub none : (other : ℕ) → at ≤ other → other < place → f other ≡ false

-- such places alone are from here up to there; and where there are none, here is none
pub record IsPast (f : ℕ → Bool) (at past : ℕ) : Type 0 where
  pub from : at ≤ past
  pub all : (place : ℕ) → at ≤ place → place < past → f place ≡ true
  pub none : at ≡ past → f at ≡ false

-- the first run that ends behind a place
pub record IsFirstRun (runs : List Run) (at : ℕ) (run : Run) : Type 0 where
  pub behind : at < run.to
  pub full : run.from < run.to
  pub none : (place : ℕ) → at ≤ place → place < run.from → is_in runs place ≡ false
  pub all : (place : ℕ) → run.from ≤ place → place < run.to → is_in runs place ≡ true

-- one or the other has the place
abbrev pub is_in_one : List Run → List Run → ℕ → Bool
is_in_one one other place = is_in one place || is_in other place

-- the places that the one has and the other hasn't, in order
pub record AreOutside (runs without : List Run) (places : List ℕ) : Type 0 where
  pub order : IsStrictlyIncreasing places
  pub are_those : (place : ℕ) → Contains places place ↔ ((is_in runs place ≡ true) × (is_in without place ≡ false))
