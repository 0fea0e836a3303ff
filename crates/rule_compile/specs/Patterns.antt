-- Which texts are patterns, and what they match.
use Rattle.std.specs.Prelude.{ℕ, List, ◌≡◌, ◌↔◌, Bool, IsTrue, Option, Some, None}
use Rattle.refex.specs.Pattern.{Pattern, Starts, Whole}
use Rattle.refex.specs.Refex.{IsRefex, IsRefused, has_name}
use Rattle.refex.specs.declared.faults.Hole.{Hole}
use Rattle.refex.specs.declared.faults.Hole.TheVariants.{Creator, User}
use Rattle.refex.specs.declared.faults.RefexFault.{RefexFault}

-- the text is a refex, and it matches the name of a ref from its start, the user's name being in its hole
abbrev pub StartsName : List ℕ → List ℕ → List ℕ → Type 0
StartsName text user name = (p : Pattern) × IsRefex User text p × Starts p user name

-- the text is a pattern for names of repositories, and it matches the whole of the name, the creator's name
-- being in its hole
abbrev pub TakesName : List ℕ → List ℕ → List ℕ → Type 0
TakesName text creator name = (p : Pattern) × IsRefex Creator text p × Whole p creator name

-- the text is a pattern for names of repositories, and it has the hole
abbrev pub HasHole : List ℕ → Type 0
HasHole text = (p : Pattern) × IsRefex Creator text p × IsTrue (has_name p)

-- The answers to four questions on texts: why one is no pattern; whether a refex, for a user, starts the name
-- of a ref; whether a pattern, with a creator's name, takes the name of a repository; and whether it has the
-- hole for that name.
pub record Patterns : Type 0 where
  pub fault : Hole → List ℕ → Option RefexFault
  pub starts : List ℕ → List ℕ → List ℕ → Bool
  pub takes : List ℕ → List ℕ → List ℕ → Bool
  pub has_hole : List ℕ → Bool

-- the answers are those of the language of patterns
pub record AreTrue (ps : Patterns) : Type 0 where
  pub sound : (hole : Hole) (text : List ℕ) → ps.fault hole text ≡ None → (p : Pattern) × IsRefex hole text p
  pub refused : (hole : Hole) (text : List ℕ) (fault : RefexFault) → ps.fault hole text ≡ Some fault → IsRefused hole text fault
  pub from_start : (text user name : List ℕ) → IsTrue (ps.starts text user name) ↔ StartsName text user name
  pub whole : (text creator name : List ℕ) → IsTrue (ps.takes text creator name) ↔ TakesName text creator name
  pub hole : (text : List ℕ) → IsTrue (ps.has_hole text) ↔ HasHole text
