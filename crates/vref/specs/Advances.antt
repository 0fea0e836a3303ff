-- How commits follow others, many at once.
use Rattle.std.specs.Prelude.{◌↔◌, ℕ, List, IsTrue}
use Rattle.std.specs.List.{Contains}
use Rattle.git_object.specs.Content.{Content}
use Rattle.git_object.specs.declared.object_id.ObjectId.{ObjectId}
use Rattle.ancestry.specs.Ancestors.{BringsMerge, IsAncestor}
use Rattle.ancestry.specs.declared.ancestors.Advance.{Advance}
use Rattle.vref.specs.Marks.{Has, IsMarked}

-- how the second commit of a pair follows the first
pub record IsAdvance (objects : List Content) (pair : ObjectId × ObjectId) (advance : Advance) : Type 0 where
  -- the first is an ancestor of the second
  pub forward : IsTrue advance.forward ↔ IsAncestor objects pair.0 pair.1
  -- a merge is an ancestor of the second and not of the first
  pub merge : IsTrue advance.merge ↔ BringsMerge objects pair.0 pair.1

-- the bits of those pairs of which a merge is marked for the new commit and not for the old one
abbrev pub AreFresh : List ℕ → List ℕ → List ℕ → ℕ → Type 0
AreFresh merges of_old of_new word = (bit : ℕ) → Has word bit ↔ ((i : ℕ) × Contains merges i × IsMarked of_new i bit × ¬ IsMarked of_old i bit)
