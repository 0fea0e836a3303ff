-- What the check of a tree keeps of the entries before the one that it reads.
use Rattle.std.specs.Prelude.{◌≡◌, true, ℕ, List, [], ◌∷◌, ◌++◌, map, if◌then◌else◌}
use Rattle.std.specs.List.{slice_get}
use Rattle.std.specs.Option.{option_map}
use Rattle.git_object.specs.Tree.{Entry, entry_of, is_directory, sorts_below}
use Rattle.git_object.specs.declared.tree.Before.{Before}

-- the names of what is no directory, in the order in which they were read; of the entries the nearest comes
-- first
abbrev pub file_names : List Entry → List (List ℕ)
file_names [] = []
file_names (e ∷ es) = if is_directory e then file_names es else file_names es ++ e.name ∷ []

-- each of these sorts below an entry
abbrev pub AllBelow : List Entry → Entry → Type 0
AllBelow [] e = Unit {0}
AllBelow (f ∷ fs) e = (sorts_below f e ≡ true) × AllBelow fs e

-- each entry sorts above all that were read before it
abbrev pub Rise : List Entry → Type 0
Rise [] = Unit {0}
Rise (e ∷ es) = AllBelow es e × Rise es

-- the nearest entry, and the names of the files
pub record Keeps (kept : Before) (before : List Entry) : Type 0 where
  pub nearest : option_map entry_of kept.nearest ≡ slice_get before 0
  pub rise : Rise before
  pub files : map (λ f. f.now) kept.files.items ≡ file_names before
