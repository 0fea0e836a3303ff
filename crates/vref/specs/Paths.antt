-- Where two trees differ.
use Rattle.std.specs.Prelude.{◌≡◌, ◌⊎◌, ◌↔◌, ◌<◌, ◌||◌, not, Bool, true, false, List, length, Option, None, Some}
use Rattle.std.specs.List.{All, Contains}
use Rattle.std.specs.List.Sorted.{IsStrictlySortedBy}
use Rattle.std.specs.Ordering.{nat_cmp}
use Rattle.std.specs.Cmp.Lexicographic.{slice_cmp}
use Rattle.git_object.specs.Content.{Content}
use Rattle.git_object.specs.Tree.{Entry, is_directory}
use Rattle.git_object.specs.declared.object_id.ObjectId.{ObjectId}
use Rattle.vref.specs.Rows.{Path, row}
use Rattle.vref.specs.Root.{root_of}
use Rattle.vref.specs.declared.paths.Paths as outcome
use Rattle.vref.specs.declared.paths.Paths.TheVariants.{Listed, TooMany, NoMemory}
use Rattle.vref.specs.declared.walk.TheConstants.{MAX_PATH, MAX_ROWS}

-- each path comes before those behind it, in the order of their bytes
abbrev pub Ascend : List Path → Type 0
Ascend paths = IsStrictlySortedBy (slice_cmp nat_cmp) paths

-- the paths of which this holds, in byte order, each once
pub record Lists (P : Path → Type 0) (paths : List Path) : Type 0 where
  pub ascend : Ascend paths
  pub are_those : (p : Path) → Contains paths p ↔ P p

-- a file, a symlink or a submodule: there is an entry, and it is no directory
abbrev pub is_file : Option Entry → Bool
is_file None = false
is_file (Some e) = not (is_directory e)

module _ (objects : List Content) (old new : Option ObjectId) where
  -- the trees differ at a path: in whether an entry is there, in its mode, or in its id
  abbrev pub Differs : Path → Type 0
  Differs path = ¬ (row objects old path ≡ row objects new path)

  -- they differ at more than 200,000 paths, as an ascending list of more of them shows, or at one of more
  -- than 4,096 bytes
  abbrev pub DifferTooMuch : Type 0
  DifferTooMuch = ((paths : List Path) × Ascend paths × All Differs paths × (MAX_ROWS < length paths)) ⊎ ((path : Path) × Differs path × (MAX_PATH < length path))

  -- on one side at least is an entry other than a directory
  abbrev pub is_listed : Path → Bool
  is_listed path = is_file (row objects old path) || is_file (row objects new path)

  -- a changed path
  abbrev pub IsChanged : Path → Type 0
  IsChanged path = Differs path × (is_listed path ≡ true)

  -- what is returned of two trees: the changed paths where they don't differ too much, and else that they do;
  -- out of memory only where the two aren't one tree
  abbrev pub TellsOfTrees : outcome.Paths → Type 0
  TellsOfTrees (Listed paths) = ¬ DifferTooMuch × Lists IsChanged paths
  TellsOfTrees TooMany = DifferTooMuch
  TellsOfTrees NoMemory = ¬ (old ≡ new)

-- what is returned of a change from one id to another: that of the trees for which they stand
abbrev pub TellsOfPaths : List Content → ObjectId → ObjectId → outcome.Paths → Type 0
TellsOfPaths objects old new paths = TellsOfTrees objects (root_of objects old) (root_of objects new) paths
