-- Laws of the definitions.
use Rattle.std.specs.Prelude.{◌≡◌, ◌∷◌, ◌++◌, false, List, Option, Some}
use Rattle.std.specs.List.{Contains}
use Rattle.git_object.specs.Content.{Content}
use Rattle.git_object.specs.Tree.{Entry, is_directory}
use Rattle.git_object.specs.declared.object_id.ObjectId.{ObjectId}
use Rattle.ref_store.specs.Refs.{IsBelow}
use Rattle.vref.specs.Rows.{Name, IsName, Path, entry_at, tree_below, row}
use Rattle.vref.specs.Paths.{Differs, DifferTooMuch, IsChanged, Lists}

-- a tree differs nowhere from itself
abbrev pub NoneFromItself : Type 0
NoneFromItself = (objects : List Content) (tree : Option ObjectId) (path : Path) → ¬ Differs objects tree tree path

-- it is all one which of two trees is the old one: they have the same changed paths
abbrev pub BothWays : Type 0
BothWays = (objects : List Content) (old new : Option ObjectId) (path : Path) → IsChanged objects old new path → IsChanged objects new old path

-- and both ways or neither there are too many
abbrev pub TooManyBothWays : Type 0
TooManyBothWays = (objects : List Content) (old new : Option ObjectId) → DifferTooMuch objects old new → DifferTooMuch objects new old

-- where trees differ at a path, they differ at each directory of it
abbrev pub DirectoriesDiffer : Type 0
DirectoriesDiffer = (objects : List Content) (old new : Option ObjectId) (path directory : Path) → IsBelow path directory → Differs objects old new path → Differs objects old new directory

-- where an entry of the old tree is no directory, and the new tree hasn't the same one at its path, the path
-- is among those that are listed
abbrev pub FilesListed : Type 0
FilesListed = (objects : List Content) (old new : Option ObjectId) (paths : List Path) → Lists (IsChanged objects old new) paths
    → (path : Path) (file : Entry) → row objects old path ≡ Some file → is_directory file ≡ false → ¬ (row objects new path ≡ Some file) → Contains paths path

-- behind a path and `/`, at a name, is the entry of that name in the tree below the path
abbrev pub RowBelowRow : Type 0
RowBelowRow = (objects : List Content) (tree : Option ObjectId) (path : Path) (name : Name) → IsName name → row objects tree (path ++ 47 ∷ name) ≡ entry_at objects (tree_below (row objects tree path)) name

-- at a name alone is the tree's entry of that name
abbrev pub RowOfRoot : Type 0
RowOfRoot = (objects : List Content) (tree : Option ObjectId) (name : Name) → IsName name → row objects tree name ≡ entry_at objects tree name

-- two lists of the changed paths are one
abbrev pub ListedOnce : Type 0
ListedOnce = (objects : List Content) (old new : Option ObjectId) (one other : List Path) → Lists (IsChanged objects old new) one → Lists (IsChanged objects old new) other → one ≡ other
