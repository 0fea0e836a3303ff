-- The walk over two trees at once: the rows that were found, and what is left to do, in order.
use Rattle.std.specs.Prelude.{◌≡◌, ◌⊎◌, ℕ, ◌+◌, ◌*◌, ◌<◌, ◌≤◌, Bool, true, false, List, [], ◌∷◌, ◌++◌, length, map, get_or, reverse, sum_by, ◌||◌, Option, None, Some, is_some, if◌then◌else◌}
use Rattle.std.specs.List.{All, AllByRecursion, AllZip, Contains, flat_map}
use Rattle.std.specs.List.Sorted.{IsPermutation, IsSorted}
use Rattle.std.specs.Ordering.{nat_cmp}
use Rattle.std.specs.declared.cmp.Ordering.{Ordering}
use Rattle.std.specs.declared.cmp.Ordering.TheVariants.{Less}
use Rattle.std.specs.Cmp.Lexicographic.{slice_cmp}
use Rattle.git_object.specs.Content.{Content}
use Rattle.git_object.specs.declared.object_id.ObjectId.{ObjectId}
use Rattle.vref.specs.Differences.{AreDifferences, old_entry, new_entry}
use Rattle.vref.specs.declared.differences.Difference.{Difference}
use Rattle.vref.specs.Rows.{Name, IsName, Path, entries_in, entry_at, object_at, tree_below, row}
use Rattle.vref.specs.Paths.{Differs, DifferTooMuch, is_file, is_listed}
use Rattle.vref.specs.PathTable.{path_at, front_at, paths_of, IsWithin, AreLinked}
use Rattle.vref.specs.declared.path_table.Row.{Row}
use Rattle.vref.specs.declared.walk.Item.{Item}
use Rattle.vref.specs.declared.walk.Task.{Task}
use Rattle.vref.specs.declared.walk.Task.TheVariants.{Put, Enter}
use Rattle.vref.specs.declared.walk.Directory.{Directory}
use Rattle.vref.specs.declared.walk.Walker.{Walker}
use Rattle.vref.specs.declared.walk.Stop.{Stop}
use Rattle.vref.specs.declared.walk.Stop.TheVariants.{TooMuch, NoMemory}
use Rattle.vref.specs.declared.walk.TheConstants.{MAX_PATH, MAX_ROWS}

-- ---- names of directories

-- what comes before the names in a directory: its path and `/`, and in a root nothing
abbrev pub front_of : List Name → Path
front_of names = flat_map (λ name. name ++ 47 ∷ []) names

-- the tree at these names, each a directory's
abbrev pub tree_at : List Content → Option ObjectId → List Name → Option ObjectId
tree_at objects tree [] = tree
tree_at objects tree (name ∷ names) = tree_at objects (tree_below (entry_at objects tree name)) names

-- ---- what is left to do, in order

-- the paths that a task stands for: one path, or all that begin so
abbrev pub Spot : Type 0
Spot = Path × Bool

abbrev pub CoversAs : Bool → Path → Path → Type 0
CoversAs false front path = path ≡ front
CoversAs true front path = (rest : Path) × (path ≡ front ++ rest)

abbrev pub Covers : Spot → Path → Type 0
Covers spot path = CoversAs spot.1 spot.0 path

-- each path of one comes before each of the other, in the order of their bytes
abbrev pub IsBefore : Spot → Spot → Type 0
IsBefore a b = (p q : Path) → Covers a p → Covers b q → slice_cmp nat_cmp p q ≡ Less

abbrev pub AreInOrder : List Spot → Type 0
AreInOrder [] = Unit {0}
AreInOrder (a ∷ rest) = AllByRecursion (IsBefore a) rest × AreInOrder rest

-- a row's path alone, or all paths in a directory
abbrev pub spot_of : List Path → Task → Spot
spot_of paths (Put k) = (path_at paths k, false)
spot_of paths (Enter place) = (front_at paths place, true)

-- the rows that are in order, and behind them what is left to do
abbrev pub spots_of : List Path → List ℕ → List Task → List Spot
spots_of paths order next = map (λ k. (path_at paths k, false)) order ++ map (spot_of paths) next

abbrev pub puts_one : Task → ℕ
puts_one (Put k) = 1
puts_one (Enter place) = 0

abbrev pub IsTaskWithin : ℕ → Task → Type 0
IsTaskWithin count (Put k) = k < count
IsTaskWithin count (Enter place) = IsWithin count place

-- the last of the work is the next task
abbrev pub next_of : List Item → List Task
next_of work = map (λ i. i.task) (reverse work)

-- ---- the rows of a directory

abbrev pub row_of : Directory → Difference → Row
row_of at d = record {
  parent = at.place;
  name = d.name;
  old = tree_below (old_entry d);
  new = tree_below (new_entry d);
  listed = is_file (old_entry d) || is_file (new_entry d);
  length = at.front + length d.name.now;
}

-- the directory at a place, by its row
pub record IsDirectoryOfRow (place : ℕ) (r : Row) (at : Directory) : Type 0 where
  pub place_is : at.place ≡ Some place
  pub old_is : at.old ≡ r.old
  pub new_is : at.new ≡ r.new
  pub front_is : at.front ≡ r.length + 1

abbrev pub IsDirectoryOf : List Row → Directory → Option ℕ → Directory → Type 0
IsDirectoryOf rows root None at = at ≡ root
IsDirectoryOf rows root (Some k) at = (d : Row) → IsDirectoryOfRow k (get_or rows k d) at

-- the path is no longer than a path may be
abbrev pub IsShort : Directory → Difference → Type 0
IsShort at d = at.front + length d.name.now ≤ MAX_PATH

abbrev pub AreShort : Directory → List Difference → Type 0
AreShort at list = All (IsShort at) list

-- why rows are not made: a path is too long
abbrev pub IsTooLong : Directory → List Difference → Stop → Type 0
IsTooLong at list TooMuch = (d : Difference) × Contains list d × (MAX_PATH < at.front + length d.name.now)
IsTooLong at list NoMemory = Unit {0}

abbrev pub has_tree : Row → Bool
has_tree r = is_some r.old || is_some r.new

-- the tasks of some rows, with the rows' names; the first row is at this place
abbrev pub items_from : ℕ → List Row → List Item
items_from k [] = []
items_from k (r ∷ rs) = record { name = r.name; task = Put k } ∷ (if has_tree r then record { name = r.name; task = Enter (Some k) } ∷ items_from (k + 1) rs else items_from (k + 1) rs)

-- what a task is sorted by: a name, and `/` behind it where it stands for what is below
abbrev pub tail_of : Task → Path
tail_of (Put k) = []
tail_of (Enter place) = 47 ∷ []

abbrev pub key_of : Item → Path
key_of i = i.name.now ++ tail_of i.task

abbrev pub key_cmp : Item → Item → Ordering
key_cmp a b = slice_cmp nat_cmp (key_of a) (key_of b)

-- the same items, in the order of their keys
pub record SortsItems (before after : List Item) : Type 0 where
  pub same : IsPermutation before after
  pub sorted : IsSorted key_cmp after

-- ---- the walk

module _ (objects : List Content) (old new : Option ObjectId) where
  -- the tree of a directory
  abbrev pub tree_in : Option ObjectId → List Path → Option ℕ → Option ObjectId
  tree_in tree paths None = tree
  tree_in tree paths (Some k) = tree_below (row objects tree (path_at paths k))

  -- the directory at this place
  pub record IsDirectory (paths : List Path) (at : Directory) : Type 0 where
    pub old_is : at.old ≡ tree_in old paths at.place
    pub new_is : at.new ≡ tree_in new paths at.place
    pub front_is : at.front ≡ length (front_at paths at.place)

  -- of a row with this path
  pub record IsRight (path : Path) (r : Row) : Type 0 where
    pub differs : Differs objects old new path
    pub listed_is : r.listed ≡ is_listed objects old new path
    pub old_is : r.old ≡ tree_below (row objects old path)
    pub new_is : r.new ≡ tree_below (row objects new path)
    pub length_is : r.length ≡ length path
    pub short : r.length ≤ MAX_PATH

  -- each path right below a directory at which the trees differ has a row
  abbrev pub IsCompared : List Path → Option ℕ → Type 0
  IsCompared paths place = (name : Name) → IsName name → Differs objects old new (front_at paths place ++ name) → Contains paths (front_at paths place ++ name)

  -- the rows in order and what is left to do, the next task first
  pub record IsWalking (rows : List Row) (order : List ℕ) (next : List Task) : Type 0 where
    pub right : AllZip IsRight (paths_of rows) rows
    pub linked : AreLinked rows
    pub few : length rows ≤ MAX_ROWS
    pub order_within : All (λ k. k < length rows) order
    pub next_within : All (IsTaskWithin (length rows)) next
    pub in_order : AreInOrder (spots_of (paths_of rows) order next)
    pub counted : length order + sum_by puts_one next ≡ length rows
    pub each : (k : ℕ) → k < length rows → Contains order k ⊎ Contains next (Put k)
    pub closed : (place : Option ℕ) → IsWithin (length rows) place → Contains next (Enter place) ⊎ IsCompared (paths_of rows) place

  -- why a walk stops
  abbrev pub Stops : Stop → Type 0
  Stops TooMuch = DifferTooMuch objects old new
  Stops NoMemory = Unit {0}

-- where the two trees of a directory differ
abbrev pub Differing : List Content → Directory → List Difference → Type 0
Differing objects at list = AreDifferences (entries_in (object_at objects at.old)) (entries_in (object_at objects at.new)) list

-- no more than two tasks are added for a row
pub record IsSpent (before after : Walker) : Type 0 where
  pub rows : length before.rows.items ≤ length after.rows.items
  pub work : length after.work.items + 2 * length before.rows.items ≤ length before.work.items + 2 * length after.rows.items
