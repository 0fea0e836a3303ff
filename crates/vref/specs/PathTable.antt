-- A table of paths that share their fronts: a row has its directory's place and the last name of its path.
use Rattle.std.specs.Prelude.{ℕ, ◌+◌, ◌<◌, Bool, false, List, [], ◌∷◌, ◌++◌, map, get_or, slice_get, Option, None, Some}
use Rattle.std.specs.List.{filter}
use Rattle.std.specs.Option.{option_map_or}
use Rattle.vref.specs.Rows.{Path}
use Rattle.vref.specs.declared.path_table.Row.{Row}

abbrev pub path_at : List Path → ℕ → Path
path_at paths k = get_or paths k []

-- what comes before the names in a directory: its path and `/`, and in the root, which has no row, nothing
abbrev pub front_at : List Path → Option ℕ → Path
front_at paths None = []
front_at paths (Some k) = path_at paths k ++ 47 ∷ []

-- the paths of some rows, behind those of the rows before them
abbrev pub paths_behind : List Path → List Row → List Path
paths_behind paths [] = paths
paths_behind paths (r ∷ rs) = paths_behind (paths ++ (front_at paths r.parent ++ r.name.now) ∷ []) rs

-- the path of each row
abbrev pub paths_of : List Row → List Path
paths_of rows = paths_behind [] rows

-- the directory is the root, or one of the first so many rows
abbrev pub IsWithin : ℕ → Option ℕ → Type 0
IsWithin count None = Unit {0}
IsWithin count (Some k) = k < count

-- the directory of each row comes before it; the first row is at this place
abbrev pub AreLinkedFrom : ℕ → List Row → Type 0
AreLinkedFrom place [] = Unit {0}
AreLinkedFrom place (r ∷ rs) = IsWithin place r.parent × AreLinkedFrom (place + 1) rs

abbrev pub AreLinked : List Row → Type 0
AreLinked rows = AreLinkedFrom 0 rows

-- whether the row at this place is listed
abbrev pub is_listed_at : List Row → ℕ → Bool
is_listed_at rows k = option_map_or (λ r. r.listed) (slice_get rows k) false

-- the paths of the rows that are listed, in this order
abbrev pub listed_paths : List Row → List ℕ → List Path
listed_paths rows order = map (path_at (paths_of rows)) (filter (is_listed_at rows) order)
