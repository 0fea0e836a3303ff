-- The walk over the rows below a tree: what was met, and what is looked up. It serves private functions
-- alone.
use Rattle.std.specs.Prelude.{◌≡◌, ◌⊎◌, ◌+◌, ◌<◌, ◌≤◌, ℕ, nat_le, if◌then◌else◌, List, [], ◌∷◌, ◌++◌, map, length, Option, None, Some}
use Rattle.std.specs.List.{All, AllZip, Contains}
use Rattle.git_object.specs.Content.{Content}
use Rattle.git_object.specs.Tree.{Entry, is_directory}
use Rattle.git_object.specs.declared.object_id.ObjectId.{ObjectId}
use Rattle.ref_store.specs.RefName.{pieces}
use Rattle.vref.specs.Rows.{Name, Path, row_at}
use Rattle.vref.specs.Walk.{front_of, tree_at}
use Rattle.conf_groups.specs.declared.conf_file.TheConstants.{MAX_FILE_NAME}
use Rattle.policy_swap.specs.Conf.{AreOnce, HasRow, HasTooManyRows, file_at, file_of}
use Rattle.policy_swap.specs.declared.rows.Row.{Row}
use Rattle.policy_swap.specs.declared.rows.Row.TheVariants.{Directory, File, Other}
use Rattle.policy_swap.specs.declared.rows.Stop.{Stop}
use Rattle.policy_swap.specs.declared.rows.Stop.TheVariants.{TooManyRows, NoMemory}
use Rattle.policy_swap.specs.declared.rows.TheConstants.{MAX_ROWS}

-- ---- the row of an entry

-- what comes before the names in a directory, where it leaves room for the name of a file
abbrev pub short_front : List ℕ → Option (List ℕ)
short_front text = if nat_le (length text) MAX_FILE_NAME then Some text else None

abbrev pub front_below : Option (List ℕ) → Name → Option (List ℕ)
front_below None name = None
front_below (Some front) name = short_front (front ++ name ++ 47 ∷ [])

abbrev pub file_row : Path → Option (List ℕ) → Row
file_row path None = Other
file_row path (Some text) = File (record { path = path; body = text })

abbrev pub other_row : List Content → Option (List ℕ) → Entry → Row
other_row objects None e = Other
other_row objects (Some front) e = file_row (front ++ e.name) (file_of objects (front ++ e.name) (Some e))

abbrev pub row_of : List Content → Option (List ℕ) → Entry → Row
row_of objects front e =
    if is_directory e then Directory (record { front = front_below front e.name; tree = Some e.id }) else other_row objects front e

-- ---- rows at their places

-- what comes before the names in a directory at these names
abbrev pub IsFront : List Name → Option (List ℕ) → Type 0
IsFront names (Some front) = front ≡ front_of names
IsFront names None = MAX_FILE_NAME < length (front_of names)

-- the places of rows, by names: that of the tree itself, and those of the paths
abbrev pub places : List Path → List (List Name)
places paths = [] ∷ map pieces paths

module _ (objects : List Content) (tree : Option ObjectId) where
  -- no path of these names is a file's
  abbrev pub IsNoFile : List Name → Type 0
  IsNoFile names = (path : Path) → pieces path ≡ names → file_at objects tree path ≡ None

  -- what is kept of the row at these names
  abbrev pub IsRow : List Name → Row → Type 0
  IsRow names (Directory folder) = (folder.tree ≡ tree_at objects tree names) × IsFront names folder.front × IsNoFile names
  IsRow names (File found) = (tree_at objects tree names ≡ None) × (pieces found.path ≡ names) × (file_at objects tree found.path ≡ Some found.body)
  IsRow names Other = (tree_at objects tree names ≡ None) × IsNoFile names

  -- Rows that were met, each at its place. `Looked` says which names were looked up in which directory: those
  -- that are there were met, and no others.
  pub record IsMet (Looked : List Name → Name → Type 0) (rows : List Row) (paths : List Path) : Type 0 where
    pub each : AllZip IsRow (places paths) rows
    pub there : All (HasRow objects tree) paths
    pub once : AreOnce paths
    pub looked : (path : Path) → Contains paths path → (names : List Name) × (name : Name) × (pieces path ≡ names ++ name ∷ []) × Looked names name
    pub all : (names : List Name) (name : Name) → Looked names name → ¬ (row_at objects tree (names ++ name ∷ []) ≡ None) → Contains (map pieces paths) (names ++ name ∷ [])

  -- all names were looked up in these directories
  abbrev pub IsIn : List (List Name) → List Name → Name → Type 0
  IsIn before names name = Contains before names

  -- and in one more those of some entries
  abbrev pub IsInOr : List (List Name) → List Name → List Entry → List Name → Name → Type 0
  IsInOr before here seen names name = IsIn before names name ⊎ ((names ≡ here) × Contains (map (λ e. e.name) seen) name)

  -- the first so many rows were looked through, and others are left
  pub record HasMet (rows : List Row) (at : ℕ) (paths : List Path) (before after : List (List Name)) : Type 0 where
    pub parts : places paths ≡ before ++ after
    pub count : length before ≡ at
    pub met : IsMet (IsIn before) rows paths

  abbrev pub Goes : List Row → ℕ → Type 0
  Goes rows at = (length rows ≤ MAX_ROWS + 1) × ((paths : List Path) × (before : List (List Name)) × (after : List (List Name)) × HasMet rows at paths before after)

  -- and of the next one, which is at these names, some entries
  pub record HasMetIn (rows : List Row) (at : ℕ) (here : List Name) (seen : List Entry) (paths : List Path) (before after : List (List Name)) : Type 0 where
    pub parts : places paths ≡ before ++ here ∷ after
    pub count : length before ≡ at
    pub met : IsMet (IsInOr before here seen) rows paths

  abbrev pub Expands : List Row → ℕ → List Name → List Entry → Type 0
  Expands rows at here seen =
      (length rows ≤ MAX_ROWS + 1) × ((paths : List Path) × (before : List (List Name)) × (after : List (List Name)) × HasMetIn rows at here seen paths before after)

  -- when all was looked through, each path that has a row was met
  pub record AreRows (rows : List Row) (paths : List Path) : Type 0 where
    pub each : AllZip IsRow (places paths) rows
    pub all : (path : Path) → HasRow objects tree path → Contains paths path

  abbrev pub IsWalked : List Row → Type 0
  IsWalked rows = ¬ HasTooManyRows objects tree × ((paths : List Path) × AreRows rows paths)

  -- why a walk stops
  abbrev pub Stops : Stop → Type 0
  Stops TooManyRows = HasTooManyRows objects tree
  Stops NoMemory = Unit {0}
