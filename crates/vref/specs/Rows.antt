-- The rows of a tree: what is in it at a path, directories too.
use Rattle.std.specs.Prelude.{◌≡◌, ℕ, ◌==◌, false, if◌then◌else◌, List, [], ◌∷◌, Option, None, Some}
use Rattle.std.specs.Option.{option_map_or}
use Rattle.std.specs.List.{find, list_any}
use Rattle.std.specs.Str.{bytes_eq}
use Rattle.git_object.specs.Content.{Content}
use Rattle.git_object.specs.Object.{entries_of}
use Rattle.git_object.specs.Tree.{Entry, is_directory}
use Rattle.git_object.specs.declared.object_id.ObjectId.{ObjectId}
use Rattle.ref_store.specs.Objects.{first_named}
use Rattle.ref_store.specs.RefName.{pieces}

-- a name in a tree
abbrev pub Name : Type 0
Name = List ℕ

-- no `/` in it
abbrev pub IsName : Name → Type 0
IsName name = list_any (λ c. c == 47) name ≡ false

-- names with `/` between them
abbrev pub Path : Type 0
Path = List ℕ

-- the entries of a tree; where no tree is, none
abbrev pub entries_in : Option Content → List Entry
entries_in object = option_map_or (λ o. entries_of o.kind o.body) object []

-- the object of this name; without a name, none
abbrev pub object_at : List Content → Option ObjectId → Option Content
object_at objects None = None
object_at objects (Some id) = first_named objects id

-- the entry of this name, where there is one
abbrev pub entry_named : List Entry → Name → Option Entry
entry_named entries name = find (λ e. bytes_eq e.name name) entries

-- the entry of this name in a tree; no id stands for the empty tree
abbrev pub entry_at : List Content → Option ObjectId → Name → Option Entry
entry_at objects tree name = entry_named (entries_in (object_at objects tree)) name

-- the tree below an entry: only a directory has one
abbrev pub tree_below : Option Entry → Option ObjectId
tree_below None = None
tree_below (Some e) = if is_directory e then Some e.id else None

-- what is in a tree at these names, each but the last a directory's
abbrev pub row_at : List Content → Option ObjectId → List Name → Option Entry
row_at objects tree [] = None
row_at objects tree (name ∷ []) = entry_at objects tree name
row_at objects tree (name ∷ next ∷ names) = row_at objects (tree_below (entry_at objects tree name)) (next ∷ names)

-- what is in a tree at a path: a mode and an id, under the path's last name
abbrev pub row : List Content → Option ObjectId → Path → Option Entry
row objects tree path = row_at objects tree (pieces path)
