-- The form of a tree, after Git's documentation of tree objects: entries, one after another, in order.
use Rattle.std.specs.Prelude.{ℕ, ◌+◌, ◌&&◌, ◌||◌, not, Bool, true, if◌then◌else◌, nat_le, ◌==◌, List, [], ◌∷◌, ◌++◌, length, take, drop, Option, Some, None, codes}
use Rattle.std.specs.List.{list_any}
use Rattle.std.specs.Str.{bytes_eq}
use Rattle.std.specs.Ordering.{nat_cmp, is_lt}
use Rattle.std.specs.Cmp.Lexicographic.{slice_cmp}
use Rattle.git_object.specs.Reader.{◌>>=◌, up_to, items, behind}
use Rattle.git_object.specs.ObjectId.{id_from}
use Rattle.git_object.specs.declared.object_id.ObjectId.{ObjectId}
use Rattle.git_object.specs.declared.tree.TreeEntry.{TreeEntry}

-- an entry without where it lies in memory
pub record Entry : Type 0 where
  pub mode : List ℕ
  pub name : List ℕ
  pub id : ObjectId

abbrev pub entry_of : TreeEntry → Entry
entry_of e = record { mode = e.mode.now; name = e.name.now; id = e.id }

-- a directory; a file, one that its group may write, one that can be run; a symbolic link; a commit of
-- another repository
abbrev pub is_mode : List ℕ → Bool
is_mode mode =
    bytes_eq mode (codes "40000")
    || bytes_eq mode (codes "100644") || bytes_eq mode (codes "100664") || bytes_eq mode (codes "100755")
    || bytes_eq mode (codes "120000")
    || bytes_eq mode (codes "160000")

-- not empty, and without `/`
abbrev pub is_entry_name : List ℕ → Bool
is_entry_name name = not (length name == 0) && not (list_any (λ c. c == 47) name)

-- twenty bytes
abbrev pub id_at : List ℕ → Option (ObjectId × List ℕ)
id_at bytes = if nat_le 20 (length bytes) then Some (id_from (take 20 bytes), drop 20 bytes) else None

-- an entry at the front: a mode, a space, a name, a zero byte, the twenty bytes of an id
unfoldable pub tree_entry : List ℕ → Option (Entry × List ℕ)
tree_entry bytes = do
  mode ← up_to 32 bytes
  name ← up_to 0 mode.1
  id ← id_at name.1
  if is_mode mode.0 && is_entry_name name.0 then Some (record { mode = mode.0; name = name.0; id = id.0 }, id.1) else None

-- how many bytes an entry has
abbrev pub size : Entry → ℕ
size e = length e.mode + length e.name + 22

abbrev pub is_directory : Entry → Bool
is_directory e = bytes_eq e.mode (codes "40000")

-- what the order of entries compares: a directory's name is compared as if `/` followed it
abbrev pub sort_key : Entry → List ℕ
sort_key e = e.name ++ (if is_directory e then 47 ∷ [] else [])

abbrev pub sorts_below : Entry → Entry → Bool
sorts_below e f = is_lt (slice_cmp nat_cmp (sort_key e) (sort_key f))

-- whether an entry may stand behind those before it, of which the nearest comes first:
-- it sorts above the nearest, and none of them has its name
abbrev pub may_follow : List Entry → Entry → Bool
may_follow [] e = true
may_follow (nearest ∷ others) e = sorts_below nearest e && not (list_any (λ f. bytes_eq f.name e.name) (nearest ∷ others))

-- where the first entry that breaks the form begins, among entries from a place on that are followed by
-- `rest`: an entry that may not stand behind those before it, or else what isn't a whole entry
abbrev pub first_break : List Entry → ℕ → List Entry → List ℕ → Option ℕ
first_break before at [] [] = None
first_break before at [] (_ ∷ _) = Some at
first_break before at (e ∷ es) rest = if may_follow before e then first_break (e ∷ before) (at + size e) es rest else Some at

-- where the first entry that breaks the form begins
abbrev pub tree_break : List ℕ → Option ℕ
tree_break body = first_break [] 0 (items tree_entry body) (behind tree_entry body)
