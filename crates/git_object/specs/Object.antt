-- Objects: their forms, their names, and what they link to.
use Rattle.std.specs.Prelude.{◌≡◌, ℕ, ◌+◌, ◌≤◌, if◌then◌else◌, List, [], ◌∷◌, ◌++◌, All, length, map, Option, Some, None, option_to_list, codes, decimal}
use Rattle.std.specs.Option.{option_map, option_map_or}
use Rattle.std.specs.List.{filter_map}
use Rattle.std.specs.Str.{bytes_eq}
use Rattle.sha1.specs.Sha1.{sha1}
use Rattle.git_object.specs.Reader.{items}
use Rattle.git_object.specs.ObjectId.{id_from}
use Rattle.git_object.specs.Kind.{kind_word}
use Rattle.git_object.specs.Commit.{tree_line, parent_ids, commit_break}
use Rattle.git_object.specs.Tree.{Entry, tree_entry, tree_break, is_directory}
use Rattle.git_object.specs.Tag.{target_of, tag_break}
use Rattle.git_object.specs.Content.{Content}
use Rattle.git_object.specs.declared.object_id.ObjectId.{ObjectId}
use Rattle.git_object.specs.declared.kind.Kind.{Kind}
use Rattle.git_object.specs.declared.kind.Kind.TheVariants.{Commit, Tree, Blob, Tag}
use Rattle.git_object.specs.declared.fault.ObjFault.{ObjFault}
use Rattle.git_object.specs.declared.fault.ObjFault.TheVariants.{BadCommit, BadTree, BadTag}

-- the fault of a body of a kind; a blob has none
abbrev pub fault_of : Kind → List ℕ → Option ObjFault
fault_of Commit body = option_map BadCommit (commit_break body)
fault_of Tree body = option_map BadTree (tree_break body)
fault_of Blob body = None
fault_of Tag body = option_map BadTag (tag_break body)

-- what a name is the SHA-1 of: the kind's word, a space, the length of the body in decimal, a zero byte, the
-- body
abbrev pub named_bytes : Content → List ℕ
named_bytes o = kind_word o.kind ++ 32 ∷ [] ++ decimal (length o.body) ++ 0 ∷ [] ++ o.body

-- Git's name of an object (FIPS 180-4 has SHA-1)
abbrev pub object_name : Content → ObjectId
object_name o = id_from (sha1 (named_bytes o))

-- what every object keeps: a body of its kind's form that is not too long, and its name
pub record IsWhole (kind : Kind) (body : List ℕ) (name : ObjectId) : Type 0 where
  pub small : length body ≤ 16777216
  pub form : fault_of kind body ≡ None
  pub name_is : name ≡ object_name (record { kind = kind; body = body })

-- how many bytes the bodies of these objects have together
abbrev pub total_bytes : List Content → ℕ
total_bytes [] = 0
total_bytes (object ∷ objects) = length object.body + total_bytes objects

-- an object that a pack can have: its body is of the form of its kind, and not too long
pub record IsPackable (content : Content) : Type 0 where
  pub short : length content.body ≤ 16777216
  pub form : fault_of content.kind content.body ≡ None

-- one pack may bring these objects: at most 100,000, each of its kind's form, whose bodies have at most
-- 268,435,456 bytes together
pub record FitOnePack (objects : List Content) : Type 0 where
  pub few : length objects ≤ 100000
  pub formed : All IsPackable objects
  pub light : total_bytes objects ≤ 268435456

-- the parents of a commit, in the order of their lines
abbrev pub parents_of : Kind → List ℕ → List ObjectId
parents_of Commit body = parent_ids body
parents_of Tree body = []
parents_of Blob body = []
parents_of Tag body = []

-- the entries of a tree
abbrev pub entries_of : Kind → List ℕ → List Entry
entries_of Commit body = []
entries_of Tree body = items tree_entry body
entries_of Blob body = []
entries_of Tag body = []

-- what a tag names, and its kind
abbrev pub target_in : Kind → List ℕ → Option (ObjectId × Kind)
target_in Commit body = None
target_in Tree body = None
target_in Blob body = None
target_in Tag body = target_of body

-- the link of an entry: to a tree for a directory, none for a commit of another repository, to a blob for the
-- others
abbrev pub entry_link : Entry → Option (ObjectId × Kind)
entry_link e =
    if bytes_eq e.mode (codes "160000") then None
    else if is_directory e then Some (e.id, Tree)
    else Some (e.id, Blob)

-- the commits that these ids name
abbrev pub commit_links : List ObjectId → List (ObjectId × Kind)
commit_links ids = map (λ id. (id, Commit)) ids

-- the links of an object, each an id and the kind that it wants: a commit's tree and then its parents, what a
-- tree's entries and a tag name
abbrev pub links_of : Kind → List ℕ → List (ObjectId × Kind)
links_of Commit body = option_map_or (λ tree. (tree.0, Tree) ∷ commit_links (parent_ids body)) (tree_line body) []
links_of Tree body = filter_map entry_link (items tree_entry body)
links_of Blob body = []
links_of Tag body = option_to_list (target_of body)
