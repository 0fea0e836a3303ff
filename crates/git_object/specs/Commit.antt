-- The form of a commit, after Git's documentation of commit objects: a tree's line, any number of parents'
-- lines, and then any bytes that don't begin as another parent's line does.
use Rattle.std.specs.Prelude.{ℕ, ◌-◌, if◌then◌else◌, List, [], length, Option, Some, None, is_some, codes}
use Rattle.std.specs.Option.{option_map_or}
use Rattle.git_object.specs.Reader.{literal, items, behind}
use Rattle.git_object.specs.ObjectId.{id_line}
use Rattle.git_object.specs.declared.object_id.ObjectId.{ObjectId}

-- `tree`, a space, an id, a line feed
abbrev pub tree_line : List ℕ → Option (ObjectId × List ℕ)
tree_line = id_line (codes "tree ")

-- `parent`, a space, an id, a line feed
abbrev pub parent_line : List ℕ → Option (ObjectId × List ℕ)
parent_line = id_line (codes "parent ")

-- the ids of the parents' lines, which follow the tree's line
abbrev pub parent_ids : List ℕ → List ObjectId
parent_ids body = option_map_or (λ tree. items parent_line tree.1) (tree_line body) []

-- where what follows the last whole parent's line begins, if it begins as a parent's line does
abbrev pub broken_parent : List ℕ → List ℕ → Option ℕ
broken_parent body rest = if is_some (literal (codes "parent ") rest) then Some (length body - length rest) else None

-- where the first line that breaks the form begins
abbrev pub commit_break : List ℕ → Option ℕ
commit_break body = option_map_or (λ tree. broken_parent body (behind parent_line tree.1)) (tree_line body) (Some 0)
