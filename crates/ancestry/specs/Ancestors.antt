-- Ancestors of commits, and the merges among them.
use Rattle.std.specs.Prelude.{◌≡◌, ◌≤◌, List, [], ◌∷◌, length}
use Rattle.std.specs.Option.{option_map_or}
use Rattle.std.specs.List.{Contains}
use Rattle.git_object.specs.Content.{Content}
use Rattle.git_object.specs.Object.{parents_of}
use Rattle.git_object.specs.declared.object_id.ObjectId.{ObjectId}
use Rattle.ref_store.specs.Objects.{first_named}
use Rattle.ancestry.specs.Reached.{IsReached}

-- the parents of the commit of this name; nothing else has any
abbrev pub parents_at : List Content → ObjectId → List ObjectId
parents_at objects id = option_map_or (λ o. parents_of o.kind o.body) (first_named objects id) []

-- a commit is an ancestor of itself, and a parent of an ancestor is one
abbrev pub IsAncestor : List Content → ObjectId → ObjectId → Type 0
IsAncestor objects ancestor id = IsReached (parents_at objects) (id ∷ []) ancestor

-- a line of commits that leads from one back to another: each is a parent of the one before
abbrev pub IsLine : List Content → ObjectId → List ObjectId → ObjectId → Type 0
IsLine objects from [] to = from ≡ to
IsLine objects from (next ∷ line) to = Contains (parents_at objects from) next × IsLine objects next line to

-- a commit with two parents or more
abbrev pub IsMerge : List Content → ObjectId → Type 0
IsMerge objects id = 2 ≤ length (parents_at objects id)

-- some merge is an ancestor of the new commit and not of the old one
abbrev pub BringsMerge : List Content → ObjectId → ObjectId → Type 0
BringsMerge objects old new = (id : ObjectId) × IsAncestor objects id new × IsMerge objects id × ¬ IsAncestor objects id old

-- steps on the way, which private functions cite

-- a merge is among these, and not among those
abbrev pub HasMerge : List Content → List ObjectId → List ObjectId → Type 0
HasMerge objects among without = (id : ObjectId) × Contains among id × IsMerge objects id × ¬ Contains without id
