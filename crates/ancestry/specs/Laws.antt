-- Laws of the definitions.
use Rattle.std.specs.Prelude.{◌≡◌, ◌↔◌, ◌<◌, ◌⊎◌, ℕ, true, List, [], ◌∷◌, Option, None, IsSome}
use Rattle.std.specs.List.{Contains}
use Rattle.git_object.specs.Content.{Content}
use Rattle.git_object.specs.declared.object_id.ObjectId.{ObjectId}
use Rattle.git_object.specs.declared.kind.Kind.{Kind}
use Rattle.ref_store.specs.Objects.{first_named}
use Rattle.ancestry.specs.Ancestors.{parents_at, BringsMerge, IsAncestor, IsLine}
use Rattle.ancestry.specs.Generations.{HasGeneration, IsAfter}
use Rattle.ancestry.specs.Order.{IsLeast}
use Rattle.ancestry.specs.Reached.{IsReached}
use Rattle.ancestry.specs.Sent.{linked_at}
use Rattle.ancestry.specs.Walk.{Want, IsMet, met}
use Rattle.ancestry.specs.Wholeness.{is_missing, is_wrong, missing, wrong}

-- what a walk of any length meets is met by walks of as many links as there are objects, and nothing else is
abbrev pub MeetsWithinObjects : Type 0
MeetsWithinObjects = (objects : List Content) (root : ObjectId) (kind : Option Kind) (want : Want) → IsMet objects root kind want ↔ Contains (met objects root kind) want

-- some walk meets the id, and no object has the name
abbrev pub IsMissing : List Content → ObjectId → Option Kind → ObjectId → Type 0
IsMissing objects root kind id = (wanted : Option Kind) × IsMet objects root kind (id, wanted) × (is_missing objects (id, wanted) ≡ true)

-- some walk meets the id, and the object isn't of the kind wanted of it there
abbrev pub IsWrong : List Content → ObjectId → Option Kind → ObjectId → Type 0
IsWrong objects root kind id = (wanted : Option Kind) × IsMet objects root kind (id, wanted) × (is_wrong objects (id, wanted) ≡ true)

-- what is told missing is the least that any walk shows to be missing, and none where no walk does
abbrev pub MissingIsLeast : Type 0
MissingIsLeast = (objects : List Content) (root : ObjectId) (kind : Option Kind) → IsLeast (IsMissing objects root kind) (missing objects root kind)

-- what is told wrong is the least that any walk shows to be wrong, and none where no walk does
abbrev pub WrongIsLeast : Type 0
WrongIsLeast = (objects : List Content) (root : ObjectId) (kind : Option Kind) → IsLeast (IsWrong objects root kind) (wrong objects root kind)

-- an ancestor is one to which some line leads
abbrev pub LinesLeadToAncestors : Type 0
LinesLeadToAncestors = (objects : List Content) (ancestor id : ObjectId) → IsAncestor objects ancestor id ↔ ((line : List ObjectId) × IsLine objects id line ancestor)

-- an ancestor of an ancestor is one
abbrev pub AncestorsOfAncestors : Type 0
AncestorsOfAncestors = (objects : List Content) (first second third : ObjectId) → IsAncestor objects first second → IsAncestor objects second third → IsAncestor objects first third

-- a commit brings no merge to itself
abbrev pub NoMergeByItself : Type 0
NoMergeByItself = (objects : List Content) (id : ObjectId) → ¬ BringsMerge objects id id

-- a commit has one generation at most
abbrev pub OneGeneration : Type 0
OneGeneration = (objects : List Content) (id : ObjectId) (one other : ℕ) → HasGeneration objects id one → HasGeneration objects id other → one ≡ other

-- it is one more than the greatest of its parents', and zero where it has none
abbrev pub GenerationsFollowParents : Type 0
GenerationsFollowParents = (objects : List Content) (id : ObjectId) (generation : ℕ) → IsSome (first_named objects id) → IsAfter objects (parents_at objects id) generation → HasGeneration objects id generation

-- an ancestor, if it isn't the commit itself, is of a lower one
abbrev pub AncestorsAreLower : Type 0
AncestorsAreLower = (objects : List Content) (ancestor id : ObjectId) (lower higher : ℕ) → IsAncestor objects ancestor id → HasGeneration objects ancestor lower → HasGeneration objects id higher → (ancestor ≡ id) ⊎ (lower < higher)

-- what a fetch of an id reaches is what the walks meet that tell whether the id is whole
abbrev pub ReachedIsMet : Type 0
ReachedIsMet = (objects : List Content) (root id : ObjectId) → IsReached (linked_at objects) (root ∷ []) id ↔ ((kind : Option Kind) × IsMet objects root None (id, kind))
