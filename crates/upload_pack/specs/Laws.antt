-- Laws of a fetch, and of what it is sent.
use Rattle.std.specs.Prelude.{◌≡◌, ◌↔◌, ◌⊎◌, ℕ, true, List, [], None}
use Rattle.std.specs.List.{Contains}
use Rattle.git_object.specs.Content.{Content}
use Rattle.git_object.specs.Object.{object_name}
use Rattle.git_object.specs.declared.object_id.ObjectId.{ObjectId}
use Rattle.hub_history.specs.Opening.{Opening}
use Rattle.hub_history.specs.Push.{HasWholeRefs}
use Rattle.hub_history.specs.State.{Repository, store_of}
use Rattle.ancestry.specs.Reached.{IsReached}
use Rattle.ancestry.specs.Sent.{linked_at}
use Rattle.interaction_tree.specs.Order.{IsOrdered}
use Rattle.upload_pack.specs.Sending.{is_reached, sent}
use Rattle.upload_pack.specs.Uploading.{uploading, wanting}
use Rattle.upload_pack.specs.Wants.{not_ours}

-- what is reached is what links lead to, in any number of steps
abbrev pub ReachedByLinks : Type 0
ReachedByLinks = (objects : List Content) (roots : List ObjectId) (id : ObjectId) → (is_reached objects roots id ≡ true) ↔ IsReached (linked_at objects) roots id

-- An object to which one links that is sent is sent too, or what is common leads to it.
abbrev pub LinksAreSent : Type 0
LinksAreSent =
    (objects : List Content) (wants haves : List ObjectId) (object linked : Content) → Contains (sent objects wants haves) object → Contains objects linked
    → Contains (linked_at objects (object_name object)) (object_name linked) → IsReached (linked_at objects) haves (object_name linked) ⊎ Contains (sent objects wants haves) linked

-- an object of this name is sent
abbrev pub IsSentOne : List Content → List ObjectId → List ObjectId → ObjectId → Type 0
IsSentOne objects wants haves id = (object : Content) × Contains (sent objects wants haves) object × (object_name object ≡ id)

-- Where the refs of a repository are whole, and each want is advertised, all that a want leads to is sent, or
-- what is common leads to it.
abbrev pub FetchesAreWhole : Type 0
FetchesAreWhole =
    (repository : Repository) (wants haves : List ObjectId) → HasWholeRefs repository → not_ours (store_of repository) wants ≡ None → (id : ObjectId) → IsReached (linked_at repository.objects) wants id
    → IsReached (linked_at repository.objects) haves id ⊎ IsSentOne repository.objects wants haves id

-- Nothing leads from nowhere, so that a clone, which has nothing, is sent all of it.
abbrev pub ClonesAreWhole : Type 0
ClonesAreWhole =
    (repository : Repository) (wants : List ObjectId) → HasWholeRefs repository → not_ours (store_of repository) wants ≡ None → (id : ObjectId) → IsReached (linked_at repository.objects) wants id
    → IsSentOne repository.objects wants [] id

-- What follows an opening for reading makes no entry, so it is in order, as is its second part alone.
abbrev pub FetchesAreOrdered : Type 0
FetchesAreOrdered = (opening : Opening) (offset : ℕ) → IsOrdered (uploading opening offset) × IsOrdered (wanting (store_of opening.pinned.repository) offset)
