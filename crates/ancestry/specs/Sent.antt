-- What a fetch sends.
use Rattle.std.specs.Prelude.{◌≡◌, ◌↔◌, ℕ, List, [], map, Some, slice_get}
use Rattle.std.specs.Option.{option_map_or}
use Rattle.std.specs.List.{Contains}
use Rattle.std.specs.List.Sorted.{IsStrictlyIncreasing}
use Rattle.git_object.specs.Content.{Content}
use Rattle.git_object.specs.Object.{links_of, object_name}
use Rattle.git_object.specs.declared.object_id.ObjectId.{ObjectId}
use Rattle.ref_store.specs.Objects.{first_named}
use Rattle.ancestry.specs.Reached.{IsReached}

-- the names to which the object of this name links; where there is none, it links nowhere
abbrev pub linked_at : List Content → ObjectId → List ObjectId
linked_at objects id = option_map_or (λ o. map (λ link. link.0) (links_of o.kind o.body)) (first_named objects id) []

-- the object at this place is reached from a want and from no have
pub record IsSent (objects : List Content) (wants haves : List ObjectId) (place : ℕ) : Type 0 where
  pub object : Content
  pub there : slice_get objects place ≡ Some object
  pub wanted : IsReached (linked_at objects) wants (object_name object)
  pub not_had : ¬ IsReached (linked_at objects) haves (object_name object)

-- the places of what is sent, in order
pub record AreSent (objects : List Content) (wants haves : List ObjectId) (places : List ℕ) : Type 0 where
  pub order : IsStrictlyIncreasing places
  pub are_those : (place : ℕ) → Contains places place ↔ IsSent objects wants haves place
