-- What some objects lead to, as places.
use Rattle.std.specs.Prelude.{◌≡◌, ◌↔◌, ◌⊎◌, ℕ, ◌<◌, Bool, true, false, not, List, [], ◌∷◌, ◌++◌, length, filter, IsSome}
use Rattle.std.specs.Option.{option_map_or}
use Rattle.std.specs.List.{Contains}
use Rattle.git_object.specs.Content.{Content}
use Rattle.git_object.specs.declared.object_id.ObjectId.{ObjectId}
use Rattle.ref_store.specs.Objects.{place_of}
use Rattle.ancestry.specs.declared.closures.Closures.{Closures}
use Rattle.ancestry.specs.declared.runs.Run.{Run}
use Rattle.ancestry.specs.declared.runs.Runs.{Runs}
use Rattle.ancestry.specs.Reached.{IsReached}
use Rattle.ancestry.specs.Runs.{is_in, is_in_one}
use Rattle.ancestry.specs.Sent.{linked_at}

-- the object of this name is there, and its place is in the runs
abbrev pub is_held : List Content → List Run → ObjectId → Bool
is_held objects runs id = option_map_or (λ place. is_in runs place) (place_of objects id) false

-- all that the object of this name leads to is there, itself too, and just that is in the runs
pub record IsClosure (objects : List Content) (id : ObjectId) (runs : List Run) : Type 0 where
  pub within : (place : ℕ) → is_in runs place ≡ true → place < length objects
  pub are_those : (to : ObjectId) → is_held objects runs to ≡ true ↔ IsReached (linked_at objects) (id ∷ []) to

-- so with each of these
abbrev pub AreClosures : List Content → Closures → Type 0
AreClosures objects closures = (id : ObjectId) (runs : Runs) → Contains closures (id, runs) → IsClosure objects id runs

-- the more objects begin with the fewer
abbrev pub Begins : List Content → List Content → Type 0
Begins fewer more = (rest : List Content) × (more ≡ fewer ++ rest)

-- steps on the way, which private functions cite

-- there is an object of this name
abbrev pub IsThere : List Content → ObjectId → Type 0
IsThere objects id = IsSome (place_of objects id)

-- the links, but to what the runs hold none
abbrev pub linked_unheld : List Content → List Run → ObjectId → List ObjectId
linked_unheld objects runs id = filter (λ to. not (is_held objects runs to)) (linked_at objects id)

-- what an object that is there and in the runs links to is in them, if it is there
pub record AreClosed (objects : List Content) (runs : List Run) : Type 0 where
  pub within : (place : ℕ) → is_in runs place ≡ true → place < length objects
  pub links : (from to : ObjectId) → is_held objects runs from ≡ true → Contains (linked_at objects from) to → IsThere objects to → is_held objects runs to ≡ true

-- what the runs had and what is reached from the roots: that which is there, and nothing else
pub record Closes (objects : List Content) (roots : List ObjectId) (before after : List Run) : Type 0 where
  pub within : (place : ℕ) → is_in after place ≡ true → place < length objects
  pub are_those : (id : ObjectId) → is_held objects after id ≡ true ↔ ((is_held objects before id ≡ true) ⊎ (IsThere objects id × IsReached (linked_at objects) roots id))

-- the place is that of a kept closure of something that is reached, all of which the runs have
pub record IsOfClosure (objects : List Content) (closures : Closures) (roots : List ObjectId) (runs : List Run) (place : ℕ) : Type 0 where
  pub id : ObjectId
  pub closure : Runs
  pub kept : Contains closures (id, closure)
  pub reached : IsReached (linked_at objects) roots id
  pub is : is_in closure place ≡ true
  pub all : (other : ℕ) → is_in closure other ≡ true → is_in runs other ≡ true

-- the runs as they were, and with them closures of what is reached
pub record Joins (objects : List Content) (closures : Closures) (roots : List ObjectId) (before after : List Run) : Type 0 where
  pub keeps : (place : ℕ) → is_in before place ≡ true → is_in after place ≡ true
  pub comes : (place : ℕ) → is_in after place ≡ true → (is_in before place ≡ true) ⊎ IsOfClosure objects closures roots after place

-- the runs as they were, or with them the closure of this object
abbrev pub JoinsOne : Closures → ObjectId → List Run → List Run → Type 0
JoinsOne closures id before after = (after ≡ before) ⊎ ((closure : Runs) × Contains closures (id, closure) × ((place : ℕ) → is_in after place ≡ is_in_one before closure place))
