-- Lists of objects: what they have of a name, and what a pack adds to them.
use Rattle.std.specs.Prelude.{◌≡◌, ℕ, suc, ◌<◌, Bool, nat_eq, List, [], ◌∷◌, ◌++◌, take, Option, None, Some, slice_get, if◌then◌else◌}
use Rattle.std.specs.List.{list_any, AllPairs}
use Rattle.std.specs.Option.{option_map}
use lib.Pointwise.{pointwise}
use Rattle.git_object.specs.Content.{Content}
use Rattle.git_object.specs.Object.{object_name}
use Rattle.git_object.specs.declared.object_id.ObjectId.{ObjectId}

abbrev pub same_id : ObjectId → ObjectId → Bool
same_id a b = pointwise nat_eq a.bytes b.bytes

-- an object of this name is there
abbrev pub has_object : List Content → ObjectId → Bool
has_object objects id = list_any (λ o. same_id id (object_name o)) objects

-- the object of this name that stands first
abbrev pub first_named : List Content → ObjectId → Option Content
first_named [] id = None
first_named (o ∷ os) id = if same_id id (object_name o) then Some o else first_named os id

-- the place of that object
abbrev pub place_of : List Content → ObjectId → Option ℕ
place_of [] id = None
place_of (o ∷ os) id = if same_id id (object_name o) then Some 0 else option_map suc (place_of os id)

-- the objects, and behind them those of a pack that they lack, in pack order, each name once
abbrev pub with_pack : List Content → List Content → List Content
with_pack objects [] = objects
with_pack objects (o ∷ os) = with_pack (if has_object objects (object_name o) then objects else objects ++ o ∷ []) os

-- no two objects have one name
abbrev pub HasNamesOnce : List Content → Type 0
HasNamesOnce objects = AllPairs (λ o p. ¬ (object_name p ≡ object_name o)) objects

-- no two objects of one name differ, in kind or in body
abbrev pub HasNoCollision : List Content → Type 0
HasNoCollision objects = AllPairs (λ o p. object_name p ≡ object_name o → p ≡ o) objects

-- the first object that differs from one of its name before it: the name, and the places of the two
pub record IsFirstCollision (objects : List Content) (id : ObjectId) (kept given : ℕ) : Type 0 where
  pub old : Content
  pub new : Content
  pub before : kept < given
  pub kept_is : slice_get objects kept ≡ Some old
  pub given_is : slice_get objects given ≡ Some new
  pub old_name : object_name old ≡ id
  pub new_name : object_name new ≡ id
  pub differ : ¬ (new ≡ old)
  pub first : HasNoCollision (take given objects)
