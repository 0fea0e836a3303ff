-- What a table's index keeps.
use Rattle.std.specs.Prelude.{◌≡◌, ℕ, List}
use Rattle.std.specs.Map.{lookup}
use Rattle.git_object.specs.Content.{Content}
use Rattle.git_object.specs.declared.object_id.ObjectId.{ObjectId}
use Rattle.ref_store.specs.Objects.{same_id, place_of}

-- the entries tell for each name where it stands first
pub record IsIndexOf (entries : List (ObjectId × ℕ)) (objects : List Content) : Type 0 where
  pub places : (id : ObjectId) → lookup (same_id id) entries ≡ place_of objects id
