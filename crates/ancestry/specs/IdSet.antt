-- Names, each once.
use Rattle.std.specs.Prelude.{◌≡◌, ◌⊎◌, List, ◌++◌}
use Rattle.std.specs.List.{Contains}
use Rattle.git_object.specs.declared.object_id.ObjectId.{ObjectId}

-- what adding these leaves: what was there stays first
pub record Adds (old new ids : List ObjectId) : Type 0 where
  pub grows : (more : List ObjectId) × (new ≡ old ++ more)
  pub there : (id : ObjectId) → Contains ids id → Contains new id
  pub only : (id : ObjectId) → Contains new id → Contains old id ⊎ Contains ids id
