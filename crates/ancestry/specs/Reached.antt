-- What is reached from some names by steps.
use Rattle.std.specs.Prelude.{List}
use Rattle.std.specs.List.{Contains}
use Rattle.git_object.specs.declared.object_id.ObjectId.{ObjectId}

-- the roots are reached, and whatever is next to one that is reached
pub data IsReached (next : ObjectId → List ObjectId) (roots : List ObjectId) : ObjectId → Type 0 where
  Root : (id : ObjectId) → Contains roots id → IsReached next roots id
  Next : (from to : ObjectId) → IsReached next roots from → Contains (next from) to → IsReached next roots to
