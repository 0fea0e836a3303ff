use Rattle.std.proofs.Common.{Contains, take}
use Rattle.git_object.specs.declared.object_id.ObjectId.{ObjectId}
use Rattle.ancestry.specs.Closures.{IsThere}
use Rattle.ancestry.proofs.closing.are_there.Given as goal

abbrev pub invariant-loop-at : goal.invariant-loop-at
invariant-loop-at l = (id : ObjectId) → Contains (take l.at l.set) id → IsThere l.front id
