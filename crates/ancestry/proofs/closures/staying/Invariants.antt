use Rattle.std.proofs.Common.{List, Contains}
use Rattle.git_object.specs.declared.object_id.ObjectId.{ObjectId}
use Rattle.ancestry.specs.declared.runs.Run.{Run}
use Rattle.ancestry.proofs.closures.staying.Given as goal

abbrev pub invariant-loop-closure : goal.invariant-loop-closure
invariant-loop-closure l = (closure : ObjectId × List Run) → Contains l.some.items closure → Contains l.closures closure
