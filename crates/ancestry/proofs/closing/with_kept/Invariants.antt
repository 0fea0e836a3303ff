use Rattle.std.proofs.Common.{◌-◌, ◌^◌, Contains}
use Rattle.git_object.specs.declared.object_id.ObjectId.{ObjectId}
use Rattle.ancestry.specs.Closures.{Joins}
use Rattle.ancestry.specs.Reached.{IsReached}
use Rattle.ancestry.specs.Sent.{linked_at}
use Rattle.ancestry.proofs.closing.with_kept.Given as goal

abbrev pub invariant-loop-id : goal.invariant-loop-id
invariant-loop-id l = record {
  reached : (id : ObjectId) → Contains l.set id → IsReached (linked_at l.front) l.roots id;
  joins : Joins l.front l.kept l.roots l.before l.met;
}

abbrev pub decreases-loop-id : goal.decreases-loop-id
decreases-loop-id l = 2 ^ 63 - l.next
