use Rattle.std.proofs.Common.{◌-◌, ◌^◌, ◌<◌, ◌≤◌, ℕ, length, get_or, Contains}
use Rattle.git_object.specs.declared.object_id.ObjectId.{ObjectId}
use Rattle.ancestry.specs.Ancestors.{parents_at}
use Rattle.ancestry.proofs.ancestors.has_merge.Given as goal

abbrev pub invariant-loop-id : goal.invariant-loop-id
invariant-loop-id l = (k : ℕ) (d : ObjectId) → k < l.next → 2 ≤ length (parents_at l.lens (get_or l.among k d)) → ¬ ¬ Contains l.without (get_or l.among k d)

abbrev pub decreases-loop-id : goal.decreases-loop-id
decreases-loop-id l = 2 ^ 63 - l.next
