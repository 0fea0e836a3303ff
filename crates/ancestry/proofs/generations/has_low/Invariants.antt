use Rattle.std.proofs.Common.{◌≡◌, ◌-◌, ◌^◌, ◌<◌, ℕ, true, get_or, Contains}
use Rattle.git_object.specs.declared.object_id.ObjectId.{ObjectId}
use Rattle.ancestry.specs.Generations.{is_low}
use Rattle.ancestry.proofs.generations.has_low.Given as goal

abbrev pub invariant-loop-id : goal.invariant-loop-id
invariant-loop-id l = (k : ℕ) (d : ObjectId) → k < l.next → is_low l.known l.least (get_or l.among k d) ≡ true → ¬ ¬ Contains l.past (get_or l.among k d)

abbrev pub decreases-loop-id : goal.decreases-loop-id
decreases-loop-id l = 2 ^ 63 - l.next
