use Rattle.std.proofs.Common.{◌-◌, ◌^◌}
use Rattle.ancestry.proofs.ReachedLemmas.{Walking}
use Rattle.ancestry.proofs.reached.reached.Given as goal

abbrev pub invariant-loop-id : goal.invariant-loop-id
invariant-loop-id g l = Walking (g.S.Steps.next l.steps) l.roots l.set l.next

abbrev pub decreases-loop-id : goal.decreases-loop-id
decreases-loop-id g l = 2 ^ 63 - l.next
