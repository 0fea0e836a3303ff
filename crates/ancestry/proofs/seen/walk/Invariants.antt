use Rattle.std.proofs.Common.{◌-◌, ◌^◌}
use Rattle.ancestry.proofs.WalkedLemmas.{Walking}
use Rattle.ancestry.proofs.seen.walk.Given as goal

abbrev pub invariant-loop-id : goal.invariant-loop-id
invariant-loop-id l = Walking l.lens l.fn.root l.fn.kind l.seen l.next

abbrev pub decreases-loop-id : goal.decreases-loop-id
decreases-loop-id l = 2 ^ 63 - l.next
