use Rattle.refex.proofs.SetLemmas.{IsPartAdvance}
use Rattle.refex.proofs.sets.parts_after.Given as goal

abbrev pub invariant-loop-left : goal.invariant-loop-left
invariant-loop-left l = IsPartAdvance l.name l.letter l.parts l.left l.after

abbrev pub decreases-loop-left : goal.decreases-loop-left
decreases-loop-left l = l.left
