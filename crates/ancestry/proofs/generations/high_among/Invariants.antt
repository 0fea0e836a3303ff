use Rattle.ancestry.specs.Generations.{AreHigh}
use Rattle.ancestry.proofs.generations.high_among.Given as goal

abbrev pub invariant-loop-left : goal.invariant-loop-left
invariant-loop-left l = AreHigh l.lens l.least l.line l.high

abbrev pub decreases-loop-left : goal.decreases-loop-left
decreases-loop-left l = l.left
