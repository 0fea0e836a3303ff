use Rattle.ancestry.proofs.RunSetLemmas.{AreRead}
use Rattle.ancestry.proofs.run_sets.runs_of.Given as goal

abbrev pub invariant-loop-place : goal.invariant-loop-place
invariant-loop-place l = AreRead l.runs l.places l.place-index
