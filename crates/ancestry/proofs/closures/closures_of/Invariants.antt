use Rattle.ancestry.specs.Closures.{AreClosures}
use Rattle.ancestry.proofs.closures.closures_of.Given as goal

abbrev pub invariant-loop-id : goal.invariant-loop-id
invariant-loop-id l = AreClosures l.repo.objects l.made
