use Rattle.ancestry.specs.Known.{AreKnown}
use Rattle.store_tests.proofs.ancestry_tests.all_beside.Given as goal

abbrev pub invariant-loop-id : goal.invariant-loop-id
invariant-loop-id g l = AreKnown l.lens l.known
