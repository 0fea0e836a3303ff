use Rattle.turn_lock.specs.Lock.{IsSamePass}
use Rattle.hub_tests.proofs.turn_lock_tests.work.Given as goal

abbrev pub invariant-loop-value : goal.invariant-loop-value
invariant-loop-value g l = record {
  same : IsSamePass l.initial.pass l.pass;
}
