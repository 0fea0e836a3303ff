use Rattle.turn_lock.specs.Lock.{IsSamePass}
use Rattle.hub_tests.proofs.shared_hub_tests.in_steps.Given as goal

abbrev pub invariant-loop-acts : goal.invariant-loop-acts
invariant-loop-acts g l = record {
  one : IsSamePass l.fn.passes.0 l.callers.0;
  other : IsSamePass l.fn.passes.1 l.callers.1;
}
