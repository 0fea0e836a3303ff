use Rattle.turn_lock.specs.Lock.{IsSamePass}
use Rattle.hub_tests.proofs.shared_hub_tests.caller.Caller.work.Given as goal

abbrev pub invariant-loop : goal.invariant-loop
invariant-loop g l = record {
  same : IsSamePass l.initial.self l.self;
}
