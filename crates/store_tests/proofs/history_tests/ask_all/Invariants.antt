use Rattle.std.proofs.Common.{◌≡◌}
use Rattle.store_tests.proofs.history_tests.ask_all.Given as goal

abbrev pub invariant-loop-id : goal.invariant-loop-id
invariant-loop-id l = l.walks ≡ l.fn.walks
