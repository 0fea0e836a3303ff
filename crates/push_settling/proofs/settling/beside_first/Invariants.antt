use Rattle.std.proofs.Common.{◌≡◌, take, map}
use Rattle.hub_history.specs.Push.{beside}
use Rattle.push_settling.proofs.settling.beside_first.Given as goal

abbrev pub invariant-loop-outcome : goal.invariant-loop-outcome
invariant-loop-outcome l = l.list ≡ map (beside l.first) (take l.outcome-index l.outcome-items)
