use Rattle.std.proofs.Common.{◌≡◌, ◌++◌, take}
use Rattle.hub_history.specs.History.{made_empty}
use Rattle.hub.proofs.pushes.push_empty.Given as goal

abbrev pub invariant-loop-name : goal.invariant-loop-name
invariant-loop-name l = l.changes.items ≡ l.fn.changes.items ++ made_empty (take l.name-index l.made)
