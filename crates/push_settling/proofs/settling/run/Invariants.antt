use Rattle.std.proofs.Common.{◌≡◌, ◌++◌, drop}
use Rattle.hub_history.specs.Push.{in_order, refs_left}
use Rattle.push_settling.proofs.settling.run.Given as goal

abbrev pub invariant-loop-i : goal.invariant-loop-i
invariant-loop-i l = record {
  objects : l.repo.objects ≡ l.fn.repo.objects;
  told : l.list ++ in_order l.repo.refs (drop l.i l.commands) (drop l.i l.judged) ≡ in_order l.fn.repo.refs l.commands l.judged;
  refs : refs_left l.repo.refs (drop l.i l.commands) (in_order l.repo.refs (drop l.i l.commands) (drop l.i l.judged)) ≡ refs_left l.fn.repo.refs l.commands (in_order l.fn.repo.refs l.commands l.judged);
}
