use Rattle.std.proofs.Common.{◌≡◌, drop}
use Rattle.hub.specs.Puts.{conf_chosen}
use Rattle.hub.proofs.pushes.conf_of.Given as goal

abbrev pub invariant-loop-k : goal.invariant-loop-k
invariant-loop-k l = record {
  confs : l.confs.items ≡ l.fn.confs.items;
  chosen : conf_chosen l.repo (drop l.k l.commands) (drop l.k l.outcomes) (drop l.k l.confs.items) ≡ conf_chosen l.repo l.commands l.outcomes l.confs.items;
}
