use Rattle.std.proofs.Common.{◌≡◌, drop}
use Rattle.conf_groups.specs.Groups.{with_items}
use Rattle.conf_groups.proofs.distinct.Distinct.with_all.Given as goal

abbrev pub invariant-loop-item : goal.invariant-loop-item
invariant-loop-item l = with_items l.fn.self l.more ≡ with_items l.all (drop l.item-index l.more)
