use Rattle.std.proofs.Common.{◌≡◌, map, take}
use Rattle.vref.specs.Facts.{pair_of}
use Rattle.vref.proofs.facts.pairs_of.Given as goal

abbrev pub invariant-loop-change : goal.invariant-loop-change
invariant-loop-change l = l.pairs.items ≡ map (λ change. pair_of l.lens change.old change.new) (take l.change-index l.changes)
