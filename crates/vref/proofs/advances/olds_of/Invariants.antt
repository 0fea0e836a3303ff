use Rattle.std.proofs.Common.{◌≡◌, map, take}
use Rattle.vref.proofs.advances.olds_of.Given as goal

abbrev pub invariant-loop-old : goal.invariant-loop-old
invariant-loop-old l = l.olds.items ≡ map (λ pair. pair.0) (take l.old-index l.pairs)
