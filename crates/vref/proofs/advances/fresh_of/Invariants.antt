use Rattle.std.proofs.Common.{take}
use Rattle.vref.specs.Advances.{AreFresh}
use Rattle.vref.proofs.advances.fresh_of.Given as goal

abbrev pub invariant-loop-at : goal.invariant-loop-at
invariant-loop-at l = AreFresh (take l.at-index l.merges) l.of_old l.of_new l.fresh
