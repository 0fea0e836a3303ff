use Rattle.std.proofs.Common.{◌≤◌, length}
use Rattle.vref.specs.Marks.{HasSpread}
use Rattle.vref.proofs.marks.spread.Given as goal

abbrev pub invariant-loop-left : goal.invariant-loop-left
invariant-loop-left l = record {
  spread : HasSpread l.links l.fn.words l.words;
  within : l.left ≤ length l.links;
}

abbrev pub decreases-loop-left : goal.decreases-loop-left
decreases-loop-left l = l.left
