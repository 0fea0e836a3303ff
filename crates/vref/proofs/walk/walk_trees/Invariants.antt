use Rattle.std.proofs.Common.{◌+◌, ◌-◌, ◌*◌, length}
use Rattle.vref.specs.Walk.{IsWalking, next_of}
use Rattle.vref.specs.Comparisons.{IsSound}
use Rattle.vref.specs.declared.walk.TheConstants.{MAX_ROWS}
use Rattle.vref.proofs.walk.walk_trees.Given as goal

abbrev pub invariant-loop-item : goal.invariant-loop-item
invariant-loop-item l = record {
  walking : IsWalking l.lens l.fn.old l.fn.new l.walker.rows.items l.walker.order.items (next_of l.walker.work.items);
  sound : IsSound l.lens l.compared;
}

abbrev pub decreases-loop-item : goal.decreases-loop-item
decreases-loop-item l = 2 * (MAX_ROWS + 1 - length l.walker.rows.items) + length l.walker.work.items
