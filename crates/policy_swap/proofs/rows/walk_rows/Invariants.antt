use Rattle.std.proofs.Common.{◌+◌, ◌-◌}
use Rattle.policy_swap.specs.Rows.{Goes}
use Rattle.policy_swap.specs.Trees.{AreRight}
use Rattle.policy_swap.specs.declared.rows.TheConstants.{MAX_ROWS}
use Rattle.policy_swap.proofs.rows.walk_rows.Given as goal

abbrev pub invariant-loop-at : goal.invariant-loop-at
invariant-loop-at l = record {
  goes : Goes l.lens l.fn.tree l.rows.items l.at;
  right : AreRight l.lens l.trees;
}

abbrev pub decreases-loop-at : goal.decreases-loop-at
decreases-loop-at l = (MAX_ROWS + 1) - l.at
