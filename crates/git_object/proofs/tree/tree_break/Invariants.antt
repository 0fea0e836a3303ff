use Rattle.std.proofs.Common.{◌≡◌, ◌≤◌, ◌-◌, length, List}
use Rattle.git_object.specs.Tree.{Entry, tree_break}
use Rattle.git_object.specs.Before.{Keeps}
use Rattle.git_object.proofs.TreeCheckLemmas.{break_from}
use Rattle.git_object.proofs.tree.tree_break.Given as goal

abbrev pub invariant-loop-rest : goal.invariant-loop-rest
invariant-loop-rest l = record {
  shorter : length l.rest ≤ length l.body;
  left : (before : List Entry) × Keeps l.before before × (tree_break l.body ≡ break_from before (length l.body - length l.rest) l.rest);
}

abbrev pub decreases-loop-rest : goal.decreases-loop-rest
decreases-loop-rest l = length l.rest
