use Rattle.std.proofs.Common.{[], List, ℕ, Option, map, take}
use Rattle.git_object.specs.Tree.{entry_of}
use Rattle.git_object.specs.declared.object_id.ObjectId.{ObjectId}
use Rattle.vref.specs.Rows.{Name, object_at}
use Rattle.vref.specs.Walk.{tree_at}
use Rattle.policy_swap.specs.Rows.{Expands, IsFront}
use Rattle.policy_swap.specs.Trees.{AreEntries}
use Rattle.policy_swap.proofs.rows.add_entries.Given as goal

abbrev pub invariant-loop-entry : goal.invariant-loop-entry
invariant-loop-entry l = (tree : Option ObjectId) (at : ℕ) (names : List Name) → IsFront names l.front → AreEntries (object_at l.lens (tree_at l.lens tree names)) l.list
    → Expands l.lens tree l.fn.rows.items at names [] → Expands l.lens tree l.rows.items at names (map entry_of (take l.entry-index l.list))
