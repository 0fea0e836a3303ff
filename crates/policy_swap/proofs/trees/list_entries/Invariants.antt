use Rattle.std.proofs.Common.{◌≡◌, ◌++◌, map}
use Rattle.std.specs.Option.{option_copied}
use Rattle.git_object.specs.Tree.{entry_of}
use Rattle.vref.specs.Rows.{entries_in}
use Rattle.policy_swap.proofs.trees.list_entries.Given as goal

abbrev pub invariant-loop-entry : goal.invariant-loop-entry
invariant-loop-entry l = record {
  same : l.list.items ≡ l.yielded;
  left : map entry_of l.yielded ++ l.entry-iterator ≡ entries_in (option_copied l.fn.object);
}
