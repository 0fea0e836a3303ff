use Rattle.std.proofs.Common.{◌≡◌}
use Rattle.git_object.specs.Object.{entries_of}
use Rattle.vref.specs.Rows.{entry_named}
use Rattle.policy_swap.specs.Conf.{conf_name}
use Rattle.policy_swap.proofs.conf.conf_entry.Given as goal

abbrev pub invariant-loop-entry : goal.invariant-loop-entry
invariant-loop-entry l = entry_named (entries_of l.root.kind l.root.body) conf_name ≡ entry_named l.entry-iterator conf_name
