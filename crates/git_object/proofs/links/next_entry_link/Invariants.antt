use Rattle.std.proofs.Common.{◌≡◌}
use Rattle.std.specs.List.{filter_map}
use Rattle.git_object.specs.Object.{entry_link}
use Rattle.git_object.proofs.links.next_entry_link.Given as goal

abbrev pub invariant-loop-entry : goal.invariant-loop-entry
invariant-loop-entry l = filter_map entry_link l.entries ≡ filter_map entry_link l.fn.entries
