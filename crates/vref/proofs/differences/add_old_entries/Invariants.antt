use Rattle.std.proofs.Common.{map, take, []}
use Rattle.git_object.specs.Tree.{entry_of}
use Rattle.vref.specs.Differences.{FindsBoth}
use Rattle.vref.proofs.differences.add_old_entries.Given as goal

abbrev pub invariant-loop-entry : goal.invariant-loop-entry
invariant-loop-entry l = FindsBoth (map entry_of (take l.entry-index l.entries)) [] l.names
