use Rattle.std.proofs.Common.{map, take, [], List}
use Rattle.git_object.specs.Tree.{Entry, entry_of}
use Rattle.vref.specs.Differences.{FindsBoth}
use Rattle.vref.proofs.differences.add_new_entries.Given as goal

abbrev pub invariant-loop-entry : goal.invariant-loop-entry
invariant-loop-entry l = (old : List Entry) → FindsBoth old [] l.fn.names → FindsBoth old (map entry_of (take l.entry-index l.entries)) l.names
