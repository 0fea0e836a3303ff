use Rattle.git_object.specs.Tree.{tree_entry}
use Rattle.git_object.proofs.ReaderLemmas.{items-nil}
use Rattle.git_object.proofs.tree.TreeEntries.none.Goals as goal

pub returns : goal.returns
returns c = items-nil tree_entry
