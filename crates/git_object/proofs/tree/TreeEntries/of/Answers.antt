use Rattle.git_object.specs.Tree.{tree_entry}
use Rattle.git_object.proofs.ReaderLemmas.{length-items}
use Rattle.git_object.proofs.tree.TreeEntries.of.Goals as goal

pub returns-clause-few : goal.returns-clause-few
returns-clause-few c = length-items tree_entry c.args.body.now
