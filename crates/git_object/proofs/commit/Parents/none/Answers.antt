use Rattle.git_object.specs.Commit.{parent_line}
use Rattle.git_object.proofs.ReaderLemmas.{items-nil}
use Rattle.git_object.proofs.commit.Parents.none.Goals as goal

pub returns : goal.returns
returns c = items-nil parent_line
