use Rattle.git_object.proofs.ListLemmas.{same_from_clones}
use Rattle.git_object.proofs.object.share.Goals as goal

pub returns : goal.returns
returns c = same_from_clones c.args.list.now c.in_ok-clone.field-0 c.in_ok-clone.ensures.cases.0
