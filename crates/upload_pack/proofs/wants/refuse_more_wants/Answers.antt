use Rattle.upload_pack.specs.Wants.{too_many_wants}
use Rattle.upload_pack.proofs.wants.refuse_more_wants.Goals as goal

pub returns-clause-runs : goal.returns-clause-runs
unfolding too_many_wants
returns-clause-runs g c = c.refuse.ensures.runs
