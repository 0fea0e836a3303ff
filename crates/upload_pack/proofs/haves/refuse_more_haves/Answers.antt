use Rattle.upload_pack.specs.Haves.{too_many_haves}
use Rattle.upload_pack.proofs.haves.refuse_more_haves.Goals as goal

pub returns-clause-runs : goal.returns-clause-runs
unfolding too_many_haves
returns-clause-runs g c = c.refuse.ensures.runs
