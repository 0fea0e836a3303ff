use Rattle.smart_http.proofs.PartLemmas.{part_alone}
use Rattle.smart_http.proofs.serving.respond.Goals as goal

pub returns-in-None-clause-runs : goal.returns-in-None-clause-runs
returns-in-None-clause-runs g c = rw c.in-None.is (part_alone _ _ _ _ _ (c.advertise.ensures.runs _))
