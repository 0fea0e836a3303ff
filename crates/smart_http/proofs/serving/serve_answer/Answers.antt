use Rattle.smart_http.proofs.PartLemmas.{part_alone}
use Rattle.smart_http.proofs.serving.serve_answer.Goals as goal

pub returns-in-Err-clause-runs : goal.returns-in-Err-clause-runs
returns-in-Err-clause-runs g c = rw c.in-Err.is (part_alone _ _ _ _ _ (c.refuse_head.ensures.runs _))
