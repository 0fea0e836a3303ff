use Rattle.smart_http.proofs.BodyLemmas.{advertised, unadvertised}
use Rattle.smart_http.proofs.responses.advertise.Goals as goal

pub returns-in-Ok-clause-runs : goal.returns-in-Ok-clause-runs
returns-in-Ok-clause-runs g c = λ desk. advertised _ _ desk _ _ c.write_advertisement.result c.in-Ok.field-0 c.in-Ok.is (c.write_advertisement.ensures.runs desk)

pub returns-in-Err-clause-runs : goal.returns-in-Err-clause-runs
returns-in-Err-clause-runs g c = λ desk. rw c.end_before.ensures (unadvertised _ _ desk _ _ c.write_advertisement.result c.in-Err.end c.in-Err.is (c.write_advertisement.ensures.runs desk))
