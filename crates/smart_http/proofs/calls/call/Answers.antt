use Rattle.smart_http.proofs.BodyLemmas.{call_exits, call_goes}
use Rattle.smart_http.proofs.calls.call.Goals as goal

pub returns-in-Ok-clause-runs : goal.returns-in-Ok-clause-runs
returns-in-Ok-clause-runs g c = call_goes _ _ _ _ _ _ c.write_head.result _ _ _ c.in-Ok.field-0 c.in-Ok.is (c.write_head.ensures.runs _) c.take_body.ensures.runs

pub returns-in-Err-clause-runs : goal.returns-in-Err-clause-runs
returns-in-Err-clause-runs g c = rw c.end_before.ensures (call_exits _ _ _ _ _ _ c.write_head.result c.in-Err.end c.in-Err.is (c.write_head.ensures.runs _))
