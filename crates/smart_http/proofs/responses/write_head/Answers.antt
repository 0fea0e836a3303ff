use Rattle.session_core.proofs.StepLemmas.{write_exits, write_goes}
use Rattle.smart_http.proofs.responses.write_head.Goals as goal

pub returns-in_err-write_response_head-clause-runs : goal.returns-in_err-write_response_head-clause-runs
returns-in_err-write_response_head-clause-runs g c = λ desk.
    let w = c.write_response_head.ensures in write_exits _ _ c.write_response_head.result desk _ w.writes w.reading w.later _ c.in_err-write_response_head.was c.from_residual.result c.from_residual.ensures.1

pub returns-clause-runs : goal.returns-clause-runs
returns-clause-runs g c = λ desk. let w = c.write_response_head.ensures in write_goes _ _ c.write_response_head.result desk _ w.writes w.reading w.later _ c.in_ok-write_response_head.was
