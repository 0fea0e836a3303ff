use Rattle.smart_http.proofs.EndLemmas.{answered}
use Rattle.smart_http.proofs.responses.refuse_with.Goals as goal

pub returns-clause-runs : goal.returns-clause-runs
returns-clause-runs g c = λ desk. let w = c.write_refusal-written.ensures in rw c.end_behind.ensures (answered _ _ desk _ c.args.end c.write_refusal-written.result w.writes w.reading w.later)
