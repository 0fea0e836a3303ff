use Rattle.smart_http.specs.declared.end.HttpEnd.TheVariants as end
use Rattle.smart_http.proofs.EndLemmas.{answered}
use Rattle.smart_http.proofs.responses.refuse_head.Goals as goal

pub returns-clause-runs : goal.returns-clause-runs
returns-clause-runs g c = λ desk. let w = c.refuse-written.ensures in rw c.end_behind.ensures (answered _ _ desk _ (end.Refused c.args.fault) c.refuse-written.result w.writes w.reading w.later)
