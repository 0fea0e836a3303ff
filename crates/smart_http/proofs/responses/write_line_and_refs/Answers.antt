use Rattle.std.proofs.lemmas.Result.{err_from_is_err_and}
use Rattle.session_core.proofs.StepLemmas.{exits, goes}
use Rattle.smart_http.specs.Requests.{writing_line, writing_refs}
use Rattle.smart_http.proofs.responses.write_line_and_refs.Goals as goal

pub returns-in_err-say-clause-runs : goal.returns-in_err-say-clause-runs
unfolding writing_line
returns-in_err-say-clause-runs g c = λ desk.
    let p = err_from_is_err_and c.from_residual.result c.from_residual.ensures.1 in
    exits _ _ desk desk _ (λ u. writing_refs c.args.service c.args.pin.now) c.say.result _ _ _ c.in_err-say.was p.1 p.2 (rw c.service_line.ensures.line at c.say.ensures.runs desk)

pub returns-clause-runs : goal.returns-clause-runs
unfolding writing_line
returns-clause-runs g c = λ desk.
    goes _ _ desk desk _ (λ u. writing_refs c.args.service c.args.pin.now) c.say.result _ desk c.in_ok-say.field-0 _ c.in_ok-say.was (rw c.service_line.ensures.line at c.say.ensures.runs desk) (c.write_flush_and_refs.ensures.runs desk)
