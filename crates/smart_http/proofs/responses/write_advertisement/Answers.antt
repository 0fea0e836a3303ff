use Rattle.std.proofs.lemmas.Result.{err_from_is_err_and}
use Rattle.session_core.proofs.StepLemmas.{exits, goes}
use Rattle.smart_http.specs.Requests.{writing_advertisement, writing_line}
use Rattle.smart_http.proofs.responses.write_advertisement.Goals as goal

pub returns-in_err-write_head-clause-runs : goal.returns-in_err-write_head-clause-runs
unfolding writing_advertisement
returns-in_err-write_head-clause-runs g c = λ desk.
    let p = err_from_is_err_and c.from_residual.result c.from_residual.ensures.1 in
    exits _ _ desk desk _ (λ u. writing_line c.args.service c.args.pin.now) c.write_head.result _ _ _ c.in_err-write_head.was p.1 p.2 (c.write_head.ensures.runs desk)

pub returns-clause-runs : goal.returns-clause-runs
unfolding writing_advertisement
returns-clause-runs g c = λ desk.
    goes _ _ desk desk _ (λ u. writing_line c.args.service c.args.pin.now) c.write_head.result _ desk c.in_ok-write_head.field-0 _ c.in_ok-write_head.was (c.write_head.ensures.runs desk) (c.write_line_and_refs.ensures.runs desk)
