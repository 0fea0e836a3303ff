use Rattle.std.proofs.Common.{◌≡◌, Err, rules}
use Rattle.report_input.proofs.InputLemmas.{input_stopped, input_unasked}
use Rattle.report_input.proofs.input.read_input.Goals as goal

pub returns-in_err-ask-clause-err : goal.returns-in_err-ask-clause-err
returns-in_err-ask-clause-err g c =
    let answer : c.from_residual.result ≡ Err c.in_err-ask.field-0.0 = search rules in
    rw answer (input_unasked _ _ c.in_err-ask.field-0.0 c.in_err-ask.ensures.err)

pub returns-in_err-confs-clause-err : goal.returns-in_err-confs-clause-err
returns-in_err-confs-clause-err g c =
    let answer : c.from_residual-in_err-confs.result ≡ Err c.in_err-confs.field-0.0 = search rules in
    rw answer (input_stopped _ _ c.in_ok-ask.ask.taken c.in_ok-ask.ask.body.items c.in_ok-ask.ensures.ok _ c.in_err-confs.field-0.0 c.read_ask.ensures.later c.in_err-confs.ensures.err)
