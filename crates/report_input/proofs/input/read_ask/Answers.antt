use Rattle.report_input.proofs.InputLemmas.{ask_ended}
use Rattle.report_input.proofs.input.read_ask.Goals as goal

pub returns-in-Ok-None-clause-err : goal.returns-in-Ok-None-clause-err
returns-in-Ok-None-clause-err g c =
    let ended = rw c.in-Ok-None.field-0-is at c.in-Ok-None.ensures.none in
    ask_ended _ _ ended.0 ended.1
