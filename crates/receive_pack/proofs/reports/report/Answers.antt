use Rattle.std.proofs.Common.{append_assoc}
use Rattle.std.proofs.lemmas.Result.{err_from_is_err_and}
use Rattle.receive_pack.specs.Texts.{report}
use Rattle.session_core.proofs.StepLemmas.{says, says_exits}
use Rattle.receive_pack.proofs.reports.report.Goals as goal

pub returns-in_err-say-clause-runs : goal.returns-in_err-say-clause-runs
unfolding report
returns-in_err-say-clause-runs g c = λ desk.
    let p = err_from_is_err_and c.from_residual.result c.from_residual.ensures.1 in
    rw append_assoc (says_exits _ _ desk _ _ c.say.result _ _ _ c.in_err-say.was p.1 p.2 (c.say.ensures.runs desk))

pub returns-in_err-report_all-clause-runs : goal.returns-in_err-report_all-clause-runs
unfolding report
returns-in_err-report_all-clause-runs g c = λ desk.
    let p = err_from_is_err_and c.from_residual-in_err-report_all.result c.from_residual-in_err-report_all.ensures.1 in
    rw append_assoc (says _ _ desk _ _ c.say.result _ _ _ c.in_ok-say.was (c.say.ensures.runs desk) (says_exits _ _ desk _ _ c.report_all.result _ _ _ c.in_err-report_all.was p.1 p.2 (c.report_all.ensures.runs desk)))

pub returns-clause-runs : goal.returns-clause-runs
unfolding report
returns-clause-runs g c = λ desk.
    rw append_assoc (says _ _ desk _ _ c.say.result _ _ _ c.in_ok-say.was (c.say.ensures.runs desk) (says _ _ desk _ _ c.report_all.result _ _ _ c.in_ok-report_all.was (c.report_all.ensures.runs desk) (c.say_flush.ensures.runs desk)))
