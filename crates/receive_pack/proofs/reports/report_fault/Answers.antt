use Rattle.std.proofs.Common.{append_assoc}
use Rattle.std.proofs.lemmas.Result.{err_from_is_err_and}
use Rattle.receive_pack.specs.Texts.{bad_report}
use Rattle.session_core.proofs.StepLemmas.{says, says_exits}
use Rattle.receive_pack.proofs.reports.report_fault.Goals as goal

pub returns-in_err-say_fault-clause-runs : goal.returns-in_err-say_fault-clause-runs
unfolding bad_report
returns-in_err-say_fault-clause-runs g c = λ desk.
    let p = err_from_is_err_and c.from_residual.result c.from_residual.ensures.1 in
    rw append_assoc (says_exits _ _ desk _ _ c.say_fault.result _ _ _ c.in_err-say_fault.was p.1 p.2 (c.say_fault.ensures.runs desk))

pub returns-in_err-report_errors-clause-runs : goal.returns-in_err-report_errors-clause-runs
unfolding bad_report
returns-in_err-report_errors-clause-runs g c = λ desk.
    let p = err_from_is_err_and c.from_residual-in_err-report_errors.result c.from_residual-in_err-report_errors.ensures.1 in
    rw append_assoc (says _ _ desk _ _ c.say_fault.result _ _ _ c.in_ok-say_fault.was (c.say_fault.ensures.runs desk) (says_exits _ _ desk _ _ c.report_errors.result _ _ _ c.in_err-report_errors.was p.1 p.2 (c.report_errors.ensures.runs desk)))

pub returns-clause-runs : goal.returns-clause-runs
unfolding bad_report
returns-clause-runs g c = λ desk.
    rw append_assoc (says _ _ desk _ _ c.say_fault.result _ _ _ c.in_ok-say_fault.was (c.say_fault.ensures.runs desk) (says _ _ desk _ _ c.report_errors.result _ _ _ c.in_ok-report_errors.was (c.report_errors.ensures.runs desk) (c.say_flush.ensures.runs desk)))
