use Rattle.std.proofs.Common.{◌≡◌, Err, rules}
use Rattle.access_report.specs.declared.report.ReportFault.TheVariants.{NoMemory}
use Rattle.access_report.proofs.WritingLemmas.{stops_first}
use Rattle.access_report.proofs.ReportLemmas.{err_mapped, ok_mapped, report_begun, report_stopped, report_written}
use Rattle.access_report.proofs.TextLemmas.{some_report}
use Rattle.access_report.proofs.report.write_report.Goals as goal

pub returns-in_err-marks-clause-err : goal.returns-in_err-marks-clause-err
returns-in_err-marks-clause-err g c =
    let answer : c.from_residual.result ≡ Err NoMemory = search rules in
    rw answer (λ ps are. stops_first _ _ (some_report _ _ _))

pub returns-in_err-print_questions-clause-err : goal.returns-in_err-print_questions-clause-err
returns-in_err-print_questions-clause-err g c =
    let answer : c.from_residual-in_err-print_questions.result ≡ Err c.in_err-print_questions.field-0.0 = search rules in
    rw answer (λ ps are. report_begun ps _ _ _ _ c.new-waiting.result.items c.new-waiting.result.items c.new-waiting.ensures.items _ (c.in_err-print_questions.ensures.err ps are))

pub returns-clause-ok : goal.returns-clause-ok
returns-clause-ok g c =
    ok_mapped c.print_idle.result c.print_idle.ensures.ok (λ idle ps are.
    report_written ps c.args.policy.now c.args.asked.now (g.O.Endpoint.state c.args.sink.now) (g.O.Endpoint.state c.print_questions.new.sink) c.new-waiting.result.items c.print_questions.new.waiting.items c.new-waiting.ensures.items (g.O.Endpoint.state c.print_idle.new.sink) (c.in_ok-print_questions.ensures.ok ps are) (idle ps are _ (c.in_ok-print_questions.ensures.marks ps are)))

pub returns-clause-err : goal.returns-clause-err
returns-clause-err g c =
    err_mapped c.print_idle.result c.print_idle.ensures.err (λ fault idle ps are.
    report_stopped ps _ _ _ _ c.new-waiting.result.items _ c.new-waiting.ensures.items _ fault c.print_questions.ensures.later (c.in_ok-print_questions.ensures.ok ps are) (idle ps are _ (c.in_ok-print_questions.ensures.marks ps are)))
