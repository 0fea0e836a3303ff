use Rattle.std.proofs.Common.{◌≡◌, Err, rules}
use Rattle.access_report.specs.declared.report.ReportFault.TheVariants.{NoMemory}
use Rattle.access_report.proofs.WritingLemmas.{stops_first}
use Rattle.std.proofs.Common.{true}
use Rattle.access_report.specs.Report.{differ, is_allowed}
use Rattle.access_report.proofs.TextLemmas.{some_changed, some_waiting}
use Rattle.access_report.proofs.report.print_if_changed.Goals as goal

pub returns-in_err-push_change_line-clause-err : goal.returns-in_err-push_change_line-clause-err
returns-in_err-push_change_line-clause-err g c =
    let answer : c.from_residual.result ≡ Err NoMemory = search rules in
    let is : differ (is_allowed c.args.old.now.verdict) (is_allowed c.args.new.now.verdict) ≡ true = search rules in
    rw answer (stops_first _ _ (some_waiting _ _ (some_changed _ _ _ _ is)))
