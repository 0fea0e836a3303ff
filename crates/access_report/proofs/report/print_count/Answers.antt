use Rattle.std.proofs.Common.{◌≡◌, Err, rules}
use Rattle.access_report.specs.declared.report.ReportFault.TheVariants.{NoMemory}
use Rattle.access_report.proofs.TextLemmas.{some_count, some_waiting}
use Rattle.access_report.proofs.WritingLemmas.{stops_first}
use Rattle.access_report.proofs.report.print_count.Goals as goal

pub returns-in_err-push_count-clause-err : goal.returns-in_err-push_count-clause-err
returns-in_err-push_count-clause-err g c =
    let answer : c.from_residual.result ≡ Err NoMemory = search rules in
    rw answer (stops_first _ _ (some_waiting _ _ (some_count _ _)))
