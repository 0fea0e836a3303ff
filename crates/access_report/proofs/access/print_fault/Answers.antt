use Rattle.std.proofs.Common.{◌≡◌, Err, rules}
use Rattle.access_report.specs.declared.report.ReportFault.TheVariants.{NoMemory}
use Rattle.access_report.proofs.WritingLemmas.{stops_first}
use Rattle.access_report.proofs.DueLemmas.{some_fault}
use Rattle.access_report.proofs.access.print_fault.Goals as goal

pub returns-in_err-text-clause-prints : goal.returns-in_err-text-clause-prints
returns-in_err-text-clause-prints g c =
    let answer : c.from_residual.result ≡ Err NoMemory = search rules in
    rw answer (stops_first _ _ (some_fault _))
