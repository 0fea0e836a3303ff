use Rattle.std.proofs.Common.{◌≡◌, ◌∙◌, Err, Ok, rules}
use Rattle.rule_compile.specs.Flat.{flat}
use Rattle.access_report.specs.declared.report.ReportFault.TheVariants.{NoMemory}
use Rattle.access_report.proofs.WritingLemmas.{stops_first}
use Rattle.access_report.proofs.DueLemmas.{some_over_two, two_found}
use Rattle.access_report.proofs.access.print_by_other.Goals as goal

pub returns-in_err-new-clause-prints : goal.returns-in_err-new-clause-prints
returns-in_err-new-clause-prints g c =
    let answer : c.from_residual.result ≡ Err NoMemory = search rules in
    rw answer (λ ps are. stops_first _ _ (some_over_two ps _ _ _))

pub returns-in-Ok-clause-prints : goal.returns-in-Ok-clause-prints
returns-in-Ok-clause-prints g c = λ ps are.
    two_found (g.O.Endpoint.state c.args.sink.now) (g.O.Endpoint.state c.print_change.new.sink) ps c.print_change.result c.args.asked.now c.args.policy.now (flat ps c.args.other.now) (Ok c.in-Ok.new)
    (c.in_ok-new.ensures ps are ∙ c.in-Ok.is) (c.print_change.ensures.prints ps are)
