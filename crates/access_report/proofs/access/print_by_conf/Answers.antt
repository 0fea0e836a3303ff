use Rattle.std.proofs.Common.{◌≡◌, ◌∙◌, Err, Ok, rules}
use Rattle.std.specs.Option.{option_copied}
use Rattle.rule_compile.specs.Flat.{flat}
use Rattle.access_report.specs.declared.report.ReportFault.TheVariants.{NoMemory}
use Rattle.access_report.proofs.WritingLemmas.{stops_first}
use Rattle.access_report.proofs.DueLemmas.{by_found, some_by}
use Rattle.access_report.proofs.access.print_by_conf.Goals as goal

pub returns-in_err-policy-clause-prints : goal.returns-in_err-policy-clause-prints
returns-in_err-policy-clause-prints g c =
    let answer : c.from_residual.result ≡ Err NoMemory = search rules in
    rw answer (λ ps are. stops_first _ _ (some_by ps _ _ _))

pub returns-in-Ok-clause-prints : goal.returns-in-Ok-clause-prints
returns-in-Ok-clause-prints g c = λ ps are.
    by_found (g.O.Endpoint.state c.args.sink.now) (g.O.Endpoint.state c.print_by_policy.new.sink) ps c.print_by_policy.result c.args.asked.now (option_copied c.args.other) (flat ps c.args.conf.now) (Ok c.in-Ok.policy)
    (c.in_ok-policy.ensures ps are ∙ c.in-Ok.is) (c.print_by_policy.ensures.prints ps are)
