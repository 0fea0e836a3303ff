use Rattle.report_input.proofs.EndLemmas.{bad_ended, report_ended, report_told}
use Rattle.report_input.proofs.report.run_report.Goals as goal

pub returns-in-Ok-clause-ends : goal.returns-in-Ok-clause-ends
returns-in-Ok-clause-ends g c =
    rw c.report_end.ensures (report_ended _ _ _ _ _ _ c.in-Ok.ensures.ok c.some_patterns_are_true.ensures c.print_due.result c.print_due.ensures.prints)

pub returns-in-Ok-clause-tells : goal.returns-in-Ok-clause-tells
returns-in-Ok-clause-tells g c =
    rw c.report_end.ensures (report_told (g.I.Endpoint.state c.args.input.now) (g.I.Endpoint.state c.read_input.new.source) (g.O.Endpoint.state c.args.output.now) (g.O.Endpoint.state c.print_due.new.output) c.print_due.result c.print_due.ensures.tells c.in-Ok.ensures.tells)

pub returns-in-Err-Bad-clause-ends : goal.returns-in-Err-Bad-clause-ends
returns-in-Err-Bad-clause-ends g c =
    let bad = rw c.in-Err-Bad.field-0-is at c.in-Err-Bad.ensures.err in
    bad_ended _ _ _ _ c.in-Err-Bad.offset c.print_bad.result bad c.print_bad.ensures.bad
