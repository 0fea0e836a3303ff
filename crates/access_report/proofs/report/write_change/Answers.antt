use Rattle.std.proofs.Common.{◌≡◌, Err, rules}
use Rattle.access_report.proofs.ReportLemmas.{change_begun, change_stopped, change_written, err_mapped, ok_mapped}
use Rattle.access_report.proofs.report.write_change.Goals as goal

pub returns-in_err-changes-clause-err : goal.returns-in_err-changes-clause-err
returns-in_err-changes-clause-err g c =
    let answer : c.from_residual.result ≡ Err c.in_err-changes.field-0.0 = search rules in
    rw answer (λ ps are. change_begun ps _ _ _ _ _ c.new-waiting.result.items c.new-waiting.result.items c.new-waiting.ensures.items _ (c.in_err-changes.ensures.err ps are))

pub returns-clause-ok : goal.returns-clause-ok
returns-clause-ok g c =
    ok_mapped c.print_count.result c.print_count.ensures.ok (λ last ps are.
    change_written ps c.args.old.now c.args.new.now c.args.asked.now (g.O.Endpoint.state c.args.sink.now) (g.O.Endpoint.state c.print_changes.new.sink) c.new-waiting.result.items c.print_changes.new.waiting.items c.new-waiting.ensures.items (g.O.Endpoint.state c.print_count.new.sink) _ _ (c.in_ok-changes.ensures.count ps are) c.count.ensures.count (c.in_ok-changes.ensures.ok ps are) last)

pub returns-clause-err : goal.returns-clause-err
returns-clause-err g c =
    err_mapped c.print_count.result c.print_count.ensures.err (λ fault last ps are.
    change_stopped ps _ _ _ _ _ c.new-waiting.result.items _ c.new-waiting.ensures.items _ _ _ fault (c.in_ok-changes.ensures.count ps are) c.count.ensures.count c.print_changes.ensures.later (c.in_ok-changes.ensures.ok ps are) last)
