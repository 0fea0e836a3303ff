use Rattle.std.proofs.Common.{rules, ◌≡◌, ◌<◌, ◌≤◌, length, get_or, refl, ◌∙◌}
use Rattle.std.proofs.lemmas.Result.{err_from_is_err_and}
use Rattle.session_core.proofs.StepLemmas.{says, says_exits, says_nothing}
use Rattle.session_core.proofs.LinkLemmas.{keeps_same, keeps_more}
use Rattle.receive_pack.proofs.ReportLemmas.{errors_all, errors_more, errors_end, short_here}
use Rattle.receive_pack.proofs.reports.report_errors.Goals as goal

pub loop-command-init : goal.loop-command-init
loop-command-init g c = record { writes = λ b desk out ran. ran; reads = refl; puts = refl; reading = keeps_same _ }

pub report_error-requires : goal.report_error-requires
report_error-requires g c =
    let is : c.command-item.result ≡ get_or c.args.commands.now c.loop-command.command-index c.command-item.result = search rules in
    let within : c.loop-command.command-index < length c.args.commands.now = search rules in
    record { short = short_here c.args.commands.now c.loop-command.command-index _ c.requires.short within is }

pub returns-in_err-report_error-clause-runs : goal.returns-in_err-report_error-clause-runs
returns-in_err-report_error-clause-runs g c = λ desk.
    let is : c.command-item.result ≡ get_or c.args.commands.now c.loop-command.command-index c.command-item.result = search rules in
    let within : c.loop-command.command-index < length c.args.commands.now = search rules in
    let p = err_from_is_err_and c.from_residual.result c.from_residual.ensures.1 in
    rw (← errors_all c.args.commands.now) (c.loop-command.invariant.writes _ desk _ (rw (errors_more c.args.commands.now c.loop-command.command-index _ within is) (says_exits _ _ desk _ _ c.report_error.result _ _ _ c.in_err-report_error.was p.1 p.2 (c.report_error.ensures.runs desk))))

pub returns-in_err-report_error-clause-reading : goal.returns-in_err-report_error-clause-reading
returns-in_err-report_error-clause-reading g c = keeps_more _ _ _ c.loop-command.invariant.reading c.report_error.ensures.reading

pub loop-command-preserved : goal.loop-command-preserved
loop-command-preserved g c =
    let is : c.command-item.result ≡ get_or c.args.commands.now c.loop-command.command-index c.command-item.result = search rules in
    let within : c.loop-command.command-index < length c.args.commands.now = search rules in
    record {
      writes = λ b desk out ran.
          c.loop-command.invariant.writes b desk out (rw (errors_more c.args.commands.now c.loop-command.command-index _ within is) (says _ _ desk _ _ c.report_error.result b c.in_ok-report_error.field-0 out c.in_ok-report_error.was (c.report_error.ensures.runs desk) ran));
      reads = c.in_ok-report_error.ensures.tells.0 ∙ c.loop-command.invariant.reads;
      puts = c.in_ok-report_error.ensures.tells.1 ∙ c.loop-command.invariant.puts;
      reading = keeps_more _ _ _ c.loop-command.invariant.reading c.report_error.ensures.reading;
    }

pub returns-clause-runs : goal.returns-clause-runs
returns-clause-runs g c = λ desk.
    let past : length c.args.commands.now ≤ c.loop-command.command-index = search rules in
    rw (← errors_all c.args.commands.now) (c.loop-command.invariant.writes _ desk _ (rw (errors_end c.args.commands.now c.loop-command.command-index past) (says_nothing _ desk)))

pub returns-clause-reading : goal.returns-clause-reading
returns-clause-reading g c = c.loop-command.invariant.reading
