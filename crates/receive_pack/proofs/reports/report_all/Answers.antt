use Rattle.std.proofs.Common.{rules, ◌≡◌, ◌<◌, ◌≤◌, length, get_or, refl, ◌∙◌}
use Rattle.std.proofs.lemmas.Result.{err_from_is_err_and}
use Rattle.session_core.proofs.StepLemmas.{says, says_exits, says_nothing}
use Rattle.receive_pack.proofs.ReportLemmas.{statuses_all, statuses_more, statuses_end, statuses_none, short_here}
use Rattle.receive_pack.proofs.reports.report_all.Goals as goal

pub loop-command-init : goal.loop-command-init
loop-command-init g c = record { writes = λ b desk out ran. rw (c.iter-told.ensures.rest, c.as_slice.ensures) at ran; reads = refl; puts = refl }

pub returns-in_default-clause-runs : goal.returns-in_default-clause-runs
returns-in_default-clause-runs g c = λ desk.
    rw (← statuses_all c.args.policy.now.rules c.args.later.now.rules c.args.push.now c.args.outcomes.now) (c.loop-command.invariant.writes _ desk _ (rw (statuses_none c.args.policy.now.rules c.args.later.now.rules c.args.push.now _ _ c.in_default.ensures.steps.0) (says_nothing _ desk)))

pub report_one-requires : goal.report_one-requires
report_one-requires g c =
    let is : c.command-item.result ≡ get_or c.args.push.now.commands c.loop-command.command-index c.command-item.result = search rules in
    let within : c.loop-command.command-index < length c.args.push.now.commands = search rules in
    record { short = c.requires.short; one = short_here c.args.push.now.commands c.loop-command.command-index _ c.requires.short within is }

pub returns-in_err-report_one-clause-runs : goal.returns-in_err-report_one-clause-runs
returns-in_err-report_one-clause-runs g c = λ desk.
    let is : c.command-item.result ≡ get_or c.args.push.now.commands c.loop-command.command-index c.command-item.result = search rules in
    let within : c.loop-command.command-index < length c.args.push.now.commands = search rules in
    let p = err_from_is_err_and c.from_residual.result c.from_residual.ensures.1 in
    rw (← statuses_all c.args.policy.now.rules c.args.later.now.rules c.args.push.now c.args.outcomes.now) (c.loop-command.invariant.writes _ desk _
    (rw (statuses_more c.args.policy.now.rules c.args.later.now.rules c.args.push.now c.loop-command.command-index _ c.in-Some.outcome.now _ _ within is c.in-Some.ensures.steps) (says_exits _ _ desk _ _ c.report_one.result _ _ _ c.in_err-report_one.was p.1 p.2 (c.report_one.ensures.runs desk))))

pub loop-command-preserved : goal.loop-command-preserved
loop-command-preserved g c =
    let is : c.command-item.result ≡ get_or c.args.push.now.commands c.loop-command.command-index c.command-item.result = search rules in
    let within : c.loop-command.command-index < length c.args.push.now.commands = search rules in
    record {
      writes = λ b desk out ran.
          c.loop-command.invariant.writes b desk out
          (rw (statuses_more c.args.policy.now.rules c.args.later.now.rules c.args.push.now c.loop-command.command-index _ c.in-Some.outcome.now _ _ within is c.in-Some.ensures.steps) (says _ _ desk _ _ c.report_one.result b c.in_ok-report_one.field-0 out c.in_ok-report_one.was (c.report_one.ensures.runs desk) ran));
      reads = c.in_ok-report_one.ensures.tells.0 ∙ c.loop-command.invariant.reads;
      puts = c.in_ok-report_one.ensures.tells.1 ∙ c.loop-command.invariant.puts;
    }

pub returns-clause-runs : goal.returns-clause-runs
returns-clause-runs g c = λ desk.
    let past : length c.args.push.now.commands ≤ c.loop-command.command-index = search rules in
    rw (← statuses_all c.args.policy.now.rules c.args.later.now.rules c.args.push.now c.args.outcomes.now) (c.loop-command.invariant.writes _ desk _ (rw (statuses_end c.args.policy.now.rules c.args.later.now.rules c.args.push.now c.loop-command.command-index _ past) (says_nothing _ desk)))
