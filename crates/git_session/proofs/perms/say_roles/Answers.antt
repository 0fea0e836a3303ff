use Rattle.std.proofs.Common.{rules, ◌≡◌, ◌<◌, ◌≤◌, length, get_or, refl, ◌∙◌}
use Rattle.std.proofs.lemmas.Result.{err_from_is_err_and}
use Rattle.session_core.proofs.StepLemmas.{says, says_exits, says_nothing}
use Rattle.session_core.proofs.LineLemmas.{lines_all, lines_more, lines_end}
use Rattle.git_session.specs.Perms.{role_line}
use Rattle.git_session.proofs.perms.say_roles.Goals as goal

pub loop-entry-init : goal.loop-entry-init
loop-entry-init g c = record { writes = λ b desk out ran. ran; reads = refl; puts = refl }

pub returns-in_err-say_role-clause-runs : goal.returns-in_err-say_role-clause-runs
returns-in_err-say_role-clause-runs g c = λ desk.
    let is : c.entry-item.result ≡ get_or c.args.roles.now c.loop-entry.entry-index c.entry-item.result = search rules in
    let within : c.loop-entry.entry-index < length c.args.roles.now = search rules in
    let p = err_from_is_err_and c.from_residual.result c.from_residual.ensures.1 in
    rw (← lines_all role_line c.args.roles.now) (c.loop-entry.invariant.writes _ desk _ (rw (lines_more role_line c.args.roles.now c.loop-entry.entry-index _ within is) (says_exits _ _ desk _ _ c.say_role.result _ _ _ c.in_err-say_role.was p.1 p.2 (c.say_role.ensures.runs desk))))

pub loop-entry-preserved : goal.loop-entry-preserved
loop-entry-preserved g c =
    let is : c.entry-item.result ≡ get_or c.args.roles.now c.loop-entry.entry-index c.entry-item.result = search rules in
    let within : c.loop-entry.entry-index < length c.args.roles.now = search rules in
    record {
      writes = λ b desk out ran.
          c.loop-entry.invariant.writes b desk out (rw (lines_more role_line c.args.roles.now c.loop-entry.entry-index _ within is) (says _ _ desk _ _ c.say_role.result b c.in_ok-say_role.field-0 out c.in_ok-say_role.was (c.say_role.ensures.runs desk) ran));
      reads = c.in_ok-say_role.ensures.tells.0 ∙ c.loop-entry.invariant.reads;
      puts = c.in_ok-say_role.ensures.tells.1 ∙ c.loop-entry.invariant.puts;
    }

pub returns-clause-runs : goal.returns-clause-runs
returns-clause-runs g c = λ desk.
    let past : length c.args.roles.now ≤ c.loop-entry.entry-index = search rules in
    rw (← lines_all role_line c.args.roles.now) (c.loop-entry.invariant.writes _ desk _ (rw (lines_end role_line c.args.roles.now c.loop-entry.entry-index past) (says_nothing _ desk)))
