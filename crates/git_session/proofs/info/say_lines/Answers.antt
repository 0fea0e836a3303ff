use Rattle.std.proofs.Common.{rules, ◌≡◌, ◌<◌, ◌≤◌, length, get_or, refl, ◌∙◌}
use Rattle.std.proofs.lemmas.Result.{err_from_is_err_and}
use Rattle.session_core.proofs.StepLemmas.{says, says_exits, says_nothing}
use Rattle.session_core.proofs.LineLemmas.{lines_all, lines_more, lines_end}
use Rattle.git_session.specs.Info.{look_line}
use Rattle.git_session.proofs.info.say_lines.Goals as goal

pub loop-line-init : goal.loop-line-init
loop-line-init g c = record { writes = λ b desk out ran. ran; reads = refl; puts = refl }

pub returns-in_err-say_line-clause-runs : goal.returns-in_err-say_line-clause-runs
returns-in_err-say_line-clause-runs g c = λ desk.
    let is : c.line-item.result ≡ get_or c.args.lines.now c.loop-line.line-index c.line-item.result = search rules in
    let within : c.loop-line.line-index < length c.args.lines.now = search rules in
    let p = err_from_is_err_and c.from_residual.result c.from_residual.ensures.1 in
    rw (← lines_all look_line c.args.lines.now) (c.loop-line.invariant.writes _ desk _ (rw (lines_more look_line c.args.lines.now c.loop-line.line-index _ within is) (says_exits _ _ desk _ _ c.say_line.result _ _ _ c.in_err-say_line.was p.1 p.2 (c.say_line.ensures.runs desk))))

pub loop-line-preserved : goal.loop-line-preserved
loop-line-preserved g c =
    let is : c.line-item.result ≡ get_or c.args.lines.now c.loop-line.line-index c.line-item.result = search rules in
    let within : c.loop-line.line-index < length c.args.lines.now = search rules in
    record {
      writes = λ b desk out ran.
          c.loop-line.invariant.writes b desk out (rw (lines_more look_line c.args.lines.now c.loop-line.line-index _ within is) (says _ _ desk _ _ c.say_line.result b c.in_ok-say_line.field-0 out c.in_ok-say_line.was (c.say_line.ensures.runs desk) ran));
      reads = c.in_ok-say_line.ensures.tells.0 ∙ c.loop-line.invariant.reads;
      puts = c.in_ok-say_line.ensures.tells.1 ∙ c.loop-line.invariant.puts;
    }

pub returns-clause-runs : goal.returns-clause-runs
returns-clause-runs g c = λ desk.
    let past : length c.args.lines.now ≤ c.loop-line.line-index = search rules in
    rw (← lines_all look_line c.args.lines.now) (c.loop-line.invariant.writes _ desk _ (rw (lines_end look_line c.args.lines.now c.loop-line.line-index past) (says_nothing _ desk)))
