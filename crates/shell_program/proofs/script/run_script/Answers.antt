use Rattle.std.proofs.Common.{◌≡◌, [], Err, refl, ◌∙◌, arith, rules}
use Rattle.pktline_core.proofs.LinkLemmas.{later_same, later_more}
use Rattle.shell_program.proofs.ScriptLemmas.{advances_none, advances_next, count_frames, given_more, runs_end, stops}
use Rattle.shell_program.proofs.script.run_script.Goals as goal

pub loop-buffer-init : goal.loop-buffer-init
loop-buffer-init g c = record { so_far = ([], advances_none _ _ _ c.requires.alone, refl, refl); unbroken = c.requires.unbroken; tells_input = refl; tells_output = refl; input = later_same _; output = later_same _; goes = g.met.K.Desk.stays _ }

pub returns-in_err-taken-clause-err : goal.returns-in_err-taken-clause-err
returns-in_err-taken-clause-err g c =
    let answer : c.from_residual.result ≡ Err c.in_err-taken.field-0.0 = search rules in
    let so_far = c.loop-buffer.invariant.so_far in
    rw answer (stops _ _ _ _ _ _ _ _ _ so_far.0 c.loop-buffer.number c.loop-buffer.offset c.in_err-taken.field-0.0 so_far.1 so_far.2 so_far.3 c.loop-buffer.invariant.input c.loop-buffer.invariant.output c.in_err-taken.ensures.err)

pub overflow_add-number : goal.overflow_add-number
overflow_add-number g c =
    let so_far = c.loop-buffer.invariant.so_far in
    omega (arith, so_far.1.takes.counted, so_far.2, count_frames so_far.0, g.met.I.Source.given_below c.loop-buffer.input)

pub loop-buffer-smaller : goal.loop-buffer-smaller
loop-buffer-smaller g c =
    let one = rw c.in-Some.is at c.in_ok-taken.ensures.some in
    omega (arith, given_more _ _ _ _ _ _ _ _ one, g.met.I.Source.given_below c.loop-buffer.input, g.met.I.Source.given_below c.advance.new.input)

pub loop-buffer-preserved : goal.loop-buffer-preserved
loop-buffer-preserved g c =
    let one = rw c.in-Some.is at c.in_ok-taken.ensures.some in
    let so_far = c.loop-buffer.invariant.so_far in
    record {
      so_far = advances_next _ _ _ _ _ _ _ _ _ c.loop-buffer.number c.loop-buffer.offset c.in-Some.taken so_far.0 so_far.1 so_far.2 so_far.3 one;
      unbroken = c.in_ok-taken.ensures.tells_broken;
      tells_input = c.in_ok-taken.ensures.tells_input ∙ c.loop-buffer.invariant.tells_input;
      tells_output = c.in_ok-taken.ensures.tells_output ∙ c.loop-buffer.invariant.tells_output;
      input = later_more _ _ _ c.loop-buffer.invariant.input c.advance.ensures.input;
      output = later_more _ _ _ c.loop-buffer.invariant.output c.advance.ensures.output;
      goes = g.met.K.Desk.composes _ _ _ c.loop-buffer.invariant.goes c.advance.ensures.goes;
    }

pub returns-clause-ok : goal.returns-clause-ok
returns-clause-ok g c =
    let end = rw c.in_default.is at c.in_ok-taken.ensures.none in
    let so_far = c.loop-buffer.invariant.so_far in
    runs_end _ _ _ _ _ _ _ _ _ so_far.0 so_far.1 end

pub returns-in_err-taken-clause-admin : goal.returns-in_err-taken-clause-admin
returns-in_err-taken-clause-admin g c = c.advance.ensures.admin ∙ c.loop-buffer.invariant.so_far.1.admin

pub returns-in_err-taken-clause-goes : goal.returns-in_err-taken-clause-goes
returns-in_err-taken-clause-goes g c = g.met.K.Desk.composes _ _ _ c.loop-buffer.invariant.goes c.advance.ensures.goes

pub returns-clause-admin : goal.returns-clause-admin
returns-clause-admin g c = c.advance.ensures.admin ∙ c.loop-buffer.invariant.so_far.1.admin

pub returns-clause-goes : goal.returns-clause-goes
returns-clause-goes g c = g.met.K.Desk.composes _ _ _ c.loop-buffer.invariant.goes c.advance.ensures.goes
