use Rattle.std.proofs.Common.{◌≡◌, ℕ, ◌+◌, ◌*◌, ◌≤◌, ◌<◌, sym, ◌∙◌, ap, subst, arith}
use Rattle.installation.specs.Draws.{drawn, drawn_behind}
use Rattle.installation.specs.Sessions.{visit_at, visit_behind}
use Rattle.installation.proofs.ConfLemmas.{drawn_thrice}
use Rattle.shell_program.specs.RunningLoads.{HasLoaded}
use Rattle.shell_program.proofs.LoadLemmas.{lacks_first, lacks_next, loaded_begins, loaded_first, loaded_next, new_begins, when_err, when_ok}
use Rattle.shell_program.proofs.load.load_all.Goals as goal

pub returns-in_default-clause-lacks : goal.returns-in_default-clause-lacks
returns-in_default-clause-lacks c = new_begins c.args.count c.args.start c.args.hub c.requires.new

pub returns-then-is_err-clause-lacks : goal.returns-then-is_err-clause-lacks
returns-then-is_err-clause-lacks c =
    lacks_first c.args.count c.args.start c.args.hub c.serve_input-hub.result.0 c.in-Ok.first.input.items c.requires.new c.in-Ok.ensures.input
    (when_err c.serve_input-hub.result.1 c.is_err.result c.is_err.ensures.value c.if-is_err.true c.serve_input-hub.ensures.lacks)

pub loop-number-init : goal.loop-number-init
loop-number-init c =
    let none : 2 * c.args.count ≡ 2 * c.args.count + 0 = omega arith in
    record {
      loaded = loaded_first c.args.count c.args.start c.args.hub c.serve_input-hub.result.0 c.in-Ok.first.input.items c.requires.new c.in-Ok.ensures.input
          (when_ok c.serve_input-hub.result.1 c.is_err.result c.is_err.ensures.value c.if-is_err.false c.serve_input-hub.ensures.ok);
      draws = subst (λ (n : ℕ). c.in-Ok.first.draws.last ≡ drawn c.args.start n) none c.in-Ok.ensures.draws;
    }

pub returns-in_default-input_of-clause-lacks : goal.returns-in_default-input_of-clause-lacks
returns-in_default-input_of-clause-lacks c =
    let within : c.loop-number.number ≤ c.args.count = omega arith in
    loaded_begins c.args.count c.args.start c.loop-number.number within c.loop-number.hub c.loop-number.invariant.loaded

pub returns-then-is_err-2-clause-lacks : goal.returns-then-is_err-2-clause-lacks
returns-then-is_err-2-clause-lacks c =
    let less : c.loop-number.number < c.args.count = omega arith in
    let visit : c.next_visit-visit.result ≡ visit_at c.args.count c.args.start c.loop-number.number = c.next_visit-visit.ensures.visit ∙ ap (visit_behind c.args.count) c.loop-number.invariant.draws in
    lacks_next c.args.count c.args.start c.loop-number.number c.next_visit-visit.result c.loop-number.hub c.serve_input-after.result.0 c.in-Ok-input_of.input.items less visit c.in-Ok-input_of.ensures c.loop-number.invariant.loaded
    (when_err c.serve_input-after.result.1 c.is_err-in-loop-number.result c.is_err-in-loop-number.ensures.value c.if-is_err-2.true c.serve_input-after.ensures.lacks)

pub loop-number-preserved : goal.loop-number-preserved
loop-number-preserved c =
    let visit : c.next_visit-visit.result ≡ visit_at c.args.count c.args.start c.loop-number.number = c.next_visit-visit.ensures.visit ∙ ap (visit_behind c.args.count) c.loop-number.invariant.draws in
    record {
      loaded = loaded_next c.args.count c.args.start c.loop-number.number c.next_visit-visit.result c.loop-number.hub c.serve_input-after.result.0 c.in-Ok-input_of.input.items visit c.in-Ok-input_of.ensures c.loop-number.invariant.loaded
          (when_ok c.serve_input-after.result.1 c.is_err-in-loop-number.result c.is_err-in-loop-number.ensures.value c.if-is_err-2.false c.serve_input-after.ensures.ok);
      draws = c.next_visit-visit.ensures.draws ∙ ap (λ (n : ℕ). drawn_behind (drawn_behind (drawn_behind n))) c.loop-number.invariant.draws ∙ sym (drawn_thrice c.args.start (2 * c.args.count) c.loop-number.number);
    }

pub returns-clause-ok : goal.returns-clause-ok
returns-clause-ok c =
    let all : c.loop-number.number ≡ c.args.count = omega arith in
    subst (λ (n : ℕ). HasLoaded c.args.count c.args.start n c.loop-number.hub) all c.loop-number.invariant.loaded
