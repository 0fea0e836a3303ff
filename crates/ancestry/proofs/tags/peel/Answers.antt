use Rattle.std.proofs.Common.{◌-◌, ◌<◌, length, sym, ◌∙◌, subst, ℕ}
use Rattle.ancestry.proofs.TagLemmas.{peel_stays, peel_step}
use Rattle.ancestry.proofs.tags.peel.Goals as goal

pub returns-in_default : goal.returns-in_default
returns-in_default c = sym (c.loop-step.invariant ∙ peel_stays c.args.lens.now c.loop-step.id (length c.args.lens.now - c.loop-step._step) (sym c.in_default.ensures))

pub loop-step-preserved : goal.loop-step-preserved
loop-step-preserved c =
    c.loop-step.invariant
    ∙ peel_step c.args.lens.now c.loop-step.id c.in-Some.next (length c.args.lens.now) c.loop-step._step (sym c.in-Some.ensures)
    (subst (λ (n : ℕ). c.loop-step._step < n) c.len-step-end.ensures c.loop-step-test.true)
