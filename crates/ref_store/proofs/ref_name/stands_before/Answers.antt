use Rattle.std.proofs.Common.{◌≡◌, ◌-◌, ◌∷◌, [], drop, slice_index, ◌∙◌, sym, ap, arith}
use Rattle.ref_store.specs.RefName.{occurs}
use Rattle.ref_store.proofs.ListLemmas.{pair_here, pair_later, no_pair_past}
use Rattle.ref_store.proofs.ref_name.stands_before.Goals.{else-text-i-via-then-text-i+else-text-i-2, else-text-i-via-else-text-i}
use Rattle.ref_store.proofs.ref_name.stands_before.Goals as goal

pub returns-then-text-i-2 : goal.returns-then-text-i-2
returns-then-text-i-2 c =
    sym (pair_here c.args.first c.args.second c.args.text.now c.loop-i.i c.loop-i.auto.i c.loop-i-test.true c.if-text-i.true c.if-text-i-2.true) ∙ c.loop-i.invariant.1

pub loop-i-preserved : goal.loop-i-preserved
loop-i-preserved c =
    let other : slice_index c.args.text.now (c.loop-i.i - 1) ≡ c.args.first → slice_index c.args.text.now c.loop-i.i ≡ c.args.second → ⊥ = elim c.else-text-i.branch [
      | else-text-i-via-then-text-i+else-text-i-2 w ↦ λ first second. w.if-text-i-2.false second
      | else-text-i-via-else-text-i w ↦ λ first second. w.if-text-i.false first
    ] in (
      omega (arith),
      ap (λ n. occurs (c.args.first ∷ c.args.second ∷ []) (drop n c.args.text.now)) (omega (arith))
          ∙ pair_later c.args.first c.args.second c.args.text.now c.loop-i.i c.loop-i.auto.i c.loop-i-test.true other ∙ c.loop-i.invariant.1,
    )

pub returns : goal.returns
returns c = sym (no_pair_past c.args.first c.args.second c.args.text.now c.loop-i.i c.loop-i-test.false) ∙ c.loop-i.invariant.1
