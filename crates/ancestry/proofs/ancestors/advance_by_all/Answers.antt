use Rattle.std.proofs.Common.{inl, inr, refl, true≢false, sym, ◌∙◌, arith}
use Rattle.ancestry.proofs.AboveLemmas.{floor_none, forward_is, itself_before, low_known, merge_by_all, merge_or_low, only_itself}
use Rattle.ancestry.proofs.ancestors.advance_by_all.Goals as goal

pub returns-then-not-has_merge-clause-forward : goal.returns-then-not-has_merge-clause-forward
returns-then-not-has_merge-clause-forward c =
    let objects = c.args.lens.now in
    let known = c.args.known.now in
    forward_is objects known 0 c.insert.new.self c.in_ok-line.line c.args.old c.args.new (floor_none objects known c.args.old)
    (λ id there behind. only_itself c.new-itself.result c.insert.new.self c.args.old c.new-itself.ensures c.in_ok-insert.ensures id there) c.in_ok-line.ensures c.contains-forward.result c.contains-forward.ensures

pub returns-then-not-has_merge-clause-merge : goal.returns-then-not-has_merge-clause-merge
returns-then-not-has_merge-clause-merge c = (
  λ is. absurd (true≢false (sym is)),
  λ brings.
      let objects = c.args.lens.now in
      let known = c.args.known.now in
      elim (merge_or_low objects known 0 c.args.old c.args.new c.insert.new.self c.in_ok-line.line c.in_ok-line.ensures (itself_before objects c.new-itself.result c.insert.new.self c.args.old c.new-itself.ensures c.in_ok-insert.ensures) brings) [
        | inl has ↦ absurd (true≢false (sym (c.has_merge.ensures.1 has) ∙ c.if-not-has_merge.true))
        | inr low ↦ let told = low_known known 0 low.0 low.2 in absurd (omega (arith, told.2))
      ],
)

pub returns-clause-forward : goal.returns-clause-forward
returns-clause-forward c =
    let objects = c.args.lens.now in
    let known = c.args.known.now in
    forward_is objects known 0 c.insert.new.self c.in_ok-line.line c.args.old c.args.new (floor_none objects known c.args.old)
    (λ id there behind. only_itself c.new-itself.result c.insert.new.self c.args.old c.new-itself.ensures c.in_ok-insert.ensures id there) c.in_ok-line.ensures c.contains-forward.result c.contains-forward.ensures

pub returns-clause-merge : goal.returns-clause-merge
returns-clause-merge c =
    let objects = c.args.lens.now in
    let known = c.args.known.now in
    let by =
    merge_by_all objects known 0 c.args.old c.args.new c.insert.new.self c.in_ok-line.line c.in_ok-line.ensures refl (itself_before objects c.new-itself.result c.insert.new.self c.args.old c.new-itself.ensures c.in_ok-insert.ensures)
    c.in_ok-past.past c.in_ok-past.ensures in
    (λ is. by.0 (c.has_merge-2.ensures.0 is), λ brings. c.has_merge-2.ensures.1 (by.1 brings))
