use Rattle.std.proofs.Common.{refl, true≢false, sym, ◌∙◌}
use Rattle.ancestry.proofs.AboveLemmas.{floor_above, forward_is, merge_brought, merge_or_low, same_of_both}
use Rattle.ancestry.proofs.ancestors.advance_above.Goals as goal

pub returns-then-not-may_bring-clause-forward : goal.returns-then-not-may_bring-clause-forward
returns-then-not-may_bring-clause-forward c =
    let objects = c.args.lens.now in
    let above = c.requires.above in
    forward_is objects c.args.known.now c.args.least_of_new c.in_ok-past.past c.in_ok-line.line c.args.old c.args.new (floor_above objects c.args.known.now c.args.old c.args.least_of_new c.requires.known above)
    (λ id there behind. same_of_both objects c.args.old above.0 above.1 id (c.in_ok-past.ensures.are id there) behind) c.in_ok-line.ensures c.contains-forward.result c.contains-forward.ensures

pub returns-then-not-may_bring-clause-merge : goal.returns-then-not-may_bring-clause-merge
returns-then-not-may_bring-clause-merge c = (
  λ is. absurd (true≢false (sym is)),
  λ brings.
      let may = merge_or_low c.args.lens.now c.args.known.now c.args.least_of_new c.args.old c.args.new c.in_ok-past.past c.in_ok-line.line c.in_ok-line.ensures c.in_ok-past.ensures.are brings in
      absurd (true≢false (sym (c.may_bring.ensures.1 may) ∙ c.if-not-may_bring.true)),
)

pub returns-then-has_merge-clause-forward : goal.returns-then-has_merge-clause-forward
returns-then-has_merge-clause-forward c =
    let objects = c.args.lens.now in
    let above = c.requires.above in
    forward_is objects c.args.known.now c.args.least_of_new c.in_ok-past.past c.in_ok-line.line c.args.old c.args.new (floor_above objects c.args.known.now c.args.old c.args.least_of_new c.requires.known above)
    (λ id there behind. same_of_both objects c.args.old above.0 above.1 id (c.in_ok-past.ensures.are id there) behind) c.in_ok-line.ensures c.contains-forward.result c.contains-forward.ensures

pub returns-then-has_merge-clause-merge : goal.returns-then-has_merge-clause-merge
returns-then-has_merge-clause-merge c = (
  λ is.
      merge_brought c.args.lens.now c.args.known.now c.args.least_of_new c.args.old c.args.new c.in_ok-past.past c.in_ok-line.line c.in_ok-line.ensures c.args.least c.in_ok-high.high c.in_ok-past.ensures c.in_ok-high.ensures
      (c.has_merge.ensures.0 c.if-has_merge.true),
  λ brings. refl,
)
