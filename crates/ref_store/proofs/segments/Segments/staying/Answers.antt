use Rattle.std.proofs.Common.{◌≡◌, ◌+◌, ◌-◌, ◌*◌, ◌<◌, ◌≤◌, ◌++◌, ◌∷◌, [], drop, take, length, sym, ◌∙◌, ap, subst, arith}
use Rattle.std.specs.Prelude.{ℕ, List}
use Rattle.git_object.specs.Content.{Content}
use Rattle.ref_store.specs.Segments.{all_of, joined}
use Rattle.ref_store.proofs.SegmentLemmas.{Joined, joined_more, joined_here}
use Rattle.ref_store.proofs.segments.Segments.staying.Goals as goal

pub returns-then-len-size-clause-staying : goal.returns-then-len-size-clause-staying
returns-then-len-size-clause-staying c =
    let at = c.loop-at.at in
    let fresh = c.args.fresh.now in
    let len : c.len-len.result ≡ length c.index.result.now = c.len-len.ensures.len ∙ ap length c.table.ensures in
    let large : 2 * c.loop-at.size ≤ length c.index.result.now = omega (arith, len, c.if-len-size.true) in
    subst (λ (ss : List (List Content)). joined ss fresh ≡ take at ss ++ (all_of (drop at ss) ++ fresh) ∷ []) c.self.view_is
    (joined_here c.self.inside.segments.items fresh at (at - 1) c.loop-at.size c.index.result.now (omega arith) c.index.ensures large c.loop-at.invariant)

pub loop-at-preserved : goal.loop-at-preserved
loop-at-preserved c =
    let at = c.loop-at.at in
    let fresh = c.args.fresh.now in
    let len : c.len-len.result ≡ length c.index.result.now = c.len-len.ensures.len ∙ ap length c.table.ensures in
    let small : length c.index.result.now < 2 * c.loop-at.size = omega (arith, len, c.if-len-size.false) in
    subst (λ (n : ℕ). Joined c.self.inside.segments.items fresh (at - 1) (c.loop-at.size + n)) (sym len)
    (joined_more c.self.inside.segments.items fresh at (at - 1) c.loop-at.size c.index.result.now (omega arith) c.index.ensures small c.loop-at.invariant)
