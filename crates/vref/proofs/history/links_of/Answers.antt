use Rattle.std.proofs.Common.{ℕ, ◌≡◌, List, length, sym, subst, arith}
use Rattle.vref.specs.History.{AreLinksOf}
use Rattle.vref.proofs.LinkLemmas.{links_none}
use Rattle.vref.proofs.history.links_of.Goals as goal

pub loop-at-init : goal.loop-at-init
loop-at-init c = subst (λ (links : List (ℕ × ℕ)). AreLinksOf 0 c.args.lens.now c.args.ids.now.keys links) (sym c.new-links.ensures.items) (links_none c.args.lens.now c.args.ids.now.keys)

pub returns : goal.returns
returns c =
    let all : c.loop-at.at ≡ length c.args.ids.now.keys = omega (arith, c.loop-at-test.false, c.loop-at.auto.at-end, c.len-at-end.ensures.len) in
    subst (λ (count : ℕ). AreLinksOf count c.args.lens.now c.args.ids.now.keys c.loop-at.links.items) all c.loop-at.invariant
