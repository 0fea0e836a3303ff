use Rattle.std.proofs.Common.{ℕ, ◌≡◌, List, length, sym, subst, arith}
use Rattle.vref.specs.History.{AreMergesOf}
use Rattle.vref.proofs.LinkLemmas.{merges_none}
use Rattle.vref.proofs.history.merges_of.Goals as goal

pub loop-at-init : goal.loop-at-init
loop-at-init c = subst (λ (merges : List ℕ). AreMergesOf 0 c.args.lens.now c.args.ids.now.keys merges) (sym c.new-merges.ensures.items) (merges_none c.args.lens.now c.args.ids.now.keys)

pub returns : goal.returns
returns c =
    let all : c.loop-at.at ≡ length c.args.ids.now.keys = omega (arith, c.loop-at-test.false, c.loop-at.auto.at-end, c.len-at-end.ensures.len) in
    subst (λ (count : ℕ). AreMergesOf count c.args.lens.now c.args.ids.now.keys c.loop-at.merges.items) all c.loop-at.invariant
