use Rattle.std.proofs.Common.{arith, sym, ◌∙◌, ap}
use Rattle.refex.specs.Items.{item_of}
use Rattle.refex.specs.Faults.{closes_before}
use Rattle.refex.specs.declared.items.Token.{Token}
use Rattle.refex.proofs.FirstFault.{closes_more}
use Rattle.refex.proofs.offences.closes.Goals as goal

pub loop-i-preserved : goal.loop-i-preserved
loop-i-preserved c =
    let bound = c.closes_before-count.ensures.bound in
    record {
      low = omega arith;
      within = omega arith;
      small = omega arith;
      counted = closes_more c.args.tokens.now c.loop-i.i c.index-tokens-i.result c.loop-i.count c.closes_before-count.result c.index-tokens-i.is (omega arith) c.loop-i.invariant.within
          (c.closes_before-count.ensures.value ∙ ap (λ (t : Token). closes_before (item_of t.item) c.loop-i.count) (sym c.index-tokens-i.is)) c.loop-i.invariant.counted;
    }
