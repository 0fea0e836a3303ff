use Rattle.std.proofs.Common.{◌∙◌, sym, arith}
use Rattle.ref_store.proofs.BlockLemmas.{common_block}
use Rattle.ref_store.proofs.odds.common_blocks.Goals as goal

pub loop-at-preserved : goal.loop-at-preserved
loop-at-preserved c =
    let block = common_block c.args.first.now c.args.second.now c.loop-at.at (sym c.has_same_block.ensures ∙ c.loop-at-test.true) in
    (block.0, omega (arith, c.loop-at.invariant.1, block.1))
