use Rattle.vref.proofs.WalkLemmas.{items_more}
use Rattle.std.proofs.Common.{arith}
use Rattle.vref.proofs.walk.items_of.Goals as goal

pub loop-row-preserved : goal.loop-row-preserved
loop-row-preserved c = record {
  items = items_more c.args.first c.args.rows.now c.loop-row.row-index _ c.loop-row.place c.loop-row.items.items c.add_items.new.items.items c.loop-row-test.true c.loop-row.invariant.place_is c.loop-row.invariant.items c.in_ok-add_items.ensures;
  place_is = omega (arith, c.loop-row.invariant.place_is);
}
