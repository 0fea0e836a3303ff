use Rattle.std.proofs.Common.{◌<◌, ◌-◌, arith, rules, get_or, length}
use Rattle.vref.proofs.ListLemmas.{contains_got}
use Rattle.vref.proofs.MarkLemmas.{spread_none, spread_more, within_got}
use Rattle.vref.proofs.marks.spread.Goals as goal

pub loop-left-init : goal.loop-left-init
loop-left-init c = record { spread = spread_none c.args.links.now c.args.words.now; within = omega arith }

pub bounds-words-to : goal.bounds-words-to
bounds-words-to c = omega (arith, (within_got (length c.args.words.now) c.args.links.now (c.loop-left.left - 1) c.requires (omega (arith, c.loop-left.invariant.within, c.loop-left-test.true))).1, c.loop-left.auto.words)

pub bounds-words-from : goal.bounds-words-from
bounds-words-from c = omega (arith, (within_got (length c.args.words.now) c.args.links.now (c.loop-left.left - 1) c.requires (omega (arith, c.loop-left.invariant.within, c.loop-left-test.true))).0, c.loop-left.auto.words)

pub bounds-words-to-in-loop-left : goal.bounds-words-to-in-loop-left
bounds-words-to-in-loop-left c = omega (arith, (within_got (length c.args.words.now) c.args.links.now (c.loop-left.left - 1) c.requires (omega (arith, c.loop-left.invariant.within, c.loop-left-test.true))).1, c.loop-left.auto.words)

pub loop-left-preserved : goal.loop-left-preserved
loop-left-preserved c =
    let at = c.loop-left.left - 1 in
    let below : at < length c.args.links.now = omega (arith, c.loop-left.invariant.within, c.loop-left-test.true) in
    let link = get_or c.args.links.now at (0, 0) in
    record {
      spread = spread_more c.args.links.now c.args.words.now c.loop-left.words link.0 link.1 c.joined.result c.loop-left.invariant.spread (contains_got c.args.links.now at (0, 0) below)
          (omega (arith, (within_got (length c.args.words.now) c.args.links.now at c.requires below).1, c.loop-left.auto.words)) c.joined.ensures.left c.joined.ensures.only;
      within = omega (arith, c.loop-left.invariant.within, c.loop-left-test.true);
    }

pub offset_bounds-words-to : goal.offset_bounds-words-to
offset_bounds-words-to c = let below = (within_got (length c.args.words.now) c.args.links.now (c.loop-left.left - 1) c.requires (omega (arith, c.loop-left.invariant.within, c.loop-left-test.true))).1 in search (rules, c.loop-left.auto.words)

pub offset_bounds-words-from : goal.offset_bounds-words-from
offset_bounds-words-from c = let below = (within_got (length c.args.words.now) c.args.links.now (c.loop-left.left - 1) c.requires (omega (arith, c.loop-left.invariant.within, c.loop-left-test.true))).0 in search (rules, c.loop-left.auto.words)

pub offset_bounds-words-to-in-loop-left : goal.offset_bounds-words-to-in-loop-left
offset_bounds-words-to-in-loop-left c = let below = (within_got (length c.args.words.now) c.args.links.now (c.loop-left.left - 1) c.requires (omega (arith, c.loop-left.invariant.within, c.loop-left-test.true))).1 in search (rules, c.loop-left.auto.words)
