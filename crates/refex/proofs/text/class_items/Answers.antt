use Rattle.std.proofs.Common.{arith, sym, ap, ◌∙◌, ◌+◌, ◌==◌, length, true, length-drop}
use Rattle.refex.specs.ByteSet.{holds}
use Rattle.refex.specs.Text.{class_item, class_items}
use Rattle.refex.proofs.Cutting.{class_begun, class_more, class_fault, class_over}
use Rattle.refex.proofs.text.class_items.Goals as goal

pub loop-i-init : goal.loop-i-init
loop-i-init c = record { within = omega arith; rest = class_begun c.args.at c.args.bytes.now (holds c.empty-set.result) c.empty-set.ensures }

pub loop-i-preserved : goal.loop-i-preserved
loop-i-preserved c =
    let read = ap (class_item (c.args.at + c.loop-i.i) (c.loop-i.i == 0)) (sym c.behind.ensures) ∙ sym c.in-Ok.ensures.value in
    record {
      within = let taken = c.in-Ok.ensures.taken in let rest = ap length c.behind.ensures in omega (arith, length-drop c.loop-i.i c.args.bytes.now);
      rest = class_more (class_items c.args.at true 0 c.args.bytes.now) c.args.at c.loop-i.i c.args.bytes.now (holds c.loop-i.set) (holds c.in-Ok.more) (holds c.or-set.result)
          c.in-Ok.taken c.loop-i.invariant.rest c.loop-i-test.true read c.in-Ok.ensures.taken.0 c.or-set.ensures;
    }

pub returns-in-Err : goal.returns-in-Err
returns-in-Err c =
    let read = ap (class_item (c.args.at + c.loop-i.i) (c.loop-i.i == 0)) (sym c.behind.ensures) ∙ sym c.in-Err.ensures.value in
    class_fault (class_items c.args.at true 0 c.args.bytes.now) c.args.at c.loop-i.i c.args.bytes.now (holds c.loop-i.set) c.in-Err.fault c.loop-i.invariant.rest c.loop-i-test.true read

pub returns : goal.returns
returns c = class_over (class_items c.args.at true 0 c.args.bytes.now) c.args.at c.loop-i.i c.args.bytes.now (holds c.loop-i.set) c.loop-i.invariant.rest (omega arith)
