use Rattle.std.proofs.Common.{arith, sym, ◌∙◌, true, false}
use Rattle.refex.specs.Text.{class_length}
use Rattle.refex.proofs.Cutting.{length_found, length_on, length_never}
use Rattle.refex.proofs.text.class_length.Goals as goal

pub returns-then-closes_class-clause-value : goal.returns-then-closes_class-clause-value
returns-then-closes_class-clause-value c =
    length_found (class_length true false c.args.bytes.now) c.loop-i.i c.loop-i.behind c.args.bytes.now c.loop-i.invariant c.loop-i-test.true (sym c.closes_class.ensures ∙ c.if-closes_class.true)

pub loop-i-preserved : goal.loop-i-preserved
loop-i-preserved c =
    length_on (class_length true false c.args.bytes.now) c.loop-i.i c.loop-i.behind c.escapes-behind.result c.args.bytes.now c.loop-i.invariant c.loop-i-test.true
    (sym c.closes_class.ensures ∙ c.if-closes_class.false) c.escapes-behind.ensures

pub returns-clause-value : goal.returns-clause-value
returns-clause-value c = length_never (class_length true false c.args.bytes.now) c.loop-i.i c.loop-i.behind c.args.bytes.now c.loop-i.invariant (omega arith)
