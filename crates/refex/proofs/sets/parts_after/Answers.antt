use Rattle.std.proofs.Common.{arith}
use Rattle.std.proofs.lemmas.Bool.{both_ways}
use Rattle.refex.proofs.SetLemmas.{advance_none, advance_more, advance_skip, advance_all}
use Rattle.refex.proofs.sets.parts_after.Goals as goal

pub loop-left-init : goal.loop-left-init
loop-left-init c = advance_none c.args.name.now c.args.letter c.args.parts

pub loop-left-preserved-then-is_letter_at : goal.loop-left-preserved-then-is_letter_at
loop-left-preserved-then-is_letter_at c =
    advance_more c.args.name.now c.args.letter c.args.parts c.loop-left.left c.without-left.result c.loop-left.after c.with-after.result c.least-met.result (omega arith)
    c.least-met.ensures.1 c.least-met.ensures.0 c.without-left.ensures.others c.without-left.ensures.gone (c.is_letter_at.ensures.0 c.if-is_letter_at.true)
    c.with-after.ensures.same c.with-after.ensures.keeps c.with-after.ensures.only c.loop-left.invariant

pub loop-left-preserved : goal.loop-left-preserved
loop-left-preserved c =
    advance_skip c.args.name.now c.args.letter c.args.parts c.loop-left.left c.without-left.result c.loop-left.after c.least-met.result (omega arith)
    c.least-met.ensures.1 c.without-left.ensures.others c.without-left.ensures.gone
    (λ at. both_ways c.is_letter_at.result c.if-is_letter_at.false (c.is_letter_at.ensures.1 at)) c.loop-left.invariant

pub returns-clause-goes_on : goal.returns-clause-goes_on
returns-clause-goes_on c = advance_all c.args.name.now c.args.letter c.args.parts c.loop-left.left c.loop-left.after (omega arith) c.loop-left.invariant

pub returns-clause-only : goal.returns-clause-only
returns-clause-only c = c.loop-left.invariant.only
