use Rattle.std.proofs.Common.{arith}
use Rattle.ancestry.proofs.ancestors.advance_between.Goals as goal

pub loop-least-init : goal.loop-least-init
loop-least-init c = record {
  goes = omega (arith, c.max-step.ensures);
  above = (c.in-Some.generation, c.in-Some.ensures.right c.args.lens.now c.requires, omega (arith, c.min-least_of_new.ensures));
}

pub loop-least-preserved : goal.loop-least-preserved
loop-least-preserved c =
    let above = c.loop-least.invariant.above in
    record {
      goes = omega (arith, c.saturating_mul-step.ensures, c.loop-least.invariant.goes);
      above = (above.0, above.1, omega (arith, c.saturating_sub-least_of_new.ensures, above.2));
    }
