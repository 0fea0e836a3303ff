use Rattle.std.proofs.Common.{◌<◌}
use Rattle.ancestry.specs.Generations.{IsAtLeast}
use Rattle.ancestry.proofs.ancestors.advance_between.Given as goal

abbrev pub invariant-loop-least : goal.invariant-loop-least
invariant-loop-least l = record {
  goes : 0 < l.step;
  above : IsAtLeast l.lens l.least_of_new l.old;
}

abbrev pub decreases-loop-least : goal.decreases-loop-least
decreases-loop-least l = l.least
