use Rattle.ancestry.specs.Tables.{IsOfAll}
use Rattle.ancestry.proofs.layers.joined.Given as goal

abbrev pub invariant-loop-layer : goal.invariant-loop-layer
invariant-loop-layer g l = IsOfAll l.layers l.fn.last l.joined
