use Rattle.vref.specs.History.{AreMergesOf}
use Rattle.vref.proofs.history.merges_of.Given as goal

abbrev pub invariant-loop-at : goal.invariant-loop-at
invariant-loop-at l = AreMergesOf l.at l.lens l.ids.keys l.merges.items
