use Rattle.vref.specs.History.{AreLinksOf}
use Rattle.vref.proofs.history.links_of.Given as goal

abbrev pub invariant-loop-at : goal.invariant-loop-at
invariant-loop-at l = AreLinksOf l.at l.lens l.ids.keys l.links.items
