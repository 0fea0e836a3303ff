use Rattle.rule_compile.proofs.PatternLemmas.{takes_as}
use Rattle.rule_compile.proofs.known.KnownPattern.takes.Goals as goal

pub returns : goal.returns
returns c = λ ps ok. rw (← c.self.view_is) (takes_as ps ok _ _ _ _ c.self.invariant _ (rw c.deref.ensures at c.whole.ensures))
