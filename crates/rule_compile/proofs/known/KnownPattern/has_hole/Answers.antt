use Rattle.rule_compile.proofs.PatternLemmas.{hole_as}
use Rattle.rule_compile.proofs.known.KnownPattern.has_hole.Goals as goal

pub returns : goal.returns
returns c = λ ps ok. rw (← c.self.view_is) (hole_as ps ok _ _ c.self.invariant _ (rw c.deref.ensures at c.has_hole.ensures))
