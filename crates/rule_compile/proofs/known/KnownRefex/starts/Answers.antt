use Rattle.rule_compile.proofs.PatternLemmas.{starts_as}
use Rattle.rule_compile.proofs.known.KnownRefex.starts.Goals as goal

pub returns : goal.returns
returns c = λ ps ok. rw (← c.self.view_is) (starts_as ps ok _ _ _ _ c.self.invariant _ (rw c.deref.ensures at c.starts.ensures))
