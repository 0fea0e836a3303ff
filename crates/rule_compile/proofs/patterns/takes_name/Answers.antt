use Rattle.rule_compile.proofs.PatternLemmas.{takes_as}
use Rattle.rule_compile.proofs.patterns.takes_name.Goals as goal

pub returns-in-Ok : goal.returns-in-Ok
returns-in-Ok c = λ ps ok. takes_as ps ok _ _ _ _ c.in-Ok.ensures.pattern _ c.whole.ensures
