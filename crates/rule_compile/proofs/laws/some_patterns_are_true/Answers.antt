use Rattle.rule_compile.proofs.TrueAnswers.{some_true}
use Rattle.rule_compile.proofs.laws.some_patterns_are_true.Goals as goal

pub returns : goal.returns
returns c = some_true c.sound_texts_are_patterns.ensures c.spells_one_pattern.ensures
