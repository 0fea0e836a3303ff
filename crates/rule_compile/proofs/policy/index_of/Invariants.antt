use Rattle.std.proofs.Common.{take}
use Rattle.rule_compile.specs.Index.{words_of_rules}
use Rattle.rule_compile.specs.WordIndex.{Indexes}
use Rattle.rule_compile.proofs.policy.index_of.Given as goal

abbrev pub invariant-loop-rule : goal.invariant-loop-rule
invariant-loop-rule l = Indexes l.index (words_of_rules (take l.rule-index l.rules))
