use Rattle.std.proofs.Common.{take}
use Rattle.std.specs.Prelude.{codes}
use Rattle.rule_compile.specs.OptionWords.{IsOption}
use Rattle.rule_compile.specs.Index.{option_words}
use Rattle.rule_compile.proofs.policy.deny_of.Given as goal

abbrev pub invariant-loop-line : goal.invariant-loop-line
invariant-loop-line l = IsOption l.deny (option_words (codes "deny-rules") (take l.line-index l.options))
