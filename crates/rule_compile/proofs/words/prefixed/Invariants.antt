use Rattle.std.proofs.Common.{◌≡◌, ◌++◌, drop}
use Rattle.rule_compile.specs.Words.{prefixed}
use Rattle.rule_compile.proofs.words.prefixed.Given as goal

abbrev pub invariant-loop-word : goal.invariant-loop-word
invariant-loop-word l = prefixed l.words ≡ l.texts ++ prefixed (drop l.word-index l.words)
