use Rattle.std.proofs.Common.{◌≡◌, drop}
use Rattle.rule_compile.specs.Words.{unknown_at}
use Rattle.rule_compile.proofs.groups.Conf.unknown_at.Given as goal

abbrev pub invariant-loop-word : goal.invariant-loop-word
invariant-loop-word l = unknown_at l.self.placed.now l.place l.scope l.words ≡ unknown_at l.self.placed.now l.place l.scope (drop l.word-index l.words)
