use Rattle.std.proofs.Common.{◌≡◌, drop}
use Rattle.rule_compile.specs.Words.{unknown_repo}
use Rattle.rule_compile.proofs.groups.Conf.unknown_repo.Given as goal

abbrev pub invariant-loop-word : goal.invariant-loop-word
invariant-loop-word l = unknown_repo l.self.placed.now l.scope l.words ≡ unknown_repo l.self.placed.now l.scope (drop l.word-index l.words)
