use Rattle.std.proofs.Common.{◌≡◌, drop, length}
use Rattle.rule_compile.specs.Words.{unknown_at}
use Rattle.rule_compile.proofs.groups.Conf.unknown_user.Given as goal

abbrev pub invariant-loop-word : goal.invariant-loop-word
invariant-loop-word l = unknown_at l.self.placed.now (length l.self.placed.now) l.scope l.words ≡ unknown_at l.self.placed.now (length l.self.placed.now) l.scope (drop l.word-index l.words)
