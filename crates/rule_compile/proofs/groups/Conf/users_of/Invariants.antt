use Rattle.std.proofs.Common.{◌≡◌, ◌++◌, drop}
use Rattle.rule_compile.specs.Words.{users_of}
use Rattle.rule_compile.proofs.groups.Conf.users_of.Given as goal

abbrev pub invariant-loop-word : goal.invariant-loop-word
invariant-loop-word l = users_of l.self.placed.now l.scope l.words ≡ l.users ++ users_of l.self.placed.now l.scope (drop l.word-index l.words)
