use Rattle.std.proofs.Common.{◌≡◌, ◌++◌, drop}
use Rattle.rule_compile.specs.Words.{refexes_in}
use Rattle.rule_compile.proofs.groups.Conf.refexes_in.Given as goal

abbrev pub invariant-loop-word : goal.invariant-loop-word
invariant-loop-word l = refexes_in l.self.placed.now l.place l.scope l.words ≡ l.texts ++ refexes_in l.self.placed.now l.place l.scope (drop l.word-index l.words)
