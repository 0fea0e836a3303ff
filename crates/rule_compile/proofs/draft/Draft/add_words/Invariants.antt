use Rattle.std.proofs.Common.{◌≡◌, drop}
use Rattle.rule_compile.specs.Patterns.{AreTrue, Patterns}
use Rattle.rule_compile.specs.Answers.{state_of}
use Rattle.rule_compile.specs.Flat.{with_words}
use Rattle.rule_compile.proofs.draft.Draft.add_words.Given as goal

abbrev pub invariant-loop-word : goal.invariant-loop-word
invariant-loop-word l = (ps : Patterns) → AreTrue ps → with_words ps l.conf.placed.now l.line l.words (state_of l.fn.self) ≡ with_words ps l.conf.placed.now l.line (drop l.word-index l.words) (state_of l.draft)
