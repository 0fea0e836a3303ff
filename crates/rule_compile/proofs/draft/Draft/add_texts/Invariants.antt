use Rattle.std.proofs.Common.{◌≡◌, drop}
use Rattle.rule_compile.specs.Patterns.{AreTrue, Patterns}
use Rattle.rule_compile.specs.Answers.{state_of}
use Rattle.rule_compile.specs.Flat.{with_texts}
use Rattle.rule_compile.proofs.draft.Draft.add_texts.Given as goal

abbrev pub invariant-loop-text : goal.invariant-loop-text
invariant-loop-text l = (ps : Patterns) → AreTrue ps → with_texts ps l.conf.placed.now l.line l.texts (state_of l.fn.self) ≡ with_texts ps l.conf.placed.now l.line (drop l.text-index l.texts) (state_of l.draft)
