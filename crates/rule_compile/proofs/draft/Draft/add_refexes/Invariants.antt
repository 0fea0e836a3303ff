use Rattle.std.proofs.Common.{◌≡◌, drop}
use Rattle.rule_compile.specs.Patterns.{AreTrue, Patterns}
use Rattle.rule_compile.specs.Answers.{state_of}
use Rattle.rule_compile.specs.Flat.{with_refexes}
use Rattle.rule_compile.proofs.draft.Draft.add_refexes.Given as goal

abbrev pub invariant-loop-text : goal.invariant-loop-text
invariant-loop-text l = (ps : Patterns) → AreTrue ps → with_refexes ps l.texts (state_of l.fn.self) ≡ with_refexes ps (drop l.text-index l.texts) (state_of l.draft)
