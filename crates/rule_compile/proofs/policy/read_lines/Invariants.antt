use Rattle.std.proofs.Common.{◌≡◌, drop}
use Rattle.rule_compile.specs.Patterns.{AreTrue, Patterns}
use Rattle.rule_compile.specs.Answers.{state_of}
use Rattle.rule_compile.specs.Flat.{compiled, compiled_all}
use Rattle.rule_compile.proofs.policy.read_lines.Given as goal

abbrev pub invariant-loop-place : goal.invariant-loop-place
invariant-loop-place l = (ps : Patterns) → AreTrue ps → compiled_all ps l.conf.placed.now ≡ compiled ps l.conf.placed.now l.place (drop l.place l.conf.placed.now) (state_of l.draft)
