use Rattle.std.proofs.Common.{◌≡◌, drop}
use Rattle.rule_compile.specs.Patterns.{AreTrue, Patterns}
use Rattle.rule_compile.specs.Words.{some_lets}
use Rattle.rule_compile.proofs.groups.some_lets.Given as goal

abbrev pub invariant-loop-member : goal.invariant-loop-member
invariant-loop-member l = (ps : Patterns) → AreTrue ps → some_lets ps l.word l.members ≡ some_lets ps l.word (drop l.member-index l.members)
