use Rattle.std.proofs.Common.{◌≡◌, drop}
use Rattle.rule_compile.specs.Patterns.{AreTrue, Patterns}
use Rattle.update_check.specs.Check.{asked_by}
use Rattle.update_check.specs.Rules.{said_of_paths}
use Rattle.update_check.proofs.check.UpdateCheck.refusal_of_first.Given as goal

abbrev pub invariant-loop-place : goal.invariant-loop-place
invariant-loop-place l =
    (ps : Patterns) → AreTrue ps → said_of_paths ps l.self.flat.rules (asked_by ps l.self) l.letter l.paths ≡ said_of_paths ps l.self.flat.rules (asked_by ps l.self) l.letter (drop l.place l.paths)
