use Rattle.std.proofs.Common.{◌≡◌, false, take}
use Rattle.std.specs.List.{list_any}
use Rattle.rule_compile.specs.Patterns.{AreTrue, Patterns}
use Rattle.access_check.specs.Questions.{asked_by, role_covers}
use Rattle.access_check.proofs.users.Question.some_role_covers.Given as goal

abbrev pub invariant-loop-word : goal.invariant-loop-word
invariant-loop-word l = (ps : Patterns) → AreTrue ps → list_any (role_covers (asked_by ps l.self) l.members) (take l.word-index l.word-items) ≡ false
