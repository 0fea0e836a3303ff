use Rattle.std.proofs.Common.{◌≡◌}
use Rattle.std.specs.List.{find}
use Rattle.rule_compile.specs.Patterns.{AreTrue, Patterns}
use Rattle.access_check.specs.Questions.{AllLead, asked_by}
use Rattle.access_check.specs.Verdicts.{decides}
use Rattle.access_check.proofs.deciding.verdict_on_ref.Given as goal

abbrev pub invariant-loop-rule : goal.invariant-loop-rule
invariant-loop-rule l = record {
  numbers : AllLead l.policy.rules l.rule-iterator;
  left : (ps : Patterns) → AreTrue ps → find (decides ps (asked_by ps l.question) l.letter l.name) l.rule-iterator ≡ find (decides ps (asked_by ps l.question) l.letter l.name) l.policy.rules;
}
