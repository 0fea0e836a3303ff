use Rattle.std.proofs.Common.{◌≡◌}
use Rattle.std.specs.List.{find}
use Rattle.rule_compile.specs.Patterns.{AreTrue, Patterns}
use Rattle.access_check.specs.Questions.{AllLead, asked_by}
use Rattle.access_check.specs.Verdicts.{creating_decides}
use Rattle.access_check.proofs.opening.verdict_on_creating.Given as goal

abbrev pub invariant-loop-rule : goal.invariant-loop-rule
invariant-loop-rule l = record {
  numbers : AllLead l.policy.rules l.rule-iterator;
  left : (ps : Patterns) → AreTrue ps → find (creating_decides ps (asked_by ps l.question) l.deny_counts) l.rule-iterator ≡ find (creating_decides ps (asked_by ps l.question) l.deny_counts) l.policy.rules;
}
