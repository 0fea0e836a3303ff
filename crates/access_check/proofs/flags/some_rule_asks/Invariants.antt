use Rattle.std.proofs.Common.{◌≡◌}
use Rattle.std.specs.List.{list_any}
use Rattle.rule_compile.specs.Patterns.{AreTrue, Patterns}
use Rattle.access_check.specs.Questions.{AllLead, asked_by}
use Rattle.access_check.specs.Verdicts.{asks_vref}
use Rattle.access_check.proofs.flags.some_rule_asks.Given as goal

abbrev pub invariant-loop-rule : goal.invariant-loop-rule
invariant-loop-rule l = record {
  numbers : AllLead l.policy.rules l.rule-iterator;
  left : (ps : Patterns) → AreTrue ps → list_any (asks_vref ps (asked_by ps l.question) l.which) l.rule-iterator ≡ list_any (asks_vref ps (asked_by ps l.question) l.which) l.policy.rules;
}
