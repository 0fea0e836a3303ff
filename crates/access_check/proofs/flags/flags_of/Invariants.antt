use Rattle.std.proofs.Common.{◌≡◌}
use Rattle.std.specs.Option.{option_copied}
use Rattle.rule_compile.specs.Patterns.{AreTrue, Patterns}
use Rattle.access_check.specs.Letters.{flags_of}
use Rattle.access_check.specs.Questions.{AllLead, joined}
use Rattle.access_check.proofs.flags.flags_of.Given as goal

abbrev pub invariant-loop-rule : goal.invariant-loop-rule
invariant-loop-rule l = record {
  numbers : AllLead l.policy.rules l.rule-iterator;
  left : (ps : Patterns) → AreTrue ps → joined l.flags (flags_of ps l.rule-iterator l.repo (option_copied l.creator)) ≡ flags_of ps l.policy.rules l.repo (option_copied l.creator);
}
