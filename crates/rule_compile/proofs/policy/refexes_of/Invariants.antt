use Rattle.std.proofs.Common.{◌≡◌, take}
use Rattle.rule_compile.specs.Index.{refexes_of_rules}
use Rattle.rule_compile.proofs.policy.refexes_of.Given as goal

abbrev pub invariant-loop-rule : goal.invariant-loop-rule
invariant-loop-rule l = l.refexes ≡ refexes_of_rules (take l.rule-index l.rules)
