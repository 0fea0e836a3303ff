use Rattle.std.proofs.Common.{◌≡◌, ◌++◌, drop}
use Rattle.std.specs.List.{flat_map}
use Rattle.conf_check.specs.Lines.{rule_line}
use Rattle.conf_check.proofs.lines.push_rules.Given as goal

abbrev pub invariant-loop-rule : goal.invariant-loop-rule
invariant-loop-rule l = l.initial.text.items ++ flat_map rule_line l.rules ≡ l.text.items ++ flat_map rule_line (drop l.rule-index l.rules)
