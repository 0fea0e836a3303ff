use Rattle.rule_laws.proofs.LawLemmas.{dropped_are_warned, lines_give_options, lines_give_rules, lines_not_back, numbers_no_gap, options_of_lines, plain_are_worded, plain_once, rules_in_order, rules_of_lines, subconfs_stay_inside}
use Rattle.rule_laws.proofs.ScopeLemmas.{one_scope}
use Rattle.rule_laws.proofs.SourceLemmas.{scopes_from_lines}
use Rattle.rule_laws.proofs.laws.hold_laws.Goals as goal

pub returns-clause-inside : goal.returns-clause-inside
returns-clause-inside c = subconfs_stay_inside

pub returns-clause-rules : goal.returns-clause-rules
returns-clause-rules c = rules_of_lines

pub returns-clause-lines : goal.returns-clause-lines
returns-clause-lines c = lines_give_rules

pub returns-clause-scope : goal.returns-clause-scope
returns-clause-scope c = one_scope

pub returns-clause-numbers : goal.returns-clause-numbers
returns-clause-numbers c = numbers_no_gap

pub returns-clause-back : goal.returns-clause-back
returns-clause-back c = lines_not_back

pub returns-clause-plain : goal.returns-clause-plain
returns-clause-plain c = plain_are_worded

pub returns-clause-options : goal.returns-clause-options
returns-clause-options c = options_of_lines

pub returns-clause-given : goal.returns-clause-given
returns-clause-given c = lines_give_options

pub returns-clause-warnings : goal.returns-clause-warnings
returns-clause-warnings c = dropped_are_warned

pub returns-clause-order : goal.returns-clause-order
returns-clause-order c = rules_in_order

pub returns-clause-once : goal.returns-clause-once
returns-clause-once c = plain_once

pub returns-clause-spliced : goal.returns-clause-spliced
returns-clause-spliced c = scopes_from_lines
