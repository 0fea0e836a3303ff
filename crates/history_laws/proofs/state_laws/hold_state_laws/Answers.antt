use Rattle.history_laws.proofs.ChangeLemmas.{done_brings_its_pack, only_these_change, others_stay, roles_change_alone}
use Rattle.history_laws.proofs.DoneLemmas.{done_conf_is_in_force, done_was_advertised, pushes_are_for_writing}
use Rattle.history_laws.proofs.EachLemmas.{objects_are_few, refs_are_named}
use Rattle.history_laws.proofs.FactsLemmas.{past_is_let_by_its_facts}
use Rattle.history_laws.proofs.MadeLemmas.{made_is_of_the_conf, new_was_made, plain_are_there}
use Rattle.history_laws.proofs.OneLogLemmas.{one_log}
use Rattle.history_laws.proofs.SomeAnswer.{some_answer_is_due, some_outcomes_are_due}
use Rattle.history_laws.proofs.state_laws.hold_state_laws.Goals as goal

pub returns-clause-conf : goal.returns-clause-conf
returns-clause-conf c = done_conf_is_in_force c.some_patterns_are_true.ensures.0 c.some_patterns_are_true.ensures.1

pub returns-clause-only : goal.returns-clause-only
returns-clause-only c = only_these_change c.some_patterns_are_true.ensures.0 c.some_patterns_are_true.ensures.1

pub returns-clause-apart : goal.returns-clause-apart
returns-clause-apart c = others_stay c.some_patterns_are_true.ensures.0 c.some_patterns_are_true.ensures.1

pub returns-clause-pack : goal.returns-clause-pack
returns-clause-pack c = done_brings_its_pack c.some_patterns_are_true.ensures.0 c.some_patterns_are_true.ensures.1

pub returns-clause-roles : goal.returns-clause-roles
returns-clause-roles c = roles_change_alone

pub returns-clause-writing : goal.returns-clause-writing
returns-clause-writing c = pushes_are_for_writing c.some_patterns_are_true.ensures.0 c.some_patterns_are_true.ensures.1

pub returns-clause-advertised : goal.returns-clause-advertised
returns-clause-advertised c = done_was_advertised c.some_patterns_are_true.ensures.0 c.some_patterns_are_true.ensures.1

pub returns-clause-new : goal.returns-clause-new
returns-clause-new c = new_was_made c.hold_laws.ensures.roles c.some_patterns_are_true.ensures.0 c.some_patterns_are_true.ensures.1

pub returns-clause-made : goal.returns-clause-made
returns-clause-made c = made_is_of_the_conf c.some_patterns_are_true.ensures.0 c.some_patterns_are_true.ensures.1

pub returns-clause-plain : goal.returns-clause-plain
returns-clause-plain c = plain_are_there c.hold_laws.ensures.one c.hold_laws-2.ensures.rules

pub returns-clause-facts : goal.returns-clause-facts
returns-clause-facts c = past_is_let_by_its_facts c.hold_laws-3.ensures.exactly

pub returns-clause-refs : goal.returns-clause-refs
returns-clause-refs c = refs_are_named c.some_patterns_are_true.ensures.0 c.some_patterns_are_true.ensures.1

pub returns-clause-few : goal.returns-clause-few
returns-clause-few c = objects_are_few c.some_patterns_are_true.ensures.0 c.some_patterns_are_true.ensures.1

pub returns-clause-one : goal.returns-clause-one
returns-clause-one c = one_log c.hold_laws.ensures.one c.some_patterns_are_true.ensures.0 c.some_patterns_are_true.ensures.1

pub returns-clause-some : goal.returns-clause-some
returns-clause-some c = some_answer_is_due c.hold_laws.ensures.good

pub returns-clause-outcomes : goal.returns-clause-outcomes
returns-clause-outcomes c = some_outcomes_are_due
