use Rattle.lasting_events.proofs.LastingLemmas.{beginning_lasts, first_stay, lasting_grows, lasting_is_enough, others_change_nothing}
use Rattle.lasting_events.proofs.laws.hold_laws.Goals as goal

pub returns-clause-enough : goal.returns-clause-enough
returns-clause-enough c = lasting_is_enough c.hold_state_laws.ensures.only c.some_patterns_are_true.ensures.0 c.some_patterns_are_true.ensures.1

pub returns-clause-beginning : goal.returns-clause-beginning
returns-clause-beginning c = beginning_lasts

pub returns-clause-grows : goal.returns-clause-grows
returns-clause-grows c = lasting_grows

pub returns-clause-first : goal.returns-clause-first
returns-clause-first c = first_stay

pub returns-clause-others : goal.returns-clause-others
returns-clause-others c = others_change_nothing c.hold_state_laws.ensures.only
