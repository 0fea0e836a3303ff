use Rattle.journal_laws.proofs.FileLemmas.{bodies_tell, found_is, lasting_found, own_is_not_refused, some_held, they_are_kept}
use Rattle.journal_laws.proofs.laws.hold_laws.Goals as goal

pub returns-clause-bodies : goal.returns-clause-bodies
returns-clause-bodies c = bodies_tell c.hold_state_laws.ensures.one c.hold_laws.ensures.one

pub returns-clause-found : goal.returns-clause-found
returns-clause-found c = found_is c.hold_state_laws.ensures.one c.hold_laws.ensures.one c.hold_laws-2.ensures.one_reading

pub returns-clause-own : goal.returns-clause-own
returns-clause-own c = own_is_not_refused c.hold_state_laws.ensures.one c.hold_laws.ensures.one c.hold_laws-2.ensures.one_reading c.hold_laws-2.ensures.not_bad c.some_patterns_are_true.ensures.0 c.some_patterns_are_true.ensures.1

pub returns-clause-lasting : goal.returns-clause-lasting
returns-clause-lasting c = λ admin log found start count file held again are.
    lasting_found c.hold_laws-3.ensures.enough c.hold_laws-3.ensures.beginning admin log start count file held c.hold_state_laws.ensures.one c.hold_laws.ensures.one c.hold_laws-2.ensures.one_reading found again are

pub returns-clause-lasting_own : goal.returns-clause-lasting_own
returns-clause-lasting_own c = λ admin log start count file fault held why.
    own_is_not_refused c.hold_state_laws.ensures.one c.hold_laws.ensures.one c.hold_laws-2.ensures.one_reading c.hold_laws-2.ensures.not_bad c.some_patterns_are_true.ensures.0 c.some_patterns_are_true.ensures.1
    admin _ 0 file fault (they_are_kept c.hold_laws-3.ensures.enough c.hold_laws-3.ensures.beginning admin log start count file held) (some_held c.hold_laws-3.ensures.enough c.hold_laws-3.ensures.beginning admin log start count file held) why
