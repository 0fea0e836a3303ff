use Rattle.session_core.proofs.HaltLemmas.{sure_by_halt}
use Rattle.session_core.proofs.RulebookLemmas.{agree, recorded, there}
use Rattle.session_core.proofs.laws.hold_laws.Goals as goal

pub returns-clause-there : goal.returns-clause-there
returns-clause-there c = there c.hold_laws.ensures.beginning c.hold_laws.ensures.good

pub returns-clause-agree : goal.returns-clause-agree
returns-clause-agree c = agree c.hold_laws.ensures.one

pub returns-clause-recorded : goal.returns-clause-recorded
returns-clause-recorded c =
    recorded (there c.hold_laws.ensures.beginning c.hold_laws.ensures.good) c.turns_hold.ensures.answers c.some_patterns_are_true.ensures.0 c.some_patterns_are_true.ensures.1

pub returns-clause-sure : goal.returns-clause-sure
returns-clause-sure c = sure_by_halt
