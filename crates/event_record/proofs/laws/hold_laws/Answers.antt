use Rattle.event_record.proofs.BodyLaws.{front_again, one_body}
use Rattle.event_record.proofs.laws.hold_laws.Goals as goal

pub returns-clause-front : goal.returns-clause-front
returns-clause-front c caller place pack commands atomic is = front_again caller place pack commands atomic is

pub returns-clause-one : goal.returns-clause-one
returns-clause-one c caller other request another is has e = one_body caller other request another is has e
