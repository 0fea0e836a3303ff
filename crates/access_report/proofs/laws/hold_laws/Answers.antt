use Rattle.access_report.proofs.AnswerLemmas.{each_is_answered}
use Rattle.access_report.proofs.PlaceLemmas.{each_is_asked_once}
use Rattle.access_report.proofs.laws.hold_laws.Goals as goal

pub returns-clause-once : goal.returns-clause-once
returns-clause-once c = each_is_asked_once

pub returns-clause-answered : goal.returns-clause-answered
returns-clause-answered c = each_is_answered
