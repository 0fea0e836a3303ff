use Rattle.std.proofs.Common.{refl}
use Rattle.hub.specs.Answer.{settled}
use Rattle.hub.specs.Desk.{known_alone}
use Rattle.hub.proofs.DeskLemmas.{called_alone, calls_keep, same_admin, starts_within}
use Rattle.hub.proofs.desk.LoneDeskDesk.push.Goals as goal

pub returns-clause-answers : goal.returns-clause-answers
returns-clause-answers c = (
  c.args.self.now.hub.log,
  called_alone c.args.self.now.start c.args.self.now.hub c.settle.new.self (settled c.args.pin c.args.pack c.args.commands c.args.atomic c.settle.result) c.settle.ensures.logs c.settle.ensures.legal,
  c.settle.ensures.answers,
)

pub returns-clause-keeps : goal.returns-clause-keeps
returns-clause-keeps c =
    calls_keep (known_alone c.args.self.now.start c.args.self.now.hub) (known_alone c.args.self.now.start c.settle.new.self) c.args.self.now.hub.log (settled c.args.pin c.args.pack c.args.commands c.args.atomic c.settle.result)
    (called_alone c.args.self.now.start c.args.self.now.hub c.settle.new.self (settled c.args.pin c.args.pack c.args.commands c.args.atomic c.settle.result) c.settle.ensures.logs c.settle.ensures.legal)

pub returns-clause-goes : goal.returns-clause-goes
returns-clause-goes c = (refl, same_admin c.args.self.now.hub c.settle.new.self (settled c.args.pin c.args.pack c.args.commands c.args.atomic c.settle.result) c.settle.ensures.logs)

pub invariant_of-self : goal.invariant_of-self
invariant_of-self c = record {
  within = starts_within c.args.self.now.start c.args.self.now.hub c.settle.new.self (settled c.args.pin c.args.pack c.args.commands c.args.atomic c.settle.result) c.args.self.now.within c.settle.ensures.logs;
}
