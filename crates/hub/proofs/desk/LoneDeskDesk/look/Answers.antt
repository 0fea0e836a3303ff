use Rattle.std.proofs.Common.{refl}
use Rattle.hub.specs.Answer.{looked}
use Rattle.hub.specs.Desk.{known_alone}
use Rattle.hub.proofs.DeskLemmas.{called_alone, calls_keep, same_admin}
use Rattle.hub.proofs.desk.LoneDeskDesk.look.Goals as goal

pub returns-clause-answers : goal.returns-clause-answers
returns-clause-answers c = (
  c.args.self.now.hub.log,
  called_alone c.args.self.now.start c.args.self.now.hub c.look.new.self (looked c.args.user.now c.look.result) c.look.ensures.logs c.look.ensures.legal,
  c.look.ensures.answers,
)

pub returns-clause-keeps : goal.returns-clause-keeps
returns-clause-keeps c =
    calls_keep (known_alone c.args.self.now.start c.args.self.now.hub) (known_alone c.args.self.now.start c.look.new.self) c.args.self.now.hub.log (looked c.args.user.now c.look.result)
    (called_alone c.args.self.now.start c.args.self.now.hub c.look.new.self (looked c.args.user.now c.look.result) c.look.ensures.logs c.look.ensures.legal)

pub returns-clause-goes : goal.returns-clause-goes
returns-clause-goes c = (refl, same_admin c.args.self.now.hub c.look.new.self (looked c.args.user.now c.look.result) c.look.ensures.logs)
