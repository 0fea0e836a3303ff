use Rattle.std.proofs.Common.{refl}
use Rattle.hub_history.specs.Roles.{kept_of}
use Rattle.hub.specs.Answer.{permitted}
use Rattle.hub.specs.Desk.{known_alone}
use Rattle.hub.proofs.DeskLemmas.{called_alone, calls_keep, same_admin}
use Rattle.hub.proofs.desk.LoneDeskDesk.permit.Goals as goal

pub returns-clause-answers : goal.returns-clause-answers
returns-clause-answers c = (
  c.args.self.now.hub.log,
  called_alone c.args.self.now.start c.args.self.now.hub c.permit.new.self (permitted c.args.user.now c.args.repo.now c.args.change (kept_of c.permit.result)) c.permit.ensures.logs c.permit.ensures.legal,
  c.permit.ensures.answers,
)

pub returns-clause-keeps : goal.returns-clause-keeps
returns-clause-keeps c =
    calls_keep (known_alone c.args.self.now.start c.args.self.now.hub) (known_alone c.args.self.now.start c.permit.new.self) c.args.self.now.hub.log (permitted c.args.user.now c.args.repo.now c.args.change (kept_of c.permit.result))
    (called_alone c.args.self.now.start c.args.self.now.hub c.permit.new.self (permitted c.args.user.now c.args.repo.now c.args.change (kept_of c.permit.result)) c.permit.ensures.logs c.permit.ensures.legal)

pub returns-clause-goes : goal.returns-clause-goes
returns-clause-goes c = (refl, same_admin c.args.self.now.hub c.permit.new.self (permitted c.args.user.now c.args.repo.now c.args.change (kept_of c.permit.result)) c.permit.ensures.logs)
