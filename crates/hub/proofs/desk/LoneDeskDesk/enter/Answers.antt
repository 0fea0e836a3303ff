use Rattle.std.proofs.Common.{refl}
use Rattle.hub.specs.Answer.{kept, opened}
use Rattle.hub.specs.Desk.{known_alone}
use Rattle.hub.proofs.DeskLemmas.{called_alone, calls_keep, same_admin}
use Rattle.hub.proofs.desk.LoneDeskDesk.enter.Goals as goal

pub returns-clause-answers : goal.returns-clause-answers
returns-clause-answers c = (
  c.args.self.now.hub.log,
  called_alone c.args.self.now.start c.args.self.now.hub c.enter.new.self (opened c.args.user.now c.args.repo.now c.args.want (kept c.enter.result)) c.enter.ensures.logs c.enter.ensures.legal,
  c.enter.ensures.answers,
)

pub returns-clause-keeps : goal.returns-clause-keeps
returns-clause-keeps c =
    calls_keep (known_alone c.args.self.now.start c.args.self.now.hub) (known_alone c.args.self.now.start c.enter.new.self) c.args.self.now.hub.log (opened c.args.user.now c.args.repo.now c.args.want (kept c.enter.result))
    (called_alone c.args.self.now.start c.args.self.now.hub c.enter.new.self (opened c.args.user.now c.args.repo.now c.args.want (kept c.enter.result)) c.enter.ensures.logs c.enter.ensures.legal)

pub returns-clause-goes : goal.returns-clause-goes
returns-clause-goes c = (refl, same_admin c.args.self.now.hub c.enter.new.self (opened c.args.user.now c.args.repo.now c.args.want (kept c.enter.result)) c.enter.ensures.logs)
