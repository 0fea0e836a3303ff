use Rattle.std.proofs.Common.{refl, ◌∙◌, ap, length}
use Rattle.hub_history.specs.Requests.{Permit}
use Rattle.hub_history.specs.Roles.{kept_of}
use Rattle.hub.specs.Answer.{permitted}
use Rattle.hub.specs.Desk.{known_alone}
use Rattle.hub_journal.proofs.DeskLemmas.{called_alone, calls_keep, goes, goes_on, goes_sound, of_change}
use Rattle.hub_journal.proofs.journal.JournalHubDesk.permit.Goals as goal

pub returns-clause-answers : goal.returns-clause-answers
returns-clause-answers g c = (
  c.args.self.now.hub.now.log,
  called_alone c.args.self.now.start c.args.self.now.hub.now c.permit-answer.new.self (permitted c.args.user.now c.args.repo.now c.args.change (kept_of c.permit-answer.result)) c.permit-answer.ensures.logs c.permit-answer.ensures.legal,
  c.permit-answer.ensures.answers,
)

pub returns-clause-keeps : goal.returns-clause-keeps
returns-clause-keeps g c =
    calls_keep (known_alone c.args.self.now.start c.args.self.now.hub.now) (known_alone c.args.self.now.start c.permit-answer.new.self) c.args.self.now.hub.now.log (permitted c.args.user.now c.args.repo.now c.args.change (kept_of c.permit-answer.result))
    (called_alone c.args.self.now.start c.args.self.now.hub.now c.permit-answer.new.self (permitted c.args.user.now c.args.repo.now c.args.change (kept_of c.permit-answer.result)) c.permit-answer.ensures.logs c.permit-answer.ensures.legal)

pub returns-clause-goes : goal.returns-clause-goes
returns-clause-goes g c = (
  refl,
  refl,
  λ first on.
      goes g.Y.Disk.is_modeled c.args.self.now.start c.args.self.now.hub.now c.permit-answer.new.self
      (record { stored = c.args.self.now.stored; writer = c.args.self.now.writer; disk = g.Y.Disk.state c.args.self.now.disk.now })
      (record { stored = c.store.new.stored; writer = c.store.new.writer; disk = g.Y.Disk.state c.store.new.disk })
      (permitted c.args.user.now c.args.repo.now c.args.change (kept_of c.permit-answer.result)) (Permit c.args.user.now c.args.repo.now c.args.change) c.in-Ok.group c.args.self.now.sound c.permit-answer.ensures.logs (of_change c.args.user.now c.args.repo.now c.args.change (kept_of c.permit-answer.result)) first c.len-before.result c.len-count.result on
      (c.len-before.ensures ∙ ap length c.log.ensures.log) (c.len-count.ensures ∙ ap length c.log-2.ensures.log) c.if-before-count.false c.in-Ok.ensures.body c.in-Ok.ensures.storable c.store.ensures,
)

pub invariant_of-self-2 : goal.invariant_of-self-2
invariant_of-self-2 g c = record {
  sound =
      goes_sound g.Y.Disk.is_modeled c.args.self.now.start c.args.self.now.hub.now c.permit-answer.new.self
      (record { stored = c.args.self.now.stored; writer = c.args.self.now.writer; disk = g.Y.Disk.state c.args.self.now.disk.now })
      (record { stored = c.store.new.stored; writer = c.store.new.writer; disk = g.Y.Disk.state c.store.new.disk })
      (permitted c.args.user.now c.args.repo.now c.args.change (kept_of c.permit-answer.result)) (Permit c.args.user.now c.args.repo.now c.args.change) c.in-Ok.group c.args.self.now.sound c.permit-answer.ensures.logs (of_change c.args.user.now c.args.repo.now c.args.change (kept_of c.permit-answer.result)) c.len-before.result c.len-count.result
      (c.len-before.ensures ∙ ap length c.log.ensures.log) (c.len-count.ensures ∙ ap length c.log-2.ensures.log) c.if-before-count.false c.in-Ok.ensures.body c.store.ensures;
}

pub returns-then-before-count-clause-answers : goal.returns-then-before-count-clause-answers
returns-then-before-count-clause-answers g c = (
  c.args.self.now.hub.now.log,
  called_alone c.args.self.now.start c.args.self.now.hub.now c.permit-answer.new.self (permitted c.args.user.now c.args.repo.now c.args.change (kept_of c.permit-answer.result)) c.permit-answer.ensures.logs c.permit-answer.ensures.legal,
  c.permit-answer.ensures.answers,
)

pub returns-then-before-count-clause-keeps : goal.returns-then-before-count-clause-keeps
returns-then-before-count-clause-keeps g c =
    calls_keep (known_alone c.args.self.now.start c.args.self.now.hub.now) (known_alone c.args.self.now.start c.permit-answer.new.self) c.args.self.now.hub.now.log (permitted c.args.user.now c.args.repo.now c.args.change (kept_of c.permit-answer.result))
    (called_alone c.args.self.now.start c.args.self.now.hub.now c.permit-answer.new.self (permitted c.args.user.now c.args.repo.now c.args.change (kept_of c.permit-answer.result)) c.permit-answer.ensures.logs c.permit-answer.ensures.legal)

pub returns-then-before-count-clause-goes : goal.returns-then-before-count-clause-goes
returns-then-before-count-clause-goes g c = (
  refl,
  refl,
  λ first on.
      goes_on g.Y.Disk.is_modeled c.args.self.now.start c.args.self.now.hub.now c.permit-answer.new.self
      (record { stored = c.args.self.now.stored; writer = c.args.self.now.writer; disk = g.Y.Disk.state c.args.self.now.disk.now })
      (record { stored = c.args.self.now.stored; writer = c.args.self.now.writer; disk = g.Y.Disk.state c.args.self.now.disk.now })
      (permitted c.args.user.now c.args.repo.now c.args.change (kept_of c.permit-answer.result)) (Permit c.args.user.now c.args.repo.now c.args.change) c.in-Ok.group c.args.self.now.sound c.permit-answer.ensures.logs (of_change c.args.user.now c.args.repo.now c.args.change (kept_of c.permit-answer.result)) first c.len-before.result c.len-count.result on
      (c.len-before.ensures ∙ ap length c.log.ensures.log) (c.len-count.ensures ∙ ap length c.log-2.ensures.log) c.if-before-count.true,
)
