use Rattle.std.proofs.Common.{refl, ◌∙◌, ap, length}
use Rattle.hub_history.specs.Requests.{Enter}
use Rattle.hub.specs.Answer.{kept, opened}
use Rattle.hub.specs.Desk.{known_alone}
use Rattle.hub_journal.proofs.DeskLemmas.{called_alone, calls_keep, goes, goes_on, goes_sound, of_opening}
use Rattle.hub_journal.proofs.journal.JournalHubDesk.enter.Goals as goal

pub returns-clause-answers : goal.returns-clause-answers
returns-clause-answers g c = (
  c.args.self.now.hub.now.log,
  called_alone c.args.self.now.start c.args.self.now.hub.now c.enter-answer.new.self (opened c.args.user.now c.args.repo.now c.args.want (kept c.enter-answer.result)) c.enter-answer.ensures.logs c.enter-answer.ensures.legal,
  c.enter-answer.ensures.answers,
)

pub returns-clause-keeps : goal.returns-clause-keeps
returns-clause-keeps g c =
    calls_keep (known_alone c.args.self.now.start c.args.self.now.hub.now) (known_alone c.args.self.now.start c.enter-answer.new.self) c.args.self.now.hub.now.log (opened c.args.user.now c.args.repo.now c.args.want (kept c.enter-answer.result))
    (called_alone c.args.self.now.start c.args.self.now.hub.now c.enter-answer.new.self (opened c.args.user.now c.args.repo.now c.args.want (kept c.enter-answer.result)) c.enter-answer.ensures.logs c.enter-answer.ensures.legal)

pub returns-clause-goes : goal.returns-clause-goes
returns-clause-goes g c = (
  refl,
  refl,
  λ first on.
      goes g.Y.Disk.is_modeled c.args.self.now.start c.args.self.now.hub.now c.enter-answer.new.self
      (record { stored = c.args.self.now.stored; writer = c.args.self.now.writer; disk = g.Y.Disk.state c.args.self.now.disk.now })
      (record { stored = c.store.new.stored; writer = c.store.new.writer; disk = g.Y.Disk.state c.store.new.disk })
      (opened c.args.user.now c.args.repo.now c.args.want (kept c.enter-answer.result)) (Enter c.args.user.now c.args.repo.now c.args.want) c.in-Ok.group c.args.self.now.sound c.enter-answer.ensures.logs (of_opening c.args.user.now c.args.repo.now c.args.want (kept c.enter-answer.result)) first c.len-before.result c.len-count.result on
      (c.len-before.ensures ∙ ap length c.log.ensures.log) (c.len-count.ensures ∙ ap length c.log-2.ensures.log) c.if-before-count.false c.in-Ok.ensures.body c.in-Ok.ensures.storable c.store.ensures,
)

pub invariant_of-self-2 : goal.invariant_of-self-2
invariant_of-self-2 g c = record {
  sound =
      goes_sound g.Y.Disk.is_modeled c.args.self.now.start c.args.self.now.hub.now c.enter-answer.new.self
      (record { stored = c.args.self.now.stored; writer = c.args.self.now.writer; disk = g.Y.Disk.state c.args.self.now.disk.now })
      (record { stored = c.store.new.stored; writer = c.store.new.writer; disk = g.Y.Disk.state c.store.new.disk })
      (opened c.args.user.now c.args.repo.now c.args.want (kept c.enter-answer.result)) (Enter c.args.user.now c.args.repo.now c.args.want) c.in-Ok.group c.args.self.now.sound c.enter-answer.ensures.logs (of_opening c.args.user.now c.args.repo.now c.args.want (kept c.enter-answer.result)) c.len-before.result c.len-count.result
      (c.len-before.ensures ∙ ap length c.log.ensures.log) (c.len-count.ensures ∙ ap length c.log-2.ensures.log) c.if-before-count.false c.in-Ok.ensures.body c.store.ensures;
}

pub returns-then-before-count-clause-answers : goal.returns-then-before-count-clause-answers
returns-then-before-count-clause-answers g c = (
  c.args.self.now.hub.now.log,
  called_alone c.args.self.now.start c.args.self.now.hub.now c.enter-answer.new.self (opened c.args.user.now c.args.repo.now c.args.want (kept c.enter-answer.result)) c.enter-answer.ensures.logs c.enter-answer.ensures.legal,
  c.enter-answer.ensures.answers,
)

pub returns-then-before-count-clause-keeps : goal.returns-then-before-count-clause-keeps
returns-then-before-count-clause-keeps g c =
    calls_keep (known_alone c.args.self.now.start c.args.self.now.hub.now) (known_alone c.args.self.now.start c.enter-answer.new.self) c.args.self.now.hub.now.log (opened c.args.user.now c.args.repo.now c.args.want (kept c.enter-answer.result))
    (called_alone c.args.self.now.start c.args.self.now.hub.now c.enter-answer.new.self (opened c.args.user.now c.args.repo.now c.args.want (kept c.enter-answer.result)) c.enter-answer.ensures.logs c.enter-answer.ensures.legal)

pub returns-then-before-count-clause-goes : goal.returns-then-before-count-clause-goes
returns-then-before-count-clause-goes g c = (
  refl,
  refl,
  λ first on.
      goes_on g.Y.Disk.is_modeled c.args.self.now.start c.args.self.now.hub.now c.enter-answer.new.self
      (record { stored = c.args.self.now.stored; writer = c.args.self.now.writer; disk = g.Y.Disk.state c.args.self.now.disk.now })
      (record { stored = c.args.self.now.stored; writer = c.args.self.now.writer; disk = g.Y.Disk.state c.args.self.now.disk.now })
      (opened c.args.user.now c.args.repo.now c.args.want (kept c.enter-answer.result)) (Enter c.args.user.now c.args.repo.now c.args.want) c.in-Ok.group c.args.self.now.sound c.enter-answer.ensures.logs (of_opening c.args.user.now c.args.repo.now c.args.want (kept c.enter-answer.result)) first c.len-before.result c.len-count.result on
      (c.len-before.ensures ∙ ap length c.log.ensures.log) (c.len-count.ensures ∙ ap length c.log-2.ensures.log) c.if-before-count.true,
)
