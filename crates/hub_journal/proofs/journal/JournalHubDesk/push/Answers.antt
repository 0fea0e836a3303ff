use Rattle.std.proofs.Common.{refl, ◌∙◌, ap, subst, length, ℕ, ◌∷◌, []}
use Rattle.event_record.specs.Bodies.{body_of, IsStorable}
use Rattle.hub_history.specs.Requests.{Push}
use Rattle.hub.specs.Answer.{settled}
use Rattle.hub.specs.Desk.{known_alone}
use Rattle.hub_journal.proofs.DeskLemmas.{called_alone, calls_keep, goes, goes_on, goes_sound, of_push}
use Rattle.hub_journal.proofs.journal.JournalHubDesk.push.Goals as goal

pub returns-clause-answers : goal.returns-clause-answers
returns-clause-answers g c = (
  c.args.self.now.hub.now.log,
  called_alone c.args.self.now.start c.args.self.now.hub.now c.settle-answer.new.self (settled c.args.pin c.args.pack c.args.commands c.args.atomic c.settle-answer.result) c.settle-answer.ensures.logs c.settle-answer.ensures.legal,
  c.settle-answer.ensures.answers,
)

pub returns-clause-keeps : goal.returns-clause-keeps
returns-clause-keeps g c =
    calls_keep (known_alone c.args.self.now.start c.args.self.now.hub.now) (known_alone c.args.self.now.start c.settle-answer.new.self) c.args.self.now.hub.now.log (settled c.args.pin c.args.pack c.args.commands c.args.atomic c.settle-answer.result)
    (called_alone c.args.self.now.start c.args.self.now.hub.now c.settle-answer.new.self (settled c.args.pin c.args.pack c.args.commands c.args.atomic c.settle-answer.result) c.settle-answer.ensures.logs c.settle-answer.ensures.legal)

pub returns-clause-goes : goal.returns-clause-goes
returns-clause-goes g c = (
  refl,
  refl,
  λ first on.
      goes g.Y.Disk.is_modeled c.args.self.now.start c.args.self.now.hub.now c.settle-answer.new.self
      (record { stored = c.args.self.now.stored; writer = c.args.self.now.writer; disk = g.Y.Disk.state c.args.self.now.disk.now })
      (record { stored = c.store.new.stored; writer = c.store.new.writer; disk = g.Y.Disk.state c.store.new.disk })
      (settled c.args.pin c.args.pack c.args.commands c.args.atomic c.settle-answer.result) (Push c.args.pin.place c.args.pack c.args.commands c.args.atomic) c.in-Ok.group c.args.self.now.sound c.settle-answer.ensures.logs (of_push c.args.pin c.args.pack c.args.commands c.args.atomic c.settle-answer.result) first c.len-before.result c.len-count.result on
      (c.len-before.ensures ∙ ap length c.log.ensures.log) (c.len-count.ensures ∙ ap length c.log-2.ensures.log) c.if-before-count.false (c.in-Ok.ensures.body ∙ ap (λ (n : ℕ). body_of 0 (Push n c.args.pack c.args.commands c.args.atomic) ∷ []) c.place.ensures) (subst (λ (n : ℕ). IsStorable 0 (Push n c.args.pack c.args.commands c.args.atomic)) c.place.ensures c.in-Ok.ensures.storable) c.store.ensures,
)

pub invariant_of-self-2 : goal.invariant_of-self-2
invariant_of-self-2 g c = record {
  sound =
      goes_sound g.Y.Disk.is_modeled c.args.self.now.start c.args.self.now.hub.now c.settle-answer.new.self
      (record { stored = c.args.self.now.stored; writer = c.args.self.now.writer; disk = g.Y.Disk.state c.args.self.now.disk.now })
      (record { stored = c.store.new.stored; writer = c.store.new.writer; disk = g.Y.Disk.state c.store.new.disk })
      (settled c.args.pin c.args.pack c.args.commands c.args.atomic c.settle-answer.result) (Push c.args.pin.place c.args.pack c.args.commands c.args.atomic) c.in-Ok.group c.args.self.now.sound c.settle-answer.ensures.logs (of_push c.args.pin c.args.pack c.args.commands c.args.atomic c.settle-answer.result) c.len-before.result c.len-count.result
      (c.len-before.ensures ∙ ap length c.log.ensures.log) (c.len-count.ensures ∙ ap length c.log-2.ensures.log) c.if-before-count.false (c.in-Ok.ensures.body ∙ ap (λ (n : ℕ). body_of 0 (Push n c.args.pack c.args.commands c.args.atomic) ∷ []) c.place.ensures) c.store.ensures;
}

pub returns-then-before-count-clause-answers : goal.returns-then-before-count-clause-answers
returns-then-before-count-clause-answers g c = (
  c.args.self.now.hub.now.log,
  called_alone c.args.self.now.start c.args.self.now.hub.now c.settle-answer.new.self (settled c.args.pin c.args.pack c.args.commands c.args.atomic c.settle-answer.result) c.settle-answer.ensures.logs c.settle-answer.ensures.legal,
  c.settle-answer.ensures.answers,
)

pub returns-then-before-count-clause-keeps : goal.returns-then-before-count-clause-keeps
returns-then-before-count-clause-keeps g c =
    calls_keep (known_alone c.args.self.now.start c.args.self.now.hub.now) (known_alone c.args.self.now.start c.settle-answer.new.self) c.args.self.now.hub.now.log (settled c.args.pin c.args.pack c.args.commands c.args.atomic c.settle-answer.result)
    (called_alone c.args.self.now.start c.args.self.now.hub.now c.settle-answer.new.self (settled c.args.pin c.args.pack c.args.commands c.args.atomic c.settle-answer.result) c.settle-answer.ensures.logs c.settle-answer.ensures.legal)

pub returns-then-before-count-clause-goes : goal.returns-then-before-count-clause-goes
returns-then-before-count-clause-goes g c = (
  refl,
  refl,
  λ first on.
      goes_on g.Y.Disk.is_modeled c.args.self.now.start c.args.self.now.hub.now c.settle-answer.new.self
      (record { stored = c.args.self.now.stored; writer = c.args.self.now.writer; disk = g.Y.Disk.state c.args.self.now.disk.now })
      (record { stored = c.args.self.now.stored; writer = c.args.self.now.writer; disk = g.Y.Disk.state c.args.self.now.disk.now })
      (settled c.args.pin c.args.pack c.args.commands c.args.atomic c.settle-answer.result) (Push c.args.pin.place c.args.pack c.args.commands c.args.atomic) c.in-Ok.group c.args.self.now.sound c.settle-answer.ensures.logs (of_push c.args.pin c.args.pack c.args.commands c.args.atomic c.settle-answer.result) first c.len-before.result c.len-count.result on
      (c.len-before.ensures ∙ ap length c.log.ensures.log) (c.len-count.ensures ∙ ap length c.log-2.ensures.log) c.if-before-count.true,
)
