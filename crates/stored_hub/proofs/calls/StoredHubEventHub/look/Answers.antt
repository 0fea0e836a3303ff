use Rattle.std.proofs.Common.{◌≡◌, ◌∙◌, ap, length, refl, sym, true, false}
use Rattle.hub.specs.Answer.{AnswersLook, looked}
use Rattle.hub.specs.Hub.{Logs}
use Rattle.stored_hub.proofs.StoredLemmas.{as_answered, composes, first_legal, look_passes, none_lasts}
use Rattle.stored_hub.proofs.calls.StoredHubEventHub.look.Goals as goal

pub returns-then-is_broken-clause-legal : goal.returns-then-is_broken-clause-legal
returns-then-is_broken-clause-legal g c = first_legal c.args.self.now.hub.admin c.args.self.now.hub.log c.args.self.now.stored c.log-log.ensures.legal

pub invariant_of-self : goal.invariant_of-self
invariant_of-self g c =
    let one =
    none_lasts g.Y.Disk.is_modeled c.args.self.now.hub c.look-answer.new.self c.args.self.now.start c.args.self.now.account.written
    (record { stored = c.args.self.now.stored; writer = c.args.self.now.writer; disk = g.Y.Disk.state c.args.self.now.disk })
    (record { stored = c.len.result; writer = c.args.self.now.writer; disk = g.Y.Disk.state c.args.self.now.disk })
    c.args.self.now.account.written c.args.self.now.account.places.items c.args.self.now.account.places.items c.args.self.now.account.queue.items c.args.self.now.account.queue.items c.args.self.now.sound (sym c.is_broken.ensures ∙ c.if-is_broken.false) c.args.self.now.listed c.args.self.now.waiting
    c.args.caller (looked c.args.user.now c.look-answer.result) c.len.result c.look-answer.ensures.logs (look_passes c.args.user.now c.look-answer.result) (c.len.ensures ∙ ap length c.log.ensures.log) refl refl refl refl in
    record { sound = one.has; listed = one.listed; waiting = one.waiting }

pub returns-clause-logs : goal.returns-clause-logs
returns-clause-logs g c =
    let one =
    none_lasts g.Y.Disk.is_modeled c.args.self.now.hub c.look-answer.new.self c.args.self.now.start c.args.self.now.account.written
    (record { stored = c.args.self.now.stored; writer = c.args.self.now.writer; disk = g.Y.Disk.state c.args.self.now.disk })
    (record { stored = c.len.result; writer = c.args.self.now.writer; disk = g.Y.Disk.state c.args.self.now.disk })
    c.args.self.now.account.written c.args.self.now.account.places.items c.args.self.now.account.places.items c.args.self.now.account.queue.items c.args.self.now.account.queue.items c.args.self.now.sound (sym c.is_broken.ensures ∙ c.if-is_broken.false) c.args.self.now.listed c.args.self.now.waiting
    c.args.caller (looked c.args.user.now c.look-answer.result) c.len.result c.look-answer.ensures.logs (look_passes c.args.user.now c.look-answer.result) (c.len.ensures ∙ ap length c.log.ensures.log) refl refl refl refl in
    as_answered (λ old new. Logs old new c.args.caller (looked c.args.user.now c.look-answer.result)) _ _ c.args.self.now.sound (sym c.is_broken.ensures ∙ c.if-is_broken.false) one.has (sym c.is_broken.ensures ∙ c.if-is_broken.false) c.look-answer.ensures.logs

pub returns-clause-answers : goal.returns-clause-answers
returns-clause-answers g c =
    let one =
    none_lasts g.Y.Disk.is_modeled c.args.self.now.hub c.look-answer.new.self c.args.self.now.start c.args.self.now.account.written
    (record { stored = c.args.self.now.stored; writer = c.args.self.now.writer; disk = g.Y.Disk.state c.args.self.now.disk })
    (record { stored = c.len.result; writer = c.args.self.now.writer; disk = g.Y.Disk.state c.args.self.now.disk })
    c.args.self.now.account.written c.args.self.now.account.places.items c.args.self.now.account.places.items c.args.self.now.account.queue.items c.args.self.now.account.queue.items c.args.self.now.sound (sym c.is_broken.ensures ∙ c.if-is_broken.false) c.args.self.now.listed c.args.self.now.waiting
    c.args.caller (looked c.args.user.now c.look-answer.result) c.len.result c.look-answer.ensures.logs (look_passes c.args.user.now c.look-answer.result) (c.len.ensures ∙ ap length c.log.ensures.log) refl refl refl refl in
    as_answered (λ old new. AnswersLook old c.args.user.now c.look-answer.result) _ _ c.args.self.now.sound (sym c.is_broken.ensures ∙ c.if-is_broken.false) one.has (sym c.is_broken.ensures ∙ c.if-is_broken.false) c.look-answer.ensures.answers

pub returns-clause-legal : goal.returns-clause-legal
returns-clause-legal g c = first_legal c.look-answer.new.self.admin c.look-answer.new.self.log c.len.result c.look-answer.ensures.legal

pub returns-clause-goes : goal.returns-clause-goes
returns-clause-goes g c first on =
    let one =
    none_lasts g.Y.Disk.is_modeled c.args.self.now.hub c.look-answer.new.self c.args.self.now.start c.args.self.now.account.written
    (record { stored = c.args.self.now.stored; writer = c.args.self.now.writer; disk = g.Y.Disk.state c.args.self.now.disk })
    (record { stored = c.len.result; writer = c.args.self.now.writer; disk = g.Y.Disk.state c.args.self.now.disk })
    c.args.self.now.account.written c.args.self.now.account.places.items c.args.self.now.account.places.items c.args.self.now.account.queue.items c.args.self.now.account.queue.items c.args.self.now.sound (sym c.is_broken.ensures ∙ c.if-is_broken.false) c.args.self.now.listed c.args.self.now.waiting
    c.args.caller (looked c.args.user.now c.look-answer.result) c.len.result c.look-answer.ensures.logs (look_passes c.args.user.now c.look-answer.result) (c.len.ensures ∙ ap length c.log.ensures.log) refl refl refl refl in
    composes g.Y.Disk.is_modeled first _ _ on one.goes
