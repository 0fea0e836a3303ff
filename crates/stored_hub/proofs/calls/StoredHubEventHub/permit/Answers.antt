use Rattle.std.proofs.Common.{◌≡◌, ◌∙◌, ap, ap₂, length, refl, sym, true, false, rules, subst, ℕ, List, ◌∷◌, ◌++◌, []}
use Rattle.std.specs.List.{slice_get}
use Rattle.hub_history.specs.declared.entry.Entry.{Entry}
use Rattle.hub_history.specs.declared.entry.PermChange.TheVariants as change
use Rattle.hub_history.specs.Requests.{Permit}
use Rattle.hub_history.specs.Roles.{kept_of}
use Rattle.hub.specs.Answer.{AnswersChange, permitted}
use Rattle.hub.specs.Hub.{Logs}
use Rattle.stored_hub.specs.Stored.{lasts_in}
use Rattle.stored_hub.proofs.StoredLemmas.{as_answered, composes, did_from, first_legal, list_passes, none_lasts, of_change, one_stored}
use Rattle.stored_hub.proofs.calls.StoredHubEventHub.permit.Goals as goal

pub returns-then-is_broken-clause-legal : goal.returns-then-is_broken-clause-legal
returns-then-is_broken-clause-legal g c = first_legal c.args.self.now.hub.admin c.args.self.now.hub.log c.args.self.now.stored c.log-log.ensures.legal

pub invariant_of-self-2 : goal.invariant_of-self-2
invariant_of-self-2 g c =
    let did =
    did_from g.Y.Disk.is_modeled c.args.self.now.hub c.permit-answer-2.new.self c.args.self.now.start c.args.self.now.account.written
    (record { stored = c.args.self.now.stored; writer = c.args.self.now.writer; disk = g.Y.Disk.state c.args.self.now.disk })
    (record { stored = c.store_event-is_stored.new.stored; writer = c.store_event-is_stored.new.writer; disk = g.Y.Disk.state c.store_event-is_stored.new.disk })
    c.store_event-is_stored.new.account.written c.args.self.now.account.places.items c.store_event-is_stored.new.account.places.items c.args.self.now.account.queue.items c.store_event-is_stored.new.account.queue.items c.args.self.now.sound (sym c.is_broken.ensures ∙ c.if-is_broken.false) c.args.self.now.listed c.args.self.now.waiting
    c.in-Ok.group c.len-count.result c.lasts_at-is_lasting.result
    (record { stored = c.args.self.now.stored; writer = c.args.self.now.writer; disk = g.Y.Disk.state c.args.self.now.disk }) c.ready_permit.new.account.written c.ready_permit.new.account.places.items c.ready_permit.new.account.queue.items refl c.ready_permit.ensures.same.0 c.ready_permit.ensures.same.1 c.ready_permit.ensures.same.2
    c.store_event-is_stored.ensures.accounts in
    let one =
    one_stored g.Y.Disk.is_modeled c.args.self.now.hub c.permit-answer-2.new.self c.args.self.now.start c.args.self.now.account.written
    (record { stored = c.args.self.now.stored; writer = c.args.self.now.writer; disk = g.Y.Disk.state c.args.self.now.disk })
    (record { stored = c.store_event-is_stored.new.stored; writer = c.store_event-is_stored.new.writer; disk = g.Y.Disk.state c.store_event-is_stored.new.disk })
    c.store_event-is_stored.new.account.written c.args.self.now.account.places.items c.store_event-is_stored.new.account.places.items c.args.self.now.account.queue.items c.store_event-is_stored.new.account.queue.items c.args.self.now.sound (sym c.is_broken.ensures ∙ c.if-is_broken.false) c.args.self.now.listed c.args.self.now.waiting
    c.args.caller (permitted c.args.user.now c.args.repo.now c.args.change (kept_of c.permit-answer-2.result)) (Permit c.args.user.now c.args.repo.now c.args.change) c.in-Ok.group c.len-count.result c.lasts_at-is_lasting.result c.permit-answer-2.ensures.logs (of_change c.args.self.now.start c.args.self.now.hub.log c.args.user.now c.args.repo.now c.args.change (kept_of c.permit-answer-2.result))
    c.in-Ok.ensures.body c.in-Ok.ensures.storable (c.len-count.ensures ∙ ap length c.log-after.ensures.log)
    (c.lasts_at-is_lasting.ensures ∙ ap (λ (l : List Entry). lasts_in (slice_get l c.args.self.now.stored)) c.log-after.ensures.log) did in
    record { sound = one.has; listed = one.listed; waiting = one.waiting }

pub returns-then-not-is_stored-clause-logs : goal.returns-then-not-is_stored-clause-logs
returns-then-not-is_stored-clause-logs g c =
    let no : c.store_event-is_stored.result ≡ false = search rules in
    let did =
    did_from g.Y.Disk.is_modeled c.args.self.now.hub c.permit-answer-2.new.self c.args.self.now.start c.args.self.now.account.written
    (record { stored = c.args.self.now.stored; writer = c.args.self.now.writer; disk = g.Y.Disk.state c.args.self.now.disk })
    (record { stored = c.store_event-is_stored.new.stored; writer = c.store_event-is_stored.new.writer; disk = g.Y.Disk.state c.store_event-is_stored.new.disk })
    c.store_event-is_stored.new.account.written c.args.self.now.account.places.items c.store_event-is_stored.new.account.places.items c.args.self.now.account.queue.items c.store_event-is_stored.new.account.queue.items c.args.self.now.sound (sym c.is_broken.ensures ∙ c.if-is_broken.false) c.args.self.now.listed c.args.self.now.waiting
    c.in-Ok.group c.len-count.result c.lasts_at-is_lasting.result
    (record { stored = c.args.self.now.stored; writer = c.args.self.now.writer; disk = g.Y.Disk.state c.args.self.now.disk }) c.ready_permit.new.account.written c.ready_permit.new.account.places.items c.ready_permit.new.account.queue.items refl c.ready_permit.ensures.same.0 c.ready_permit.ensures.same.1 c.ready_permit.ensures.same.2
    c.store_event-is_stored.ensures.accounts in
    let one =
    one_stored g.Y.Disk.is_modeled c.args.self.now.hub c.permit-answer-2.new.self c.args.self.now.start c.args.self.now.account.written
    (record { stored = c.args.self.now.stored; writer = c.args.self.now.writer; disk = g.Y.Disk.state c.args.self.now.disk })
    (record { stored = c.store_event-is_stored.new.stored; writer = c.store_event-is_stored.new.writer; disk = g.Y.Disk.state c.store_event-is_stored.new.disk })
    c.store_event-is_stored.new.account.written c.args.self.now.account.places.items c.store_event-is_stored.new.account.places.items c.args.self.now.account.queue.items c.store_event-is_stored.new.account.queue.items c.args.self.now.sound (sym c.is_broken.ensures ∙ c.if-is_broken.false) c.args.self.now.listed c.args.self.now.waiting
    c.args.caller (permitted c.args.user.now c.args.repo.now c.args.change (kept_of c.permit-answer-2.result)) (Permit c.args.user.now c.args.repo.now c.args.change) c.in-Ok.group c.len-count.result c.lasts_at-is_lasting.result c.permit-answer-2.ensures.logs (of_change c.args.self.now.start c.args.self.now.hub.log c.args.user.now c.args.repo.now c.args.change (kept_of c.permit-answer-2.result))
    c.in-Ok.ensures.body c.in-Ok.ensures.storable (c.len-count.ensures ∙ ap length c.log-after.ensures.log)
    (c.lasts_at-is_lasting.ensures ∙ ap (λ (l : List Entry). lasts_in (slice_get l c.args.self.now.stored)) c.log-after.ensures.log) did in
    one.kept (c.store_event-is_stored.ensures.stops no)

pub returns-then-not-is_stored-clause-legal : goal.returns-then-not-is_stored-clause-legal
returns-then-not-is_stored-clause-legal g c = first_legal c.permit-answer-2.new.self.admin c.permit-answer-2.new.self.log c.store_event-is_stored.new.stored c.permit-answer-2.ensures.legal

pub returns-then-not-is_stored-clause-goes : goal.returns-then-not-is_stored-clause-goes
returns-then-not-is_stored-clause-goes g c first on =
    let did =
    did_from g.Y.Disk.is_modeled c.args.self.now.hub c.permit-answer-2.new.self c.args.self.now.start c.args.self.now.account.written
    (record { stored = c.args.self.now.stored; writer = c.args.self.now.writer; disk = g.Y.Disk.state c.args.self.now.disk })
    (record { stored = c.store_event-is_stored.new.stored; writer = c.store_event-is_stored.new.writer; disk = g.Y.Disk.state c.store_event-is_stored.new.disk })
    c.store_event-is_stored.new.account.written c.args.self.now.account.places.items c.store_event-is_stored.new.account.places.items c.args.self.now.account.queue.items c.store_event-is_stored.new.account.queue.items c.args.self.now.sound (sym c.is_broken.ensures ∙ c.if-is_broken.false) c.args.self.now.listed c.args.self.now.waiting
    c.in-Ok.group c.len-count.result c.lasts_at-is_lasting.result
    (record { stored = c.args.self.now.stored; writer = c.args.self.now.writer; disk = g.Y.Disk.state c.args.self.now.disk }) c.ready_permit.new.account.written c.ready_permit.new.account.places.items c.ready_permit.new.account.queue.items refl c.ready_permit.ensures.same.0 c.ready_permit.ensures.same.1 c.ready_permit.ensures.same.2
    c.store_event-is_stored.ensures.accounts in
    let one =
    one_stored g.Y.Disk.is_modeled c.args.self.now.hub c.permit-answer-2.new.self c.args.self.now.start c.args.self.now.account.written
    (record { stored = c.args.self.now.stored; writer = c.args.self.now.writer; disk = g.Y.Disk.state c.args.self.now.disk })
    (record { stored = c.store_event-is_stored.new.stored; writer = c.store_event-is_stored.new.writer; disk = g.Y.Disk.state c.store_event-is_stored.new.disk })
    c.store_event-is_stored.new.account.written c.args.self.now.account.places.items c.store_event-is_stored.new.account.places.items c.args.self.now.account.queue.items c.store_event-is_stored.new.account.queue.items c.args.self.now.sound (sym c.is_broken.ensures ∙ c.if-is_broken.false) c.args.self.now.listed c.args.self.now.waiting
    c.args.caller (permitted c.args.user.now c.args.repo.now c.args.change (kept_of c.permit-answer-2.result)) (Permit c.args.user.now c.args.repo.now c.args.change) c.in-Ok.group c.len-count.result c.lasts_at-is_lasting.result c.permit-answer-2.ensures.logs (of_change c.args.self.now.start c.args.self.now.hub.log c.args.user.now c.args.repo.now c.args.change (kept_of c.permit-answer-2.result))
    c.in-Ok.ensures.body c.in-Ok.ensures.storable (c.len-count.ensures ∙ ap length c.log-after.ensures.log)
    (c.lasts_at-is_lasting.ensures ∙ ap (λ (l : List Entry). lasts_in (slice_get l c.args.self.now.stored)) c.log-after.ensures.log) did in
    composes g.Y.Disk.is_modeled first _ _ on one.goes

pub returns-clause-logs : goal.returns-clause-logs
returns-clause-logs g c =
    let yes : c.store_event-is_stored.result ≡ true = search rules in
    let did =
    did_from g.Y.Disk.is_modeled c.args.self.now.hub c.permit-answer-2.new.self c.args.self.now.start c.args.self.now.account.written
    (record { stored = c.args.self.now.stored; writer = c.args.self.now.writer; disk = g.Y.Disk.state c.args.self.now.disk })
    (record { stored = c.store_event-is_stored.new.stored; writer = c.store_event-is_stored.new.writer; disk = g.Y.Disk.state c.store_event-is_stored.new.disk })
    c.store_event-is_stored.new.account.written c.args.self.now.account.places.items c.store_event-is_stored.new.account.places.items c.args.self.now.account.queue.items c.store_event-is_stored.new.account.queue.items c.args.self.now.sound (sym c.is_broken.ensures ∙ c.if-is_broken.false) c.args.self.now.listed c.args.self.now.waiting
    c.in-Ok.group c.len-count.result c.lasts_at-is_lasting.result
    (record { stored = c.args.self.now.stored; writer = c.args.self.now.writer; disk = g.Y.Disk.state c.args.self.now.disk }) c.ready_permit.new.account.written c.ready_permit.new.account.places.items c.ready_permit.new.account.queue.items refl c.ready_permit.ensures.same.0 c.ready_permit.ensures.same.1 c.ready_permit.ensures.same.2
    c.store_event-is_stored.ensures.accounts in
    let one =
    one_stored g.Y.Disk.is_modeled c.args.self.now.hub c.permit-answer-2.new.self c.args.self.now.start c.args.self.now.account.written
    (record { stored = c.args.self.now.stored; writer = c.args.self.now.writer; disk = g.Y.Disk.state c.args.self.now.disk })
    (record { stored = c.store_event-is_stored.new.stored; writer = c.store_event-is_stored.new.writer; disk = g.Y.Disk.state c.store_event-is_stored.new.disk })
    c.store_event-is_stored.new.account.written c.args.self.now.account.places.items c.store_event-is_stored.new.account.places.items c.args.self.now.account.queue.items c.store_event-is_stored.new.account.queue.items c.args.self.now.sound (sym c.is_broken.ensures ∙ c.if-is_broken.false) c.args.self.now.listed c.args.self.now.waiting
    c.args.caller (permitted c.args.user.now c.args.repo.now c.args.change (kept_of c.permit-answer-2.result)) (Permit c.args.user.now c.args.repo.now c.args.change) c.in-Ok.group c.len-count.result c.lasts_at-is_lasting.result c.permit-answer-2.ensures.logs (of_change c.args.self.now.start c.args.self.now.hub.log c.args.user.now c.args.repo.now c.args.change (kept_of c.permit-answer-2.result))
    c.in-Ok.ensures.body c.in-Ok.ensures.storable (c.len-count.ensures ∙ ap length c.log-after.ensures.log)
    (c.lasts_at-is_lasting.ensures ∙ ap (λ (l : List Entry). lasts_in (slice_get l c.args.self.now.stored)) c.log-after.ensures.log) did in
    as_answered (λ old new. Logs old new c.args.caller (permitted c.args.user.now c.args.repo.now c.args.change (kept_of c.permit-answer-2.result))) _ _ c.args.self.now.sound (sym c.is_broken.ensures ∙ c.if-is_broken.false) one.has (c.store_event-is_stored.ensures.answers yes) c.permit-answer-2.ensures.logs

pub returns-clause-answers : goal.returns-clause-answers
returns-clause-answers g c =
    let yes : c.store_event-is_stored.result ≡ true = search rules in
    let did =
    did_from g.Y.Disk.is_modeled c.args.self.now.hub c.permit-answer-2.new.self c.args.self.now.start c.args.self.now.account.written
    (record { stored = c.args.self.now.stored; writer = c.args.self.now.writer; disk = g.Y.Disk.state c.args.self.now.disk })
    (record { stored = c.store_event-is_stored.new.stored; writer = c.store_event-is_stored.new.writer; disk = g.Y.Disk.state c.store_event-is_stored.new.disk })
    c.store_event-is_stored.new.account.written c.args.self.now.account.places.items c.store_event-is_stored.new.account.places.items c.args.self.now.account.queue.items c.store_event-is_stored.new.account.queue.items c.args.self.now.sound (sym c.is_broken.ensures ∙ c.if-is_broken.false) c.args.self.now.listed c.args.self.now.waiting
    c.in-Ok.group c.len-count.result c.lasts_at-is_lasting.result
    (record { stored = c.args.self.now.stored; writer = c.args.self.now.writer; disk = g.Y.Disk.state c.args.self.now.disk }) c.ready_permit.new.account.written c.ready_permit.new.account.places.items c.ready_permit.new.account.queue.items refl c.ready_permit.ensures.same.0 c.ready_permit.ensures.same.1 c.ready_permit.ensures.same.2
    c.store_event-is_stored.ensures.accounts in
    let one =
    one_stored g.Y.Disk.is_modeled c.args.self.now.hub c.permit-answer-2.new.self c.args.self.now.start c.args.self.now.account.written
    (record { stored = c.args.self.now.stored; writer = c.args.self.now.writer; disk = g.Y.Disk.state c.args.self.now.disk })
    (record { stored = c.store_event-is_stored.new.stored; writer = c.store_event-is_stored.new.writer; disk = g.Y.Disk.state c.store_event-is_stored.new.disk })
    c.store_event-is_stored.new.account.written c.args.self.now.account.places.items c.store_event-is_stored.new.account.places.items c.args.self.now.account.queue.items c.store_event-is_stored.new.account.queue.items c.args.self.now.sound (sym c.is_broken.ensures ∙ c.if-is_broken.false) c.args.self.now.listed c.args.self.now.waiting
    c.args.caller (permitted c.args.user.now c.args.repo.now c.args.change (kept_of c.permit-answer-2.result)) (Permit c.args.user.now c.args.repo.now c.args.change) c.in-Ok.group c.len-count.result c.lasts_at-is_lasting.result c.permit-answer-2.ensures.logs (of_change c.args.self.now.start c.args.self.now.hub.log c.args.user.now c.args.repo.now c.args.change (kept_of c.permit-answer-2.result))
    c.in-Ok.ensures.body c.in-Ok.ensures.storable (c.len-count.ensures ∙ ap length c.log-after.ensures.log)
    (c.lasts_at-is_lasting.ensures ∙ ap (λ (l : List Entry). lasts_in (slice_get l c.args.self.now.stored)) c.log-after.ensures.log) did in
    as_answered (λ old new. AnswersChange old c.args.repo.now c.permit-answer-2.result) _ _ c.args.self.now.sound (sym c.is_broken.ensures ∙ c.if-is_broken.false) one.has (c.store_event-is_stored.ensures.answers yes) c.permit-answer-2.ensures.answers

pub returns-clause-legal : goal.returns-clause-legal
returns-clause-legal g c = first_legal c.permit-answer-2.new.self.admin c.permit-answer-2.new.self.log c.store_event-is_stored.new.stored c.permit-answer-2.ensures.legal

pub returns-clause-goes : goal.returns-clause-goes
returns-clause-goes g c first on =
    let did =
    did_from g.Y.Disk.is_modeled c.args.self.now.hub c.permit-answer-2.new.self c.args.self.now.start c.args.self.now.account.written
    (record { stored = c.args.self.now.stored; writer = c.args.self.now.writer; disk = g.Y.Disk.state c.args.self.now.disk })
    (record { stored = c.store_event-is_stored.new.stored; writer = c.store_event-is_stored.new.writer; disk = g.Y.Disk.state c.store_event-is_stored.new.disk })
    c.store_event-is_stored.new.account.written c.args.self.now.account.places.items c.store_event-is_stored.new.account.places.items c.args.self.now.account.queue.items c.store_event-is_stored.new.account.queue.items c.args.self.now.sound (sym c.is_broken.ensures ∙ c.if-is_broken.false) c.args.self.now.listed c.args.self.now.waiting
    c.in-Ok.group c.len-count.result c.lasts_at-is_lasting.result
    (record { stored = c.args.self.now.stored; writer = c.args.self.now.writer; disk = g.Y.Disk.state c.args.self.now.disk }) c.ready_permit.new.account.written c.ready_permit.new.account.places.items c.ready_permit.new.account.queue.items refl c.ready_permit.ensures.same.0 c.ready_permit.ensures.same.1 c.ready_permit.ensures.same.2
    c.store_event-is_stored.ensures.accounts in
    let one =
    one_stored g.Y.Disk.is_modeled c.args.self.now.hub c.permit-answer-2.new.self c.args.self.now.start c.args.self.now.account.written
    (record { stored = c.args.self.now.stored; writer = c.args.self.now.writer; disk = g.Y.Disk.state c.args.self.now.disk })
    (record { stored = c.store_event-is_stored.new.stored; writer = c.store_event-is_stored.new.writer; disk = g.Y.Disk.state c.store_event-is_stored.new.disk })
    c.store_event-is_stored.new.account.written c.args.self.now.account.places.items c.store_event-is_stored.new.account.places.items c.args.self.now.account.queue.items c.store_event-is_stored.new.account.queue.items c.args.self.now.sound (sym c.is_broken.ensures ∙ c.if-is_broken.false) c.args.self.now.listed c.args.self.now.waiting
    c.args.caller (permitted c.args.user.now c.args.repo.now c.args.change (kept_of c.permit-answer-2.result)) (Permit c.args.user.now c.args.repo.now c.args.change) c.in-Ok.group c.len-count.result c.lasts_at-is_lasting.result c.permit-answer-2.ensures.logs (of_change c.args.self.now.start c.args.self.now.hub.log c.args.user.now c.args.repo.now c.args.change (kept_of c.permit-answer-2.result))
    c.in-Ok.ensures.body c.in-Ok.ensures.storable (c.len-count.ensures ∙ ap length c.log-after.ensures.log)
    (c.lasts_at-is_lasting.ensures ∙ ap (λ (l : List Entry). lasts_in (slice_get l c.args.self.now.stored)) c.log-after.ensures.log) did in
    composes g.Y.Disk.is_modeled first _ _ on one.goes

pub invariant_of-self : goal.invariant_of-self
invariant_of-self g c =
    let one =
    none_lasts g.Y.Disk.is_modeled c.args.self.now.hub c.permit-answer.new.self c.args.self.now.start c.args.self.now.account.written
    (record { stored = c.args.self.now.stored; writer = c.args.self.now.writer; disk = g.Y.Disk.state c.args.self.now.disk })
    (record { stored = c.len.result; writer = c.args.self.now.writer; disk = g.Y.Disk.state c.args.self.now.disk })
    c.args.self.now.account.written c.args.self.now.account.places.items c.args.self.now.account.places.items c.args.self.now.account.queue.items c.args.self.now.account.queue.items c.args.self.now.sound (sym c.is_broken.ensures ∙ c.if-is_broken.false) c.args.self.now.listed c.args.self.now.waiting
    c.args.caller (permitted c.args.user.now c.args.repo.now change.List (kept_of c.permit-answer.result)) c.len.result c.permit-answer.ensures.logs (list_passes c.hold_laws.ensures.roles c.args.self.now.hub c.permit-answer.new.self c.args.caller c.args.user.now c.args.repo.now (kept_of c.permit-answer.result) c.permit-answer.ensures.logs c.permit-answer.ensures.legal) (c.len.ensures ∙ ap length c.log.ensures.log) refl refl refl refl in
    record { sound = one.has; listed = one.listed; waiting = one.waiting }

pub returns-in-List-clause-answers : goal.returns-in-List-clause-answers
returns-in-List-clause-answers g c =
    let one =
    none_lasts g.Y.Disk.is_modeled c.args.self.now.hub c.permit-answer.new.self c.args.self.now.start c.args.self.now.account.written
    (record { stored = c.args.self.now.stored; writer = c.args.self.now.writer; disk = g.Y.Disk.state c.args.self.now.disk })
    (record { stored = c.len.result; writer = c.args.self.now.writer; disk = g.Y.Disk.state c.args.self.now.disk })
    c.args.self.now.account.written c.args.self.now.account.places.items c.args.self.now.account.places.items c.args.self.now.account.queue.items c.args.self.now.account.queue.items c.args.self.now.sound (sym c.is_broken.ensures ∙ c.if-is_broken.false) c.args.self.now.listed c.args.self.now.waiting
    c.args.caller (permitted c.args.user.now c.args.repo.now change.List (kept_of c.permit-answer.result)) c.len.result c.permit-answer.ensures.logs (list_passes c.hold_laws.ensures.roles c.args.self.now.hub c.permit-answer.new.self c.args.caller c.args.user.now c.args.repo.now (kept_of c.permit-answer.result) c.permit-answer.ensures.logs c.permit-answer.ensures.legal) (c.len.ensures ∙ ap length c.log.ensures.log) refl refl refl refl in
    as_answered (λ old new. AnswersChange old c.args.repo.now c.permit-answer.result) _ _ c.args.self.now.sound (sym c.is_broken.ensures ∙ c.if-is_broken.false) one.has (sym c.is_broken.ensures ∙ c.if-is_broken.false) c.permit-answer.ensures.answers

pub returns-in-List-clause-legal : goal.returns-in-List-clause-legal
returns-in-List-clause-legal g c = first_legal c.permit-answer.new.self.admin c.permit-answer.new.self.log c.len.result c.permit-answer.ensures.legal

pub returns-in-List-clause-goes : goal.returns-in-List-clause-goes
returns-in-List-clause-goes g c first on =
    let one =
    none_lasts g.Y.Disk.is_modeled c.args.self.now.hub c.permit-answer.new.self c.args.self.now.start c.args.self.now.account.written
    (record { stored = c.args.self.now.stored; writer = c.args.self.now.writer; disk = g.Y.Disk.state c.args.self.now.disk })
    (record { stored = c.len.result; writer = c.args.self.now.writer; disk = g.Y.Disk.state c.args.self.now.disk })
    c.args.self.now.account.written c.args.self.now.account.places.items c.args.self.now.account.places.items c.args.self.now.account.queue.items c.args.self.now.account.queue.items c.args.self.now.sound (sym c.is_broken.ensures ∙ c.if-is_broken.false) c.args.self.now.listed c.args.self.now.waiting
    c.args.caller (permitted c.args.user.now c.args.repo.now change.List (kept_of c.permit-answer.result)) c.len.result c.permit-answer.ensures.logs (list_passes c.hold_laws.ensures.roles c.args.self.now.hub c.permit-answer.new.self c.args.caller c.args.user.now c.args.repo.now (kept_of c.permit-answer.result) c.permit-answer.ensures.logs c.permit-answer.ensures.legal) (c.len.ensures ∙ ap length c.log.ensures.log) refl refl refl refl in
    composes g.Y.Disk.is_modeled first _ _ on one.goes
