use Rattle.std.proofs.Common.{◌≡◌, ◌≤◌, ◌∙◌, ap, ap₂, length, refl, sym, true, false, rules, subst, ℕ, List, ◌∷◌, ◌++◌, []}
use Rattle.std.specs.List.{slice_get}
use Rattle.hub_history.specs.declared.entry.Entry.{Entry}
use Rattle.hub_history.specs.Requests.{Push}
use Rattle.event_record.specs.Bodies.{IsStorable, body_of}
use Rattle.hub.specs.Answer.{AnswersPush, settled}
use Rattle.hub.specs.Hub.{Logs}
use Rattle.lasting_events.specs.Lasting.{place_among}
use Rattle.stored_hub.specs.Stored.{bodies_waiting, lasts_in}
use Rattle.stored_hub.proofs.StoredLemmas.{as_answered, composes, did_from, first_legal, of_push, one_stored, pin_within}
use Rattle.stored_hub.proofs.calls.StoredHubEventHub.settle.Goals as goal

pub returns-then-is_broken-clause-legal : goal.returns-then-is_broken-clause-legal
returns-then-is_broken-clause-legal g c = first_legal c.args.self.now.hub.admin c.args.self.now.hub.log c.args.self.now.stored c.log-log.ensures.legal

pub invariant_of-self-2 : goal.invariant_of-self-2
invariant_of-self-2 g c =
    let place_is : c.place_among-place.result ≡ (place_among c.args.self.now.start c.args.self.now.hub.log c.args.pin.place) =
    c.place_among-place.ensures ∙ ap (place_among c.args.self.now.start c.log-log.result.now) c.place.ensures ∙ ap (λ (l : List Entry). place_among c.args.self.now.start l c.args.pin.place) c.log-log.ensures.log in
    let did =
    did_from g.Y.Disk.is_modeled c.args.self.now.hub c.settle-answer.new.self c.args.self.now.start c.args.self.now.account.written
    (record { stored = c.args.self.now.stored; writer = c.args.self.now.writer; disk = g.Y.Disk.state c.args.self.now.disk })
    (record { stored = c.store_event-is_stored.new.stored; writer = c.store_event-is_stored.new.writer; disk = g.Y.Disk.state c.store_event-is_stored.new.disk })
    c.store_event-is_stored.new.account.written c.args.self.now.account.places.items c.store_event-is_stored.new.account.places.items c.args.self.now.account.queue.items c.store_event-is_stored.new.account.queue.items c.args.self.now.sound (sym c.is_broken.ensures ∙ c.if-is_broken.false) c.args.self.now.listed c.args.self.now.waiting
    c.in-Ok.group c.len-count.result c.lasts_at-is_lasting.result
    (record { stored = c.args.self.now.stored; writer = c.args.self.now.writer; disk = g.Y.Disk.state c.args.self.now.disk }) c.ready_push.new.account.written c.ready_push.new.account.places.items c.ready_push.new.account.queue.items refl c.ready_push.ensures.same.0 c.ready_push.ensures.same.1 c.ready_push.ensures.same.2
    c.store_event-is_stored.ensures.accounts in
    let one =
    one_stored g.Y.Disk.is_modeled c.args.self.now.hub c.settle-answer.new.self c.args.self.now.start c.args.self.now.account.written
    (record { stored = c.args.self.now.stored; writer = c.args.self.now.writer; disk = g.Y.Disk.state c.args.self.now.disk })
    (record { stored = c.store_event-is_stored.new.stored; writer = c.store_event-is_stored.new.writer; disk = g.Y.Disk.state c.store_event-is_stored.new.disk })
    c.store_event-is_stored.new.account.written c.args.self.now.account.places.items c.store_event-is_stored.new.account.places.items c.args.self.now.account.queue.items c.store_event-is_stored.new.account.queue.items c.args.self.now.sound (sym c.is_broken.ensures ∙ c.if-is_broken.false) c.args.self.now.listed c.args.self.now.waiting
    c.args.caller (settled c.args.pin c.args.request.pack c.args.request.commands c.args.request.atomic c.settle-answer.result) (Push (place_among c.args.self.now.start c.args.self.now.hub.log c.args.pin.place) c.args.request.pack c.args.request.commands c.args.request.atomic) c.in-Ok.group c.len-count.result c.lasts_at-is_lasting.result c.settle-answer.ensures.logs (of_push c.args.self.now.start c.args.self.now.hub.log c.args.pin c.args.request.pack c.args.request.commands c.args.request.atomic c.settle-answer.result)
    (c.in-Ok.ensures.body ∙ ap (λ (n : ℕ). bodies_waiting c.args.self.now.account.queue.items ++ body_of c.args.caller (Push n c.args.request.pack c.args.request.commands c.args.request.atomic) ∷ []) place_is) (subst (λ (n : ℕ). IsStorable c.args.caller (Push n c.args.request.pack c.args.request.commands c.args.request.atomic)) place_is c.in-Ok.ensures.storable) (c.len-count.ensures ∙ ap length c.log-after.ensures.log)
    (c.lasts_at-is_lasting.ensures ∙ ap (λ (l : List Entry). lasts_in (slice_get l c.args.self.now.stored)) c.log-after.ensures.log) did in
    record { sound = one.has; listed = one.listed; waiting = one.waiting }

pub returns-then-not-is_stored-clause-logs : goal.returns-then-not-is_stored-clause-logs
returns-then-not-is_stored-clause-logs g c =
    let no : c.store_event-is_stored.result ≡ false = search rules in
    let place_is : c.place_among-place.result ≡ (place_among c.args.self.now.start c.args.self.now.hub.log c.args.pin.place) =
    c.place_among-place.ensures ∙ ap (place_among c.args.self.now.start c.log-log.result.now) c.place.ensures ∙ ap (λ (l : List Entry). place_among c.args.self.now.start l c.args.pin.place) c.log-log.ensures.log in
    let did =
    did_from g.Y.Disk.is_modeled c.args.self.now.hub c.settle-answer.new.self c.args.self.now.start c.args.self.now.account.written
    (record { stored = c.args.self.now.stored; writer = c.args.self.now.writer; disk = g.Y.Disk.state c.args.self.now.disk })
    (record { stored = c.store_event-is_stored.new.stored; writer = c.store_event-is_stored.new.writer; disk = g.Y.Disk.state c.store_event-is_stored.new.disk })
    c.store_event-is_stored.new.account.written c.args.self.now.account.places.items c.store_event-is_stored.new.account.places.items c.args.self.now.account.queue.items c.store_event-is_stored.new.account.queue.items c.args.self.now.sound (sym c.is_broken.ensures ∙ c.if-is_broken.false) c.args.self.now.listed c.args.self.now.waiting
    c.in-Ok.group c.len-count.result c.lasts_at-is_lasting.result
    (record { stored = c.args.self.now.stored; writer = c.args.self.now.writer; disk = g.Y.Disk.state c.args.self.now.disk }) c.ready_push.new.account.written c.ready_push.new.account.places.items c.ready_push.new.account.queue.items refl c.ready_push.ensures.same.0 c.ready_push.ensures.same.1 c.ready_push.ensures.same.2
    c.store_event-is_stored.ensures.accounts in
    let one =
    one_stored g.Y.Disk.is_modeled c.args.self.now.hub c.settle-answer.new.self c.args.self.now.start c.args.self.now.account.written
    (record { stored = c.args.self.now.stored; writer = c.args.self.now.writer; disk = g.Y.Disk.state c.args.self.now.disk })
    (record { stored = c.store_event-is_stored.new.stored; writer = c.store_event-is_stored.new.writer; disk = g.Y.Disk.state c.store_event-is_stored.new.disk })
    c.store_event-is_stored.new.account.written c.args.self.now.account.places.items c.store_event-is_stored.new.account.places.items c.args.self.now.account.queue.items c.store_event-is_stored.new.account.queue.items c.args.self.now.sound (sym c.is_broken.ensures ∙ c.if-is_broken.false) c.args.self.now.listed c.args.self.now.waiting
    c.args.caller (settled c.args.pin c.args.request.pack c.args.request.commands c.args.request.atomic c.settle-answer.result) (Push (place_among c.args.self.now.start c.args.self.now.hub.log c.args.pin.place) c.args.request.pack c.args.request.commands c.args.request.atomic) c.in-Ok.group c.len-count.result c.lasts_at-is_lasting.result c.settle-answer.ensures.logs (of_push c.args.self.now.start c.args.self.now.hub.log c.args.pin c.args.request.pack c.args.request.commands c.args.request.atomic c.settle-answer.result)
    (c.in-Ok.ensures.body ∙ ap (λ (n : ℕ). bodies_waiting c.args.self.now.account.queue.items ++ body_of c.args.caller (Push n c.args.request.pack c.args.request.commands c.args.request.atomic) ∷ []) place_is) (subst (λ (n : ℕ). IsStorable c.args.caller (Push n c.args.request.pack c.args.request.commands c.args.request.atomic)) place_is c.in-Ok.ensures.storable) (c.len-count.ensures ∙ ap length c.log-after.ensures.log)
    (c.lasts_at-is_lasting.ensures ∙ ap (λ (l : List Entry). lasts_in (slice_get l c.args.self.now.stored)) c.log-after.ensures.log) did in
    one.kept (c.store_event-is_stored.ensures.stops no)

pub returns-then-not-is_stored-clause-legal : goal.returns-then-not-is_stored-clause-legal
returns-then-not-is_stored-clause-legal g c = first_legal c.settle-answer.new.self.admin c.settle-answer.new.self.log c.store_event-is_stored.new.stored c.settle-answer.ensures.legal

pub returns-then-not-is_stored-clause-goes : goal.returns-then-not-is_stored-clause-goes
returns-then-not-is_stored-clause-goes g c first on =
    let place_is : c.place_among-place.result ≡ (place_among c.args.self.now.start c.args.self.now.hub.log c.args.pin.place) =
    c.place_among-place.ensures ∙ ap (place_among c.args.self.now.start c.log-log.result.now) c.place.ensures ∙ ap (λ (l : List Entry). place_among c.args.self.now.start l c.args.pin.place) c.log-log.ensures.log in
    let did =
    did_from g.Y.Disk.is_modeled c.args.self.now.hub c.settle-answer.new.self c.args.self.now.start c.args.self.now.account.written
    (record { stored = c.args.self.now.stored; writer = c.args.self.now.writer; disk = g.Y.Disk.state c.args.self.now.disk })
    (record { stored = c.store_event-is_stored.new.stored; writer = c.store_event-is_stored.new.writer; disk = g.Y.Disk.state c.store_event-is_stored.new.disk })
    c.store_event-is_stored.new.account.written c.args.self.now.account.places.items c.store_event-is_stored.new.account.places.items c.args.self.now.account.queue.items c.store_event-is_stored.new.account.queue.items c.args.self.now.sound (sym c.is_broken.ensures ∙ c.if-is_broken.false) c.args.self.now.listed c.args.self.now.waiting
    c.in-Ok.group c.len-count.result c.lasts_at-is_lasting.result
    (record { stored = c.args.self.now.stored; writer = c.args.self.now.writer; disk = g.Y.Disk.state c.args.self.now.disk }) c.ready_push.new.account.written c.ready_push.new.account.places.items c.ready_push.new.account.queue.items refl c.ready_push.ensures.same.0 c.ready_push.ensures.same.1 c.ready_push.ensures.same.2
    c.store_event-is_stored.ensures.accounts in
    let one =
    one_stored g.Y.Disk.is_modeled c.args.self.now.hub c.settle-answer.new.self c.args.self.now.start c.args.self.now.account.written
    (record { stored = c.args.self.now.stored; writer = c.args.self.now.writer; disk = g.Y.Disk.state c.args.self.now.disk })
    (record { stored = c.store_event-is_stored.new.stored; writer = c.store_event-is_stored.new.writer; disk = g.Y.Disk.state c.store_event-is_stored.new.disk })
    c.store_event-is_stored.new.account.written c.args.self.now.account.places.items c.store_event-is_stored.new.account.places.items c.args.self.now.account.queue.items c.store_event-is_stored.new.account.queue.items c.args.self.now.sound (sym c.is_broken.ensures ∙ c.if-is_broken.false) c.args.self.now.listed c.args.self.now.waiting
    c.args.caller (settled c.args.pin c.args.request.pack c.args.request.commands c.args.request.atomic c.settle-answer.result) (Push (place_among c.args.self.now.start c.args.self.now.hub.log c.args.pin.place) c.args.request.pack c.args.request.commands c.args.request.atomic) c.in-Ok.group c.len-count.result c.lasts_at-is_lasting.result c.settle-answer.ensures.logs (of_push c.args.self.now.start c.args.self.now.hub.log c.args.pin c.args.request.pack c.args.request.commands c.args.request.atomic c.settle-answer.result)
    (c.in-Ok.ensures.body ∙ ap (λ (n : ℕ). bodies_waiting c.args.self.now.account.queue.items ++ body_of c.args.caller (Push n c.args.request.pack c.args.request.commands c.args.request.atomic) ∷ []) place_is) (subst (λ (n : ℕ). IsStorable c.args.caller (Push n c.args.request.pack c.args.request.commands c.args.request.atomic)) place_is c.in-Ok.ensures.storable) (c.len-count.ensures ∙ ap length c.log-after.ensures.log)
    (c.lasts_at-is_lasting.ensures ∙ ap (λ (l : List Entry). lasts_in (slice_get l c.args.self.now.stored)) c.log-after.ensures.log) did in
    composes g.Y.Disk.is_modeled first _ _ on one.goes

pub returns-clause-logs : goal.returns-clause-logs
returns-clause-logs g c =
    let yes : c.store_event-is_stored.result ≡ true = search rules in
    let place_is : c.place_among-place.result ≡ (place_among c.args.self.now.start c.args.self.now.hub.log c.args.pin.place) =
    c.place_among-place.ensures ∙ ap (place_among c.args.self.now.start c.log-log.result.now) c.place.ensures ∙ ap (λ (l : List Entry). place_among c.args.self.now.start l c.args.pin.place) c.log-log.ensures.log in
    let did =
    did_from g.Y.Disk.is_modeled c.args.self.now.hub c.settle-answer.new.self c.args.self.now.start c.args.self.now.account.written
    (record { stored = c.args.self.now.stored; writer = c.args.self.now.writer; disk = g.Y.Disk.state c.args.self.now.disk })
    (record { stored = c.store_event-is_stored.new.stored; writer = c.store_event-is_stored.new.writer; disk = g.Y.Disk.state c.store_event-is_stored.new.disk })
    c.store_event-is_stored.new.account.written c.args.self.now.account.places.items c.store_event-is_stored.new.account.places.items c.args.self.now.account.queue.items c.store_event-is_stored.new.account.queue.items c.args.self.now.sound (sym c.is_broken.ensures ∙ c.if-is_broken.false) c.args.self.now.listed c.args.self.now.waiting
    c.in-Ok.group c.len-count.result c.lasts_at-is_lasting.result
    (record { stored = c.args.self.now.stored; writer = c.args.self.now.writer; disk = g.Y.Disk.state c.args.self.now.disk }) c.ready_push.new.account.written c.ready_push.new.account.places.items c.ready_push.new.account.queue.items refl c.ready_push.ensures.same.0 c.ready_push.ensures.same.1 c.ready_push.ensures.same.2
    c.store_event-is_stored.ensures.accounts in
    let one =
    one_stored g.Y.Disk.is_modeled c.args.self.now.hub c.settle-answer.new.self c.args.self.now.start c.args.self.now.account.written
    (record { stored = c.args.self.now.stored; writer = c.args.self.now.writer; disk = g.Y.Disk.state c.args.self.now.disk })
    (record { stored = c.store_event-is_stored.new.stored; writer = c.store_event-is_stored.new.writer; disk = g.Y.Disk.state c.store_event-is_stored.new.disk })
    c.store_event-is_stored.new.account.written c.args.self.now.account.places.items c.store_event-is_stored.new.account.places.items c.args.self.now.account.queue.items c.store_event-is_stored.new.account.queue.items c.args.self.now.sound (sym c.is_broken.ensures ∙ c.if-is_broken.false) c.args.self.now.listed c.args.self.now.waiting
    c.args.caller (settled c.args.pin c.args.request.pack c.args.request.commands c.args.request.atomic c.settle-answer.result) (Push (place_among c.args.self.now.start c.args.self.now.hub.log c.args.pin.place) c.args.request.pack c.args.request.commands c.args.request.atomic) c.in-Ok.group c.len-count.result c.lasts_at-is_lasting.result c.settle-answer.ensures.logs (of_push c.args.self.now.start c.args.self.now.hub.log c.args.pin c.args.request.pack c.args.request.commands c.args.request.atomic c.settle-answer.result)
    (c.in-Ok.ensures.body ∙ ap (λ (n : ℕ). bodies_waiting c.args.self.now.account.queue.items ++ body_of c.args.caller (Push n c.args.request.pack c.args.request.commands c.args.request.atomic) ∷ []) place_is) (subst (λ (n : ℕ). IsStorable c.args.caller (Push n c.args.request.pack c.args.request.commands c.args.request.atomic)) place_is c.in-Ok.ensures.storable) (c.len-count.ensures ∙ ap length c.log-after.ensures.log)
    (c.lasts_at-is_lasting.ensures ∙ ap (λ (l : List Entry). lasts_in (slice_get l c.args.self.now.stored)) c.log-after.ensures.log) did in
    as_answered (λ old new. Logs old new c.args.caller (settled c.args.pin c.args.request.pack c.args.request.commands c.args.request.atomic c.settle-answer.result)) _ _ c.args.self.now.sound (sym c.is_broken.ensures ∙ c.if-is_broken.false) one.has (c.store_event-is_stored.ensures.answers yes) c.settle-answer.ensures.logs

pub returns-clause-answers : goal.returns-clause-answers
returns-clause-answers g c =
    let yes : c.store_event-is_stored.result ≡ true = search rules in
    let place_is : c.place_among-place.result ≡ (place_among c.args.self.now.start c.args.self.now.hub.log c.args.pin.place) =
    c.place_among-place.ensures ∙ ap (place_among c.args.self.now.start c.log-log.result.now) c.place.ensures ∙ ap (λ (l : List Entry). place_among c.args.self.now.start l c.args.pin.place) c.log-log.ensures.log in
    let did =
    did_from g.Y.Disk.is_modeled c.args.self.now.hub c.settle-answer.new.self c.args.self.now.start c.args.self.now.account.written
    (record { stored = c.args.self.now.stored; writer = c.args.self.now.writer; disk = g.Y.Disk.state c.args.self.now.disk })
    (record { stored = c.store_event-is_stored.new.stored; writer = c.store_event-is_stored.new.writer; disk = g.Y.Disk.state c.store_event-is_stored.new.disk })
    c.store_event-is_stored.new.account.written c.args.self.now.account.places.items c.store_event-is_stored.new.account.places.items c.args.self.now.account.queue.items c.store_event-is_stored.new.account.queue.items c.args.self.now.sound (sym c.is_broken.ensures ∙ c.if-is_broken.false) c.args.self.now.listed c.args.self.now.waiting
    c.in-Ok.group c.len-count.result c.lasts_at-is_lasting.result
    (record { stored = c.args.self.now.stored; writer = c.args.self.now.writer; disk = g.Y.Disk.state c.args.self.now.disk }) c.ready_push.new.account.written c.ready_push.new.account.places.items c.ready_push.new.account.queue.items refl c.ready_push.ensures.same.0 c.ready_push.ensures.same.1 c.ready_push.ensures.same.2
    c.store_event-is_stored.ensures.accounts in
    let one =
    one_stored g.Y.Disk.is_modeled c.args.self.now.hub c.settle-answer.new.self c.args.self.now.start c.args.self.now.account.written
    (record { stored = c.args.self.now.stored; writer = c.args.self.now.writer; disk = g.Y.Disk.state c.args.self.now.disk })
    (record { stored = c.store_event-is_stored.new.stored; writer = c.store_event-is_stored.new.writer; disk = g.Y.Disk.state c.store_event-is_stored.new.disk })
    c.store_event-is_stored.new.account.written c.args.self.now.account.places.items c.store_event-is_stored.new.account.places.items c.args.self.now.account.queue.items c.store_event-is_stored.new.account.queue.items c.args.self.now.sound (sym c.is_broken.ensures ∙ c.if-is_broken.false) c.args.self.now.listed c.args.self.now.waiting
    c.args.caller (settled c.args.pin c.args.request.pack c.args.request.commands c.args.request.atomic c.settle-answer.result) (Push (place_among c.args.self.now.start c.args.self.now.hub.log c.args.pin.place) c.args.request.pack c.args.request.commands c.args.request.atomic) c.in-Ok.group c.len-count.result c.lasts_at-is_lasting.result c.settle-answer.ensures.logs (of_push c.args.self.now.start c.args.self.now.hub.log c.args.pin c.args.request.pack c.args.request.commands c.args.request.atomic c.settle-answer.result)
    (c.in-Ok.ensures.body ∙ ap (λ (n : ℕ). bodies_waiting c.args.self.now.account.queue.items ++ body_of c.args.caller (Push n c.args.request.pack c.args.request.commands c.args.request.atomic) ∷ []) place_is) (subst (λ (n : ℕ). IsStorable c.args.caller (Push n c.args.request.pack c.args.request.commands c.args.request.atomic)) place_is c.in-Ok.ensures.storable) (c.len-count.ensures ∙ ap length c.log-after.ensures.log)
    (c.lasts_at-is_lasting.ensures ∙ ap (λ (l : List Entry). lasts_in (slice_get l c.args.self.now.stored)) c.log-after.ensures.log) did in
    as_answered (λ old new. AnswersPush old c.args.pin c.settle-answer.result) _ _ c.args.self.now.sound (sym c.is_broken.ensures ∙ c.if-is_broken.false) one.has (c.store_event-is_stored.ensures.answers yes) c.settle-answer.ensures.answers

pub returns-clause-legal : goal.returns-clause-legal
returns-clause-legal g c = first_legal c.settle-answer.new.self.admin c.settle-answer.new.self.log c.store_event-is_stored.new.stored c.settle-answer.ensures.legal

pub returns-clause-goes : goal.returns-clause-goes
returns-clause-goes g c first on =
    let place_is : c.place_among-place.result ≡ (place_among c.args.self.now.start c.args.self.now.hub.log c.args.pin.place) =
    c.place_among-place.ensures ∙ ap (place_among c.args.self.now.start c.log-log.result.now) c.place.ensures ∙ ap (λ (l : List Entry). place_among c.args.self.now.start l c.args.pin.place) c.log-log.ensures.log in
    let did =
    did_from g.Y.Disk.is_modeled c.args.self.now.hub c.settle-answer.new.self c.args.self.now.start c.args.self.now.account.written
    (record { stored = c.args.self.now.stored; writer = c.args.self.now.writer; disk = g.Y.Disk.state c.args.self.now.disk })
    (record { stored = c.store_event-is_stored.new.stored; writer = c.store_event-is_stored.new.writer; disk = g.Y.Disk.state c.store_event-is_stored.new.disk })
    c.store_event-is_stored.new.account.written c.args.self.now.account.places.items c.store_event-is_stored.new.account.places.items c.args.self.now.account.queue.items c.store_event-is_stored.new.account.queue.items c.args.self.now.sound (sym c.is_broken.ensures ∙ c.if-is_broken.false) c.args.self.now.listed c.args.self.now.waiting
    c.in-Ok.group c.len-count.result c.lasts_at-is_lasting.result
    (record { stored = c.args.self.now.stored; writer = c.args.self.now.writer; disk = g.Y.Disk.state c.args.self.now.disk }) c.ready_push.new.account.written c.ready_push.new.account.places.items c.ready_push.new.account.queue.items refl c.ready_push.ensures.same.0 c.ready_push.ensures.same.1 c.ready_push.ensures.same.2
    c.store_event-is_stored.ensures.accounts in
    let one =
    one_stored g.Y.Disk.is_modeled c.args.self.now.hub c.settle-answer.new.self c.args.self.now.start c.args.self.now.account.written
    (record { stored = c.args.self.now.stored; writer = c.args.self.now.writer; disk = g.Y.Disk.state c.args.self.now.disk })
    (record { stored = c.store_event-is_stored.new.stored; writer = c.store_event-is_stored.new.writer; disk = g.Y.Disk.state c.store_event-is_stored.new.disk })
    c.store_event-is_stored.new.account.written c.args.self.now.account.places.items c.store_event-is_stored.new.account.places.items c.args.self.now.account.queue.items c.store_event-is_stored.new.account.queue.items c.args.self.now.sound (sym c.is_broken.ensures ∙ c.if-is_broken.false) c.args.self.now.listed c.args.self.now.waiting
    c.args.caller (settled c.args.pin c.args.request.pack c.args.request.commands c.args.request.atomic c.settle-answer.result) (Push (place_among c.args.self.now.start c.args.self.now.hub.log c.args.pin.place) c.args.request.pack c.args.request.commands c.args.request.atomic) c.in-Ok.group c.len-count.result c.lasts_at-is_lasting.result c.settle-answer.ensures.logs (of_push c.args.self.now.start c.args.self.now.hub.log c.args.pin c.args.request.pack c.args.request.commands c.args.request.atomic c.settle-answer.result)
    (c.in-Ok.ensures.body ∙ ap (λ (n : ℕ). bodies_waiting c.args.self.now.account.queue.items ++ body_of c.args.caller (Push n c.args.request.pack c.args.request.commands c.args.request.atomic) ∷ []) place_is) (subst (λ (n : ℕ). IsStorable c.args.caller (Push n c.args.request.pack c.args.request.commands c.args.request.atomic)) place_is c.in-Ok.ensures.storable) (c.len-count.ensures ∙ ap length c.log-after.ensures.log)
    (c.lasts_at-is_lasting.ensures ∙ ap (λ (l : List Entry). lasts_in (slice_get l c.args.self.now.stored)) c.log-after.ensures.log) did in
    composes g.Y.Disk.is_modeled first _ _ on one.goes

pub returns-in_default-clause-legal : goal.returns-in_default-clause-legal
returns-in_default-clause-legal g c = first_legal c.args.self.now.hub.admin c.args.self.now.hub.log c.args.self.now.stored c.log-log.ensures.legal

pub place_among-place-requires-clause-within : goal.place_among-place-requires-clause-within
place_among-place-requires-clause-within g c =
    subst (λ (l : List Entry). c.place.result ≤ length l) (sym c.log-log.ensures.log)
    (subst (λ (n : ℕ). n ≤ length c.args.self.now.hub.log) (sym c.place.ensures) (pin_within c.args.pin c.args.self.now.hub.admin c.args.self.now.hub.log c.args.self.now.stored c.requires.stands))
