use Rattle.std.proofs.Common.{◌≡◌, ◌∙◌, ap, ap₂, length, refl, sym, true, false, rules, subst, ℕ, List, ◌∷◌, ◌++◌, []}
use Rattle.std.specs.List.{slice_get}
use Rattle.hub_history.specs.declared.entry.Entry.{Entry}
use Rattle.hub_history.specs.Requests.{Enter}
use Rattle.hub.specs.Answer.{AnswersOpening, kept, opened}
use Rattle.hub.specs.Hub.{Logs}
use Rattle.stored_hub.specs.declared.account.FileAccount.{FileAccount}
use Rattle.stored_hub.specs.declared.account.Queued.{Queued}
use Rattle.stored_hub.specs.Stored.{lasts_in, waits_in}
use Rattle.stored_hub.proofs.StoredLemmas.{as_answered, composes, did_from, first_legal, of_opening, one_stored, one_waits}
use Rattle.stored_hub.proofs.calls.StoredHubEventHub.enter.Goals as goal

pub returns-then-is_broken-clause-legal : goal.returns-then-is_broken-clause-legal
returns-then-is_broken-clause-legal g c = first_legal c.args.self.now.hub.admin c.args.self.now.hub.log c.args.self.now.stored c.log-log.ensures.legal

pub invariant_of-self-2 : goal.invariant_of-self-2
invariant_of-self-2 g c =
    let left = c.put_off.ensures.no c.if-put_off.false in
    let did =
    did_from g.Y.Disk.is_modeled c.args.self.now.hub c.enter-answer.new.self c.args.self.now.start c.args.self.now.account.written
    (record { stored = c.args.self.now.stored; writer = c.args.self.now.writer; disk = g.Y.Disk.state c.args.self.now.disk })
    (record { stored = c.store_event-is_stored.new.stored; writer = c.store_event-is_stored.new.writer; disk = g.Y.Disk.state c.store_event-is_stored.new.disk })
    c.store_event-is_stored.new.account.written c.args.self.now.account.places.items c.store_event-is_stored.new.account.places.items c.args.self.now.account.queue.items c.store_event-is_stored.new.account.queue.items c.args.self.now.sound (sym c.is_broken.ensures ∙ c.if-is_broken.false) c.args.self.now.listed c.args.self.now.waiting
    c.in-Ok.group c.len-count.result c.lasts_at-is_lasting.result
    (record { stored = c.put_off.new.stored; writer = c.args.self.now.writer; disk = g.Y.Disk.state c.args.self.now.disk }) c.put_off.new.account.written c.put_off.new.account.places.items c.put_off.new.account.queue.items
    (ap (λ (n : ℕ). record { stored = n; writer = c.args.self.now.writer; disk = g.Y.Disk.state c.args.self.now.disk }) left.0) (ap (λ (k : FileAccount). k.written) left.1 ∙ c.ready_enter.ensures.same.0) (ap (λ (k : FileAccount). k.places.items) left.1 ∙ c.ready_enter.ensures.same.1) (ap (λ (k : FileAccount). k.queue.items) left.1 ∙ c.ready_enter.ensures.same.2)
    c.store_event-is_stored.ensures.accounts in
    let one =
    one_stored g.Y.Disk.is_modeled c.args.self.now.hub c.enter-answer.new.self c.args.self.now.start c.args.self.now.account.written
    (record { stored = c.args.self.now.stored; writer = c.args.self.now.writer; disk = g.Y.Disk.state c.args.self.now.disk })
    (record { stored = c.store_event-is_stored.new.stored; writer = c.store_event-is_stored.new.writer; disk = g.Y.Disk.state c.store_event-is_stored.new.disk })
    c.store_event-is_stored.new.account.written c.args.self.now.account.places.items c.store_event-is_stored.new.account.places.items c.args.self.now.account.queue.items c.store_event-is_stored.new.account.queue.items c.args.self.now.sound (sym c.is_broken.ensures ∙ c.if-is_broken.false) c.args.self.now.listed c.args.self.now.waiting
    c.args.caller (opened c.args.user.now c.args.repo.now c.args.want (kept c.enter-answer.result)) (Enter c.args.user.now c.args.repo.now c.args.want) c.in-Ok.group c.len-count.result c.lasts_at-is_lasting.result c.enter-answer.ensures.logs (of_opening c.args.self.now.start c.args.self.now.hub.log c.args.user.now c.args.repo.now c.args.want (kept c.enter-answer.result))
    c.in-Ok.ensures.body c.in-Ok.ensures.storable (c.len-count.ensures ∙ ap length c.log-after.ensures.log)
    (c.lasts_at-is_lasting.ensures ∙ ap (λ (l : List Entry). lasts_in (slice_get l c.put_off.new.stored)) c.log-after.ensures.log ∙ ap (λ (n : ℕ). lasts_in (slice_get c.enter-answer.new.self.log n)) left.0) did in
    record { sound = one.has; listed = one.listed; waiting = one.waiting }

pub returns-then-not-is_stored-clause-logs : goal.returns-then-not-is_stored-clause-logs
returns-then-not-is_stored-clause-logs g c =
    let no : c.store_event-is_stored.result ≡ false = search rules in
    let left = c.put_off.ensures.no c.if-put_off.false in
    let did =
    did_from g.Y.Disk.is_modeled c.args.self.now.hub c.enter-answer.new.self c.args.self.now.start c.args.self.now.account.written
    (record { stored = c.args.self.now.stored; writer = c.args.self.now.writer; disk = g.Y.Disk.state c.args.self.now.disk })
    (record { stored = c.store_event-is_stored.new.stored; writer = c.store_event-is_stored.new.writer; disk = g.Y.Disk.state c.store_event-is_stored.new.disk })
    c.store_event-is_stored.new.account.written c.args.self.now.account.places.items c.store_event-is_stored.new.account.places.items c.args.self.now.account.queue.items c.store_event-is_stored.new.account.queue.items c.args.self.now.sound (sym c.is_broken.ensures ∙ c.if-is_broken.false) c.args.self.now.listed c.args.self.now.waiting
    c.in-Ok.group c.len-count.result c.lasts_at-is_lasting.result
    (record { stored = c.put_off.new.stored; writer = c.args.self.now.writer; disk = g.Y.Disk.state c.args.self.now.disk }) c.put_off.new.account.written c.put_off.new.account.places.items c.put_off.new.account.queue.items
    (ap (λ (n : ℕ). record { stored = n; writer = c.args.self.now.writer; disk = g.Y.Disk.state c.args.self.now.disk }) left.0) (ap (λ (k : FileAccount). k.written) left.1 ∙ c.ready_enter.ensures.same.0) (ap (λ (k : FileAccount). k.places.items) left.1 ∙ c.ready_enter.ensures.same.1) (ap (λ (k : FileAccount). k.queue.items) left.1 ∙ c.ready_enter.ensures.same.2)
    c.store_event-is_stored.ensures.accounts in
    let one =
    one_stored g.Y.Disk.is_modeled c.args.self.now.hub c.enter-answer.new.self c.args.self.now.start c.args.self.now.account.written
    (record { stored = c.args.self.now.stored; writer = c.args.self.now.writer; disk = g.Y.Disk.state c.args.self.now.disk })
    (record { stored = c.store_event-is_stored.new.stored; writer = c.store_event-is_stored.new.writer; disk = g.Y.Disk.state c.store_event-is_stored.new.disk })
    c.store_event-is_stored.new.account.written c.args.self.now.account.places.items c.store_event-is_stored.new.account.places.items c.args.self.now.account.queue.items c.store_event-is_stored.new.account.queue.items c.args.self.now.sound (sym c.is_broken.ensures ∙ c.if-is_broken.false) c.args.self.now.listed c.args.self.now.waiting
    c.args.caller (opened c.args.user.now c.args.repo.now c.args.want (kept c.enter-answer.result)) (Enter c.args.user.now c.args.repo.now c.args.want) c.in-Ok.group c.len-count.result c.lasts_at-is_lasting.result c.enter-answer.ensures.logs (of_opening c.args.self.now.start c.args.self.now.hub.log c.args.user.now c.args.repo.now c.args.want (kept c.enter-answer.result))
    c.in-Ok.ensures.body c.in-Ok.ensures.storable (c.len-count.ensures ∙ ap length c.log-after.ensures.log)
    (c.lasts_at-is_lasting.ensures ∙ ap (λ (l : List Entry). lasts_in (slice_get l c.put_off.new.stored)) c.log-after.ensures.log ∙ ap (λ (n : ℕ). lasts_in (slice_get c.enter-answer.new.self.log n)) left.0) did in
    one.kept (c.store_event-is_stored.ensures.stops no)

pub returns-then-not-is_stored-clause-legal : goal.returns-then-not-is_stored-clause-legal
returns-then-not-is_stored-clause-legal g c = first_legal c.enter-answer.new.self.admin c.enter-answer.new.self.log c.store_event-is_stored.new.stored c.enter-answer.ensures.legal

pub returns-then-not-is_stored-clause-goes : goal.returns-then-not-is_stored-clause-goes
returns-then-not-is_stored-clause-goes g c first on =
    let left = c.put_off.ensures.no c.if-put_off.false in
    let did =
    did_from g.Y.Disk.is_modeled c.args.self.now.hub c.enter-answer.new.self c.args.self.now.start c.args.self.now.account.written
    (record { stored = c.args.self.now.stored; writer = c.args.self.now.writer; disk = g.Y.Disk.state c.args.self.now.disk })
    (record { stored = c.store_event-is_stored.new.stored; writer = c.store_event-is_stored.new.writer; disk = g.Y.Disk.state c.store_event-is_stored.new.disk })
    c.store_event-is_stored.new.account.written c.args.self.now.account.places.items c.store_event-is_stored.new.account.places.items c.args.self.now.account.queue.items c.store_event-is_stored.new.account.queue.items c.args.self.now.sound (sym c.is_broken.ensures ∙ c.if-is_broken.false) c.args.self.now.listed c.args.self.now.waiting
    c.in-Ok.group c.len-count.result c.lasts_at-is_lasting.result
    (record { stored = c.put_off.new.stored; writer = c.args.self.now.writer; disk = g.Y.Disk.state c.args.self.now.disk }) c.put_off.new.account.written c.put_off.new.account.places.items c.put_off.new.account.queue.items
    (ap (λ (n : ℕ). record { stored = n; writer = c.args.self.now.writer; disk = g.Y.Disk.state c.args.self.now.disk }) left.0) (ap (λ (k : FileAccount). k.written) left.1 ∙ c.ready_enter.ensures.same.0) (ap (λ (k : FileAccount). k.places.items) left.1 ∙ c.ready_enter.ensures.same.1) (ap (λ (k : FileAccount). k.queue.items) left.1 ∙ c.ready_enter.ensures.same.2)
    c.store_event-is_stored.ensures.accounts in
    let one =
    one_stored g.Y.Disk.is_modeled c.args.self.now.hub c.enter-answer.new.self c.args.self.now.start c.args.self.now.account.written
    (record { stored = c.args.self.now.stored; writer = c.args.self.now.writer; disk = g.Y.Disk.state c.args.self.now.disk })
    (record { stored = c.store_event-is_stored.new.stored; writer = c.store_event-is_stored.new.writer; disk = g.Y.Disk.state c.store_event-is_stored.new.disk })
    c.store_event-is_stored.new.account.written c.args.self.now.account.places.items c.store_event-is_stored.new.account.places.items c.args.self.now.account.queue.items c.store_event-is_stored.new.account.queue.items c.args.self.now.sound (sym c.is_broken.ensures ∙ c.if-is_broken.false) c.args.self.now.listed c.args.self.now.waiting
    c.args.caller (opened c.args.user.now c.args.repo.now c.args.want (kept c.enter-answer.result)) (Enter c.args.user.now c.args.repo.now c.args.want) c.in-Ok.group c.len-count.result c.lasts_at-is_lasting.result c.enter-answer.ensures.logs (of_opening c.args.self.now.start c.args.self.now.hub.log c.args.user.now c.args.repo.now c.args.want (kept c.enter-answer.result))
    c.in-Ok.ensures.body c.in-Ok.ensures.storable (c.len-count.ensures ∙ ap length c.log-after.ensures.log)
    (c.lasts_at-is_lasting.ensures ∙ ap (λ (l : List Entry). lasts_in (slice_get l c.put_off.new.stored)) c.log-after.ensures.log ∙ ap (λ (n : ℕ). lasts_in (slice_get c.enter-answer.new.self.log n)) left.0) did in
    composes g.Y.Disk.is_modeled first _ _ on one.goes

pub returns-clause-logs : goal.returns-clause-logs
returns-clause-logs g c =
    let yes : c.store_event-is_stored.result ≡ true = search rules in
    let left = c.put_off.ensures.no c.if-put_off.false in
    let did =
    did_from g.Y.Disk.is_modeled c.args.self.now.hub c.enter-answer.new.self c.args.self.now.start c.args.self.now.account.written
    (record { stored = c.args.self.now.stored; writer = c.args.self.now.writer; disk = g.Y.Disk.state c.args.self.now.disk })
    (record { stored = c.store_event-is_stored.new.stored; writer = c.store_event-is_stored.new.writer; disk = g.Y.Disk.state c.store_event-is_stored.new.disk })
    c.store_event-is_stored.new.account.written c.args.self.now.account.places.items c.store_event-is_stored.new.account.places.items c.args.self.now.account.queue.items c.store_event-is_stored.new.account.queue.items c.args.self.now.sound (sym c.is_broken.ensures ∙ c.if-is_broken.false) c.args.self.now.listed c.args.self.now.waiting
    c.in-Ok.group c.len-count.result c.lasts_at-is_lasting.result
    (record { stored = c.put_off.new.stored; writer = c.args.self.now.writer; disk = g.Y.Disk.state c.args.self.now.disk }) c.put_off.new.account.written c.put_off.new.account.places.items c.put_off.new.account.queue.items
    (ap (λ (n : ℕ). record { stored = n; writer = c.args.self.now.writer; disk = g.Y.Disk.state c.args.self.now.disk }) left.0) (ap (λ (k : FileAccount). k.written) left.1 ∙ c.ready_enter.ensures.same.0) (ap (λ (k : FileAccount). k.places.items) left.1 ∙ c.ready_enter.ensures.same.1) (ap (λ (k : FileAccount). k.queue.items) left.1 ∙ c.ready_enter.ensures.same.2)
    c.store_event-is_stored.ensures.accounts in
    let one =
    one_stored g.Y.Disk.is_modeled c.args.self.now.hub c.enter-answer.new.self c.args.self.now.start c.args.self.now.account.written
    (record { stored = c.args.self.now.stored; writer = c.args.self.now.writer; disk = g.Y.Disk.state c.args.self.now.disk })
    (record { stored = c.store_event-is_stored.new.stored; writer = c.store_event-is_stored.new.writer; disk = g.Y.Disk.state c.store_event-is_stored.new.disk })
    c.store_event-is_stored.new.account.written c.args.self.now.account.places.items c.store_event-is_stored.new.account.places.items c.args.self.now.account.queue.items c.store_event-is_stored.new.account.queue.items c.args.self.now.sound (sym c.is_broken.ensures ∙ c.if-is_broken.false) c.args.self.now.listed c.args.self.now.waiting
    c.args.caller (opened c.args.user.now c.args.repo.now c.args.want (kept c.enter-answer.result)) (Enter c.args.user.now c.args.repo.now c.args.want) c.in-Ok.group c.len-count.result c.lasts_at-is_lasting.result c.enter-answer.ensures.logs (of_opening c.args.self.now.start c.args.self.now.hub.log c.args.user.now c.args.repo.now c.args.want (kept c.enter-answer.result))
    c.in-Ok.ensures.body c.in-Ok.ensures.storable (c.len-count.ensures ∙ ap length c.log-after.ensures.log)
    (c.lasts_at-is_lasting.ensures ∙ ap (λ (l : List Entry). lasts_in (slice_get l c.put_off.new.stored)) c.log-after.ensures.log ∙ ap (λ (n : ℕ). lasts_in (slice_get c.enter-answer.new.self.log n)) left.0) did in
    as_answered (λ old new. Logs old new c.args.caller (opened c.args.user.now c.args.repo.now c.args.want (kept c.enter-answer.result))) _ _ c.args.self.now.sound (sym c.is_broken.ensures ∙ c.if-is_broken.false) one.has (c.store_event-is_stored.ensures.answers yes) c.enter-answer.ensures.logs

pub returns-clause-answers : goal.returns-clause-answers
returns-clause-answers g c =
    let yes : c.store_event-is_stored.result ≡ true = search rules in
    let left = c.put_off.ensures.no c.if-put_off.false in
    let did =
    did_from g.Y.Disk.is_modeled c.args.self.now.hub c.enter-answer.new.self c.args.self.now.start c.args.self.now.account.written
    (record { stored = c.args.self.now.stored; writer = c.args.self.now.writer; disk = g.Y.Disk.state c.args.self.now.disk })
    (record { stored = c.store_event-is_stored.new.stored; writer = c.store_event-is_stored.new.writer; disk = g.Y.Disk.state c.store_event-is_stored.new.disk })
    c.store_event-is_stored.new.account.written c.args.self.now.account.places.items c.store_event-is_stored.new.account.places.items c.args.self.now.account.queue.items c.store_event-is_stored.new.account.queue.items c.args.self.now.sound (sym c.is_broken.ensures ∙ c.if-is_broken.false) c.args.self.now.listed c.args.self.now.waiting
    c.in-Ok.group c.len-count.result c.lasts_at-is_lasting.result
    (record { stored = c.put_off.new.stored; writer = c.args.self.now.writer; disk = g.Y.Disk.state c.args.self.now.disk }) c.put_off.new.account.written c.put_off.new.account.places.items c.put_off.new.account.queue.items
    (ap (λ (n : ℕ). record { stored = n; writer = c.args.self.now.writer; disk = g.Y.Disk.state c.args.self.now.disk }) left.0) (ap (λ (k : FileAccount). k.written) left.1 ∙ c.ready_enter.ensures.same.0) (ap (λ (k : FileAccount). k.places.items) left.1 ∙ c.ready_enter.ensures.same.1) (ap (λ (k : FileAccount). k.queue.items) left.1 ∙ c.ready_enter.ensures.same.2)
    c.store_event-is_stored.ensures.accounts in
    let one =
    one_stored g.Y.Disk.is_modeled c.args.self.now.hub c.enter-answer.new.self c.args.self.now.start c.args.self.now.account.written
    (record { stored = c.args.self.now.stored; writer = c.args.self.now.writer; disk = g.Y.Disk.state c.args.self.now.disk })
    (record { stored = c.store_event-is_stored.new.stored; writer = c.store_event-is_stored.new.writer; disk = g.Y.Disk.state c.store_event-is_stored.new.disk })
    c.store_event-is_stored.new.account.written c.args.self.now.account.places.items c.store_event-is_stored.new.account.places.items c.args.self.now.account.queue.items c.store_event-is_stored.new.account.queue.items c.args.self.now.sound (sym c.is_broken.ensures ∙ c.if-is_broken.false) c.args.self.now.listed c.args.self.now.waiting
    c.args.caller (opened c.args.user.now c.args.repo.now c.args.want (kept c.enter-answer.result)) (Enter c.args.user.now c.args.repo.now c.args.want) c.in-Ok.group c.len-count.result c.lasts_at-is_lasting.result c.enter-answer.ensures.logs (of_opening c.args.self.now.start c.args.self.now.hub.log c.args.user.now c.args.repo.now c.args.want (kept c.enter-answer.result))
    c.in-Ok.ensures.body c.in-Ok.ensures.storable (c.len-count.ensures ∙ ap length c.log-after.ensures.log)
    (c.lasts_at-is_lasting.ensures ∙ ap (λ (l : List Entry). lasts_in (slice_get l c.put_off.new.stored)) c.log-after.ensures.log ∙ ap (λ (n : ℕ). lasts_in (slice_get c.enter-answer.new.self.log n)) left.0) did in
    as_answered (λ old new. AnswersOpening old new c.args.user.now c.args.repo.now c.args.want c.enter-answer.result) _ _ c.args.self.now.sound (sym c.is_broken.ensures ∙ c.if-is_broken.false) one.has (c.store_event-is_stored.ensures.answers yes) c.enter-answer.ensures.answers

pub returns-clause-legal : goal.returns-clause-legal
returns-clause-legal g c = first_legal c.enter-answer.new.self.admin c.enter-answer.new.self.log c.store_event-is_stored.new.stored c.enter-answer.ensures.legal

pub returns-clause-goes : goal.returns-clause-goes
returns-clause-goes g c first on =
    let left = c.put_off.ensures.no c.if-put_off.false in
    let did =
    did_from g.Y.Disk.is_modeled c.args.self.now.hub c.enter-answer.new.self c.args.self.now.start c.args.self.now.account.written
    (record { stored = c.args.self.now.stored; writer = c.args.self.now.writer; disk = g.Y.Disk.state c.args.self.now.disk })
    (record { stored = c.store_event-is_stored.new.stored; writer = c.store_event-is_stored.new.writer; disk = g.Y.Disk.state c.store_event-is_stored.new.disk })
    c.store_event-is_stored.new.account.written c.args.self.now.account.places.items c.store_event-is_stored.new.account.places.items c.args.self.now.account.queue.items c.store_event-is_stored.new.account.queue.items c.args.self.now.sound (sym c.is_broken.ensures ∙ c.if-is_broken.false) c.args.self.now.listed c.args.self.now.waiting
    c.in-Ok.group c.len-count.result c.lasts_at-is_lasting.result
    (record { stored = c.put_off.new.stored; writer = c.args.self.now.writer; disk = g.Y.Disk.state c.args.self.now.disk }) c.put_off.new.account.written c.put_off.new.account.places.items c.put_off.new.account.queue.items
    (ap (λ (n : ℕ). record { stored = n; writer = c.args.self.now.writer; disk = g.Y.Disk.state c.args.self.now.disk }) left.0) (ap (λ (k : FileAccount). k.written) left.1 ∙ c.ready_enter.ensures.same.0) (ap (λ (k : FileAccount). k.places.items) left.1 ∙ c.ready_enter.ensures.same.1) (ap (λ (k : FileAccount). k.queue.items) left.1 ∙ c.ready_enter.ensures.same.2)
    c.store_event-is_stored.ensures.accounts in
    let one =
    one_stored g.Y.Disk.is_modeled c.args.self.now.hub c.enter-answer.new.self c.args.self.now.start c.args.self.now.account.written
    (record { stored = c.args.self.now.stored; writer = c.args.self.now.writer; disk = g.Y.Disk.state c.args.self.now.disk })
    (record { stored = c.store_event-is_stored.new.stored; writer = c.store_event-is_stored.new.writer; disk = g.Y.Disk.state c.store_event-is_stored.new.disk })
    c.store_event-is_stored.new.account.written c.args.self.now.account.places.items c.store_event-is_stored.new.account.places.items c.args.self.now.account.queue.items c.store_event-is_stored.new.account.queue.items c.args.self.now.sound (sym c.is_broken.ensures ∙ c.if-is_broken.false) c.args.self.now.listed c.args.self.now.waiting
    c.args.caller (opened c.args.user.now c.args.repo.now c.args.want (kept c.enter-answer.result)) (Enter c.args.user.now c.args.repo.now c.args.want) c.in-Ok.group c.len-count.result c.lasts_at-is_lasting.result c.enter-answer.ensures.logs (of_opening c.args.self.now.start c.args.self.now.hub.log c.args.user.now c.args.repo.now c.args.want (kept c.enter-answer.result))
    c.in-Ok.ensures.body c.in-Ok.ensures.storable (c.len-count.ensures ∙ ap length c.log-after.ensures.log)
    (c.lasts_at-is_lasting.ensures ∙ ap (λ (l : List Entry). lasts_in (slice_get l c.put_off.new.stored)) c.log-after.ensures.log ∙ ap (λ (n : ℕ). lasts_in (slice_get c.enter-answer.new.self.log n)) left.0) did in
    composes g.Y.Disk.is_modeled first _ _ on one.goes

pub invariant_of-self-then-put_off : goal.invariant_of-self-then-put_off
invariant_of-self-then-put_off g c =
    let yes = c.put_off.ensures.yes c.if-put_off.true in
    let one =
    one_waits g.Y.Disk.is_modeled c.args.self.now.hub c.enter-answer.new.self c.args.self.now.start c.args.self.now.account.written
    (record { stored = c.args.self.now.stored; writer = c.args.self.now.writer; disk = g.Y.Disk.state c.args.self.now.disk })
    (record { stored = c.put_off.new.stored; writer = c.args.self.now.writer; disk = g.Y.Disk.state c.args.self.now.disk })
    c.put_off.new.account.written c.args.self.now.account.places.items c.put_off.new.account.places.items c.args.self.now.account.queue.items c.put_off.new.account.queue.items c.args.self.now.sound (sym c.is_broken.ensures ∙ c.if-is_broken.false) c.args.self.now.listed c.args.self.now.waiting
    c.args.caller c.args.user.now c.args.repo.now c.args.want (kept c.enter-answer.result) c.enter-answer.ensures.logs
    (ap (λ (l : List Entry). waits_in (slice_get l c.args.self.now.stored)) (sym c.log-after.ensures.log) ∙ c.put_off.ensures.waits c.if-put_off.true) c.in-Ok.ensures.storable
    (ap (λ (n : ℕ). record { stored = n; writer = c.args.self.now.writer; disk = g.Y.Disk.state c.args.self.now.disk }) (yes.0 ∙ ap length c.log-after.ensures.log))
    (yes.1 ∙ c.ready_enter.ensures.same.0) (yes.2 ∙ ap (λ (l : List ℕ). l ++ c.args.self.now.stored ∷ []) c.ready_enter.ensures.same.1) (yes.3 ∙ ap₂ (λ (l : List Queued) (q : Queued). l ++ q ∷ []) c.ready_enter.ensures.same.2 c.in-Ok.ensures.queued) in
    record { sound = one.has; listed = one.listed; waiting = one.waiting }

pub returns-then-put_off-clause-logs : goal.returns-then-put_off-clause-logs
returns-then-put_off-clause-logs g c =
    let yes = c.put_off.ensures.yes c.if-put_off.true in
    let one =
    one_waits g.Y.Disk.is_modeled c.args.self.now.hub c.enter-answer.new.self c.args.self.now.start c.args.self.now.account.written
    (record { stored = c.args.self.now.stored; writer = c.args.self.now.writer; disk = g.Y.Disk.state c.args.self.now.disk })
    (record { stored = c.put_off.new.stored; writer = c.args.self.now.writer; disk = g.Y.Disk.state c.args.self.now.disk })
    c.put_off.new.account.written c.args.self.now.account.places.items c.put_off.new.account.places.items c.args.self.now.account.queue.items c.put_off.new.account.queue.items c.args.self.now.sound (sym c.is_broken.ensures ∙ c.if-is_broken.false) c.args.self.now.listed c.args.self.now.waiting
    c.args.caller c.args.user.now c.args.repo.now c.args.want (kept c.enter-answer.result) c.enter-answer.ensures.logs
    (ap (λ (l : List Entry). waits_in (slice_get l c.args.self.now.stored)) (sym c.log-after.ensures.log) ∙ c.put_off.ensures.waits c.if-put_off.true) c.in-Ok.ensures.storable
    (ap (λ (n : ℕ). record { stored = n; writer = c.args.self.now.writer; disk = g.Y.Disk.state c.args.self.now.disk }) (yes.0 ∙ ap length c.log-after.ensures.log))
    (yes.1 ∙ c.ready_enter.ensures.same.0) (yes.2 ∙ ap (λ (l : List ℕ). l ++ c.args.self.now.stored ∷ []) c.ready_enter.ensures.same.1) (yes.3 ∙ ap₂ (λ (l : List Queued) (q : Queued). l ++ q ∷ []) c.ready_enter.ensures.same.2 c.in-Ok.ensures.queued) in
    as_answered (λ old new. Logs old new c.args.caller (opened c.args.user.now c.args.repo.now c.args.want (kept c.enter-answer.result))) _ _ c.args.self.now.sound (sym c.is_broken.ensures ∙ c.if-is_broken.false) one.has (sym c.is_broken.ensures ∙ c.if-is_broken.false) c.enter-answer.ensures.logs

pub returns-then-put_off-clause-answers : goal.returns-then-put_off-clause-answers
returns-then-put_off-clause-answers g c =
    let yes = c.put_off.ensures.yes c.if-put_off.true in
    let one =
    one_waits g.Y.Disk.is_modeled c.args.self.now.hub c.enter-answer.new.self c.args.self.now.start c.args.self.now.account.written
    (record { stored = c.args.self.now.stored; writer = c.args.self.now.writer; disk = g.Y.Disk.state c.args.self.now.disk })
    (record { stored = c.put_off.new.stored; writer = c.args.self.now.writer; disk = g.Y.Disk.state c.args.self.now.disk })
    c.put_off.new.account.written c.args.self.now.account.places.items c.put_off.new.account.places.items c.args.self.now.account.queue.items c.put_off.new.account.queue.items c.args.self.now.sound (sym c.is_broken.ensures ∙ c.if-is_broken.false) c.args.self.now.listed c.args.self.now.waiting
    c.args.caller c.args.user.now c.args.repo.now c.args.want (kept c.enter-answer.result) c.enter-answer.ensures.logs
    (ap (λ (l : List Entry). waits_in (slice_get l c.args.self.now.stored)) (sym c.log-after.ensures.log) ∙ c.put_off.ensures.waits c.if-put_off.true) c.in-Ok.ensures.storable
    (ap (λ (n : ℕ). record { stored = n; writer = c.args.self.now.writer; disk = g.Y.Disk.state c.args.self.now.disk }) (yes.0 ∙ ap length c.log-after.ensures.log))
    (yes.1 ∙ c.ready_enter.ensures.same.0) (yes.2 ∙ ap (λ (l : List ℕ). l ++ c.args.self.now.stored ∷ []) c.ready_enter.ensures.same.1) (yes.3 ∙ ap₂ (λ (l : List Queued) (q : Queued). l ++ q ∷ []) c.ready_enter.ensures.same.2 c.in-Ok.ensures.queued) in
    as_answered (λ old new. AnswersOpening old new c.args.user.now c.args.repo.now c.args.want c.enter-answer.result) _ _ c.args.self.now.sound (sym c.is_broken.ensures ∙ c.if-is_broken.false) one.has (sym c.is_broken.ensures ∙ c.if-is_broken.false) c.enter-answer.ensures.answers

pub returns-then-put_off-clause-legal : goal.returns-then-put_off-clause-legal
returns-then-put_off-clause-legal g c = first_legal c.enter-answer.new.self.admin c.enter-answer.new.self.log c.put_off.new.stored c.enter-answer.ensures.legal

pub returns-then-put_off-clause-goes : goal.returns-then-put_off-clause-goes
returns-then-put_off-clause-goes g c first on =
    let yes = c.put_off.ensures.yes c.if-put_off.true in
    let one =
    one_waits g.Y.Disk.is_modeled c.args.self.now.hub c.enter-answer.new.self c.args.self.now.start c.args.self.now.account.written
    (record { stored = c.args.self.now.stored; writer = c.args.self.now.writer; disk = g.Y.Disk.state c.args.self.now.disk })
    (record { stored = c.put_off.new.stored; writer = c.args.self.now.writer; disk = g.Y.Disk.state c.args.self.now.disk })
    c.put_off.new.account.written c.args.self.now.account.places.items c.put_off.new.account.places.items c.args.self.now.account.queue.items c.put_off.new.account.queue.items c.args.self.now.sound (sym c.is_broken.ensures ∙ c.if-is_broken.false) c.args.self.now.listed c.args.self.now.waiting
    c.args.caller c.args.user.now c.args.repo.now c.args.want (kept c.enter-answer.result) c.enter-answer.ensures.logs
    (ap (λ (l : List Entry). waits_in (slice_get l c.args.self.now.stored)) (sym c.log-after.ensures.log) ∙ c.put_off.ensures.waits c.if-put_off.true) c.in-Ok.ensures.storable
    (ap (λ (n : ℕ). record { stored = n; writer = c.args.self.now.writer; disk = g.Y.Disk.state c.args.self.now.disk }) (yes.0 ∙ ap length c.log-after.ensures.log))
    (yes.1 ∙ c.ready_enter.ensures.same.0) (yes.2 ∙ ap (λ (l : List ℕ). l ++ c.args.self.now.stored ∷ []) c.ready_enter.ensures.same.1) (yes.3 ∙ ap₂ (λ (l : List Queued) (q : Queued). l ++ q ∷ []) c.ready_enter.ensures.same.2 c.in-Ok.ensures.queued) in
    composes g.Y.Disk.is_modeled first _ _ on one.goes
