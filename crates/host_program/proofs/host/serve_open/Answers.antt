use Rattle.std.proofs.Common.{◌≡◌, ℕ, ◌∙◌, ap, inl, inr, length, refl, subst, true}
use Rattle.std.specs.Prelude.{IfNone, IfSome, Some, slice_index_or}
use denote.Exit.{no}
use denote.Param.{param}
use denote.Param.Send.{arg_send, param_send}
use Rattle.hub.specs.Hub.{HubView}
use Rattle.session_workers.specs.declared.post.Post.{Post}
use Rattle.session_workers.specs.ServesAll.{ServesAll}
use Rattle.shell_program.specs.Protocols.{meaning_of}
use Rattle.shell_program.specs.Serve.{served_line}
use Rattle.shell_program.specs.declared.status.Status.TheVariants.{NoMemory}
use Rattle.stored_hub.specs.declared.stored.StoredHub.{StoredHub}
use Rattle.stored_hub.specs.Stored.{ContinuesStored, StoredView, answered}
use Rattle.stored_hub.proofs.Crosses.{stored_send}
use Rattle.host_program.proofs.HostLemmas.{hosted, line_printed}
use Rattle.host_program.proofs.host.serve_open.Goals as goal

pub serve_all-hub-requires-send-H : goal.serve_all-hub-requires-send-H
serve_all-hub-requires-send-H g c κs within = param_send 4 _ (arg_send _ no _ (stored_send (param 5 g.row.Y) g.Y.Disk c.type_bounds.send-Y))

pub returns-in_default-clause-ends : goal.returns-in_default-clause-ends
returns-in_default-clause-ends g c =
    let unasked = subst (λ o. IfNone o ((k : ℕ) (d : Post _ _ _ _) → (slice_index_or c.serve_all-hub.new.posts k d).door ≡ (slice_index_or c.args.posts.now k d).door)) c.in_default.is c.serve_all-hub.ensures.unasked in
    (NoMemory, c.number.ensures, inl (record { gone = refl; status = refl; unprinted = refl; unasked = unasked; no_log = c.new.ensures }))

pub returns-clause-ends : goal.returns-clause-ends
returns-clause-ends g c =
    let modeled = g.Y.Disk.is_modeled in
    let hub = c.args.recovered.hub in
    let was = c.new-hub.result in
    let is = c.in-Some.hub in
    let all = c.serve_all-hub.result in
    let sink = g.O.Endpoint.state c.args.output.now in
    let sink' = g.O.Endpoint.state c.print_served-printed.new.output in
    let first : StoredView = record { hub = was.hub; start = was.start; written = was.account.written; store = record { stored = was.stored; writer = was.writer; disk = g.Y.Disk.state was.disk } } in
    let last : StoredView = record { hub = is.hub; start = is.start; written = is.account.written; store = record { stored = is.stored; writer = is.writer; disk = g.Y.Disk.state is.disk } } in
    let served = subst (λ o. IfSome o (λ (after : StoredHub _ _). ServesAll meaning_of g.L.Endpoint.state g.D.Door.state true (answered first) (answered (record { hub = after.hub; start = after.start; written = after.account.written; store = record { stored = after.stored; writer = after.writer; disk = g.Y.Disk.state after.disk } })) c.args.posts.now c.serve_all-hub.new.posts c.args.each all.sessions all.door_failed all.no_memory)) c.in-Some.is c.serve_all-hub.ensures.served in
    let goes = subst (λ o. IfSome o (λ (after : StoredHub _ _). ContinuesStored modeled first (record { hub = after.hub; start = after.start; written = after.account.written; store = record { stored = after.stored; writer = after.writer; disk = g.Y.Disk.state after.disk } }))) c.in-Some.is c.serve_all-hub.ensures.goes in (
      c.host_status.result,
      c.number-2.ensures,
      inr (hosted g.L.Endpoint.state g.D.Door.state c.args.each c.args.posts.now c.serve_all-hub.new.posts modeled hub c.args.recovered.writer (g.Y.Disk.state c.args.disk) first last
          (Some (g.Y.Disk.state c.into_parts-log.result.disk)) sink sink' c.into_parts-log.result.log c.into_parts-log.result.stored c.host_status.result all.sessions all.door_failed all.no_memory c.into_parts-log.result.is_broken c.print_served-printed.result
          (c.new-hub.ensures.hub ∙ c.into_parts-hub.ensures.hub) (c.new-hub.ensures.start ∙ ap (λ (h : HubView). length h.log) c.into_parts-hub.ensures.hub) (c.new-hub.ensures.written ∙ ap (λ (h : HubView). length h.log) c.into_parts-hub.ensures.hub) (c.new-hub.ensures.stored ∙ ap (λ (h : HubView). length h.log) c.into_parts-hub.ensures.hub) (c.new-hub.ensures.writer ∙ c.into_parts-hub.ensures.writer) c.requires.unbroken (ap g.Y.Disk.state c.new-hub.ensures.disk)
          c.requires.durable is.sound goes served c.into_parts-log.ensures.log c.into_parts-log.ensures.stored (ap (λ d. Some (g.Y.Disk.state d)) c.into_parts-log.ensures.disk) c.into_parts-log.ensures.broken
          (line_printed sink sink' (served_line all.sessions c.into_parts-log.result.stored) c.print_served-printed.result c.print_served-printed.ensures.ok c.print_served-printed.ensures.err) c.host_status.ensures),
    )
