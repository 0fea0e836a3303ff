use Rattle.std.proofs.Common.{◌≡◌, ℕ, ◌∙◌, ap, inl, inr, refl, subst}
use Rattle.std.specs.Prelude.{IfNone, IfSome, Some, false, slice_index_or}
use Rattle.session_workers.specs.declared.post.Post.{Post}
use Rattle.session_workers.specs.ServesAll.{ServesAll}
use Rattle.shell_program.specs.Protocols.{meaning_of}
use Rattle.shell_program.specs.declared.protocols.ServerProtocol.{ServerProtocol}
use Rattle.shell_program.specs.Status.{status_number}
use Rattle.shell_program.specs.declared.status.Status.TheVariants.{NoMemory}
use Rattle.shell_program.proofs.LoneLemmas.{legal_none}
use Rattle.shell_program.proofs.ServeLemmas.{run_ends, run_legal, run_sure, served_told}
use Rattle.shell_program.proofs.serve.run_serve.Goals as goal

pub returns-in_default-clause-ends : goal.returns-in_default-clause-ends
returns-in_default-clause-ends g c = (NoMemory, c.without_log.ensures.status, inl (record { unasked = λ k d. refl; unprinted = refl; no_log = c.without_log.ensures.log }))

pub returns-in_default-clause-sure : goal.returns-in_default-clause-sure
returns-in_default-clause-sure g c = λ doors writes. inr c.without_log.ensures.status

pub returns-in_default-clause-legal : goal.returns-in_default-clause-legal
returns-in_default-clause-legal g c = legal_none (Some c.args.admin.now) c.without_log.result.log c.without_log.ensures.log

pub returns-in_default-hub-clause-ends : goal.returns-in_default-hub-clause-ends
returns-in_default-hub-clause-ends g c =
    let unasked = subst (λ o. IfNone o ((k : ℕ) (d : Post _ _ _ _) → (slice_index_or c.serve_by-hub.new.posts k d).door ≡ (slice_index_or c.args.posts.now k d).door)) c.in_default-hub.is c.serve_by-hub.ensures.unasked in
    (NoMemory, c.without_log-in_default-hub.ensures.status, inl (record { unasked = unasked; unprinted = refl; no_log = c.without_log-in_default-hub.ensures.log }))

pub returns-in_default-hub-clause-sure : goal.returns-in_default-hub-clause-sure
returns-in_default-hub-clause-sure g c = λ doors writes. inr c.without_log-in_default-hub.ensures.status

pub returns-in_default-hub-clause-legal : goal.returns-in_default-hub-clause-legal
returns-in_default-hub-clause-legal g c = legal_none (Some c.args.admin.now) c.without_log-in_default-hub.result.log c.without_log-in_default-hub.ensures.log

pub returns-clause-ends : goal.returns-clause-ends
returns-clause-ends g c =
    let all = c.serve_by-hub.result in
    let served = subst (λ o. IfSome o (λ after. ServesAll (λ (p : ServerProtocol). meaning_of c.args.protocol) g.L.Endpoint.state g.D.Door.state false c.in-Ok.hub after c.args.posts.now c.serve_by-hub.new.posts c.args.each all.sessions all.door_failed all.no_memory)) c.in-Some.is c.serve_by-hub.ensures.served in
    run_ends (meaning_of c.args.protocol) g.L.Endpoint.state g.D.Door.state c.args.admin.now c.args.each c.args.posts.now c.serve_by-hub.new.posts (g.O.Endpoint.state c.args.output.now) (g.O.Endpoint.state c.print_served-printed.new.output) c.into_log-log.result c.in-Ok.hub c.in-Some.hub
    all.sessions c.len.result all.door_failed all.no_memory c.print_served-printed.result c.number.result c.in-Ok.ensures served c.into_log-log.ensures c.len.ensures c.print_served-printed.ensures.err
    (c.number.ensures ∙ ap status_number c.served_status.ensures) c.print_served-printed.ensures.ok

pub returns-clause-tells : goal.returns-clause-tells
returns-clause-tells g c =
    let all = c.serve_by-hub.result in
    let sink = g.O.Endpoint.state c.args.output.now in
    let sink' = g.O.Endpoint.state c.print_served-printed.new.output in
    rw (c.number.ensures ∙ ap status_number c.served_status.ensures) (served_told sink sink' _ all.door_failed all.no_memory c.print_served-printed.result c.print_served-printed.ensures.err c.print_served-printed.ensures.tells)

pub returns-clause-sure : goal.returns-clause-sure
returns-clause-sure g c =
    let all = c.serve_by-hub.result in
    let served = subst (λ o. IfSome o (λ after. ServesAll (λ (p : ServerProtocol). meaning_of c.args.protocol) g.L.Endpoint.state g.D.Door.state false c.in-Ok.hub after c.args.posts.now c.serve_by-hub.new.posts c.args.each all.sessions all.door_failed all.no_memory)) c.in-Some.is c.serve_by-hub.ensures.served in
    run_sure (meaning_of c.args.protocol) g.L.Endpoint.state g.D.Door.state c.args.admin.now c.args.each c.args.posts.now c.serve_by-hub.new.posts (g.O.Endpoint.state c.args.output.now) (g.O.Endpoint.state c.print_served-printed.new.output) c.into_log-log.result c.in-Ok.hub c.in-Some.hub
    all.sessions c.len.result all.door_failed all.no_memory c.print_served-printed.result c.number.result c.in-Ok.ensures served c.into_log-log.ensures c.len.ensures c.print_served-printed.ensures.err
    (c.number.ensures ∙ ap status_number c.served_status.ensures)

pub returns-clause-legal : goal.returns-clause-legal
returns-clause-legal g c =
    let all = c.serve_by-hub.result in
    let served = subst (λ o. IfSome o (λ after. ServesAll (λ (p : ServerProtocol). meaning_of c.args.protocol) g.L.Endpoint.state g.D.Door.state false c.in-Ok.hub after c.args.posts.now c.serve_by-hub.new.posts c.args.each all.sessions all.door_failed all.no_memory)) c.in-Some.is c.serve_by-hub.ensures.served in
    run_legal (meaning_of c.args.protocol) g.L.Endpoint.state g.D.Door.state c.args.admin.now c.args.each c.args.posts.now c.serve_by-hub.new.posts (g.O.Endpoint.state c.args.output.now) (g.O.Endpoint.state c.print_served-printed.new.output) c.into_log-log.result c.in-Ok.hub c.in-Some.hub
    all.sessions c.len.result all.door_failed all.no_memory c.print_served-printed.result c.number.result c.in-Ok.ensures served c.into_log-log.ensures c.len.ensures c.print_served-printed.ensures.err
    (c.number.ensures ∙ ap status_number c.served_status.ensures)
