use Rattle.std.proofs.Common.{sym}
use Rattle.request_head.proofs.LimitLemmas.{same_name}
use Rattle.smart_http.proofs.BodyLemmas.{received_part, tells_received}
use Rattle.smart_http.proofs.calls.receive_body.Goals as goal

pub returns-clause-runs : goal.returns-clause-runs
returns-clause-runs g c =
    let ran = rw (c.new-body.ensures.state, c.requires.begins) at c.receive_commands-served.ensures.runs in
    let same = c.link-1.given.1 (sym (same_name _ _ _ _ _ _ ran.later)) in
    rw (same, c.received.ensures) (received_part _ _ _ _ _ _ _ _ c.args.pin c.receive_commands-served.result c.is_spent-spent.result c.is_spent-spent.ensures ran)

pub returns-clause-tells : goal.returns-clause-tells
returns-clause-tells g c =
    let ran = rw (c.new-body.ensures.state, c.requires.begins) at c.receive_commands-served.ensures.runs in
    let same = c.link-1.given.1 (sym (same_name _ _ _ _ _ _ ran.later)) in
    rw (same, c.received.ensures) (tells_received (g.L.Endpoint.state c.args.link.now) (g.L.Endpoint.state c.receive_commands-served.new.link.link.now) c.receive_commands-served.result c.is_spent-spent.result (rw c.new-body.ensures.state at c.receive_commands-served.ensures.tells))
