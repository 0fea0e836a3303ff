use Rattle.std.proofs.Common.{false, [], sym}
use Rattle.hub.specs.Desk.{DeskView}
use Rattle.request_head.proofs.LimitLemmas.{same_name}
use Rattle.session_core.proofs.RulebookLemmas.{runs_always}
use Rattle.smart_http.proofs.BodyLemmas.{tells_uploaded, uploaded_part}
use Rattle.smart_http.proofs.calls.upload_body.Goals as goal

-- whoever asks nothing of the hub
nobody : DeskView
nobody = record { admin = []; caller = 0; start = 0; seen = []; alone = false }

pub returns-clause-runs : goal.returns-clause-runs
returns-clause-runs g c = λ desk.
    let ran = rw (c.new-body.ensures.state, c.requires.begins) at (c.upload_wants-served.ensures.runs desk) in
    let same = c.link-1.given.1 (sym (same_name _ _ _ _ _ _ ran.later)) in
    rw (same, c.uploaded.ensures) (uploaded_part _ _ _ _ _ _ _ _ c.args.pin.now c.upload_wants-served.result c.is_spent-spent.result c.is_spent-spent.ensures (runs_always _ _ _ _ _ _ ran))

pub returns-clause-tells : goal.returns-clause-tells
returns-clause-tells g c =
    let ran = rw (c.new-body.ensures.state, c.requires.begins) at (c.upload_wants-served.ensures.runs nobody) in
    let same = c.link-1.given.1 (sym (same_name _ _ _ _ _ _ ran.later)) in
    rw (same, c.uploaded.ensures) (tells_uploaded (g.L.Endpoint.state c.args.link.now) (g.L.Endpoint.state c.upload_wants-served.new.link.link.now) c.upload_wants-served.result c.is_spent-spent.result (rw c.new-body.ensures.state at c.upload_wants-served.ensures.tells))
