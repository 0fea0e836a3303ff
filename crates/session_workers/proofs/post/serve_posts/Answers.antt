use denote.Exit.{no}
use mir.Syntax.{named}
use denote.Param.{param}
use denote.Param.Send.{IsSync, arg_send, arg_sync, param_send, param_sync, sendable}
use Rattle.session_workers.proofs.Crosses.{post_send, taken_sync}
use Rattle.session_workers.proofs.post.serve_posts.Lts.{of-2}
use Rattle.session_workers.proofs.post.serve_posts.Goals as goal

pub for_each_mut-requires-send-T : goal.for_each_mut-requires-send-T
for_each_mut-requires-send-T g c κs within = param_send 1 _ (arg_send _ no _ (post_send _ _ _ _ g.H.EventHub c.type_bounds.send-D c.type_bounds.send-G c.type_bounds.send-H c.type_bounds.send-P))

pub for_each_mut-requires-sync-F : goal.for_each_mut-requires-sync-F
for_each_mut-requires-sync-F g c κs within =
    let mark : IsSync (of-2 g.row.L g.row.D g.row.G g.row.R g.row.H g.row.P g.row.P-End g.L.laws g.D.laws g.G.laws g.R.laws g.H.laws g.P.laws g.P.End.laws g.P.copy g.P.End.copy g.L.Link g.L.Link-dict g.L.Source g.L.Source-dict g.L.Endpoint g.L.Endpoint-dict g.L.Sink g.L.Sink-dict g.D.Door g.D.Door-dict g.G.Gate g.G.Gate-dict g.R.Threads g.R.Threads-dict g.R.Wait g.R.Wait-dict g.H.EventHub g.H.EventHub-dict g.P.Protocol g.P.Protocol-dict g.P.Clone g.P.Clone-dict g.P.End.Clone g.P.End.Clone-dict) = search sendable depth 30 in
    param_sync 2 _ (arg_sync _ no _ (taken_sync _ (record { mir = named 6; lft = κs.1.1.1.1.1.1.0 }) (record { mir = named 7; lft = κs.1.1.1.1.1.1.1.0 }) (record { mir = named 8; lft = κs.1.1.1.1.1.1.1.1.0 }) (record { mir = named 9; lft = κs.1.1.1.1.1.1.1.1.1.0 })
    g.row.R (param 4 g.row.H) _ g.H.EventHub c.type_bounds.sync-R c.type_bounds.send-H mark))
