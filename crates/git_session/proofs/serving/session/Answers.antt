use Rattle.std.proofs.Common.{rules, refl}
use Rattle.interaction_tree.specs.Interaction.{ends}
use Rattle.interaction_tree.proofs.RunLemmas.{runs_ends}
use Rattle.session_core.specs.declared.end.SessionEnd.TheVariants.{Served, NoMemory}
use Rattle.git_session.specs.Session.{session}
use Rattle.session_core.proofs.RulebookLemmas.{ends_by, goes_by, memory_by, runs_always}
use Rattle.session_core.proofs.GateLemmas.{calls_none, gates_since, lets_in_none}
use Rattle.git_session.proofs.EndLemmas.{session_keeps}
use Rattle.git_session.proofs.serving.session.Goals as goal

pub returns-in_default : goal.returns-in_default
returns-in_default g c =
    let k = session_keeps _ _ _ _ _ NoMemory c.sound.ensures (memory_by _ _ _) in
    record { turn = k.turn; tells = search rules; grows = k.grows; sound = k.sound; goes = g.met.K.Desk.stays c.args.desk.now; gates = gates_since (g.K.Desk.view c.args.desk.now) _ _ _ (g.L.Endpoint.state c.args.link.now).written (calls_none _ _ _ _ (lets_in_none _ _ refl)); causes = k.causes; sure = k.sure; later = k.later }

pub returns-in-Ok-served : goal.returns-in-Ok-served
unfolding session
returns-in-Ok-served g c =
    let k = session_keeps _ _ _ _ _ Served c.sound.ensures (goes_by _ _ _ _ _ (λ book u. ends Served) c.serve-served.result _ _ c.in-Ok-served.field-0 _ c.in-Ok-served.is (rw c.in-Ok.ensures.offset at c.serve-served.ensures.runs) (runs_always _ _ _ _ _ _ (runs_ends _ _ Served))) in
    record { turn = k.turn; tells = search rules; grows = k.grows; sound = k.sound; goes = c.serve-served.ensures.goes; gates = gates_since _ _ _ _ _ c.serve-served.ensures.gates; causes = k.causes; sure = k.sure; later = k.later }

pub returns-in-Err : goal.returns-in-Err
unfolding session
returns-in-Err g c =
    let k = session_keeps _ _ _ _ _ c.in-Err.end c.sound.ensures (ends_by _ _ _ _ _ (λ book u. ends Served) c.serve-served.result c.in-Err.end c.in-Err.is (rw c.in-Ok.ensures.offset at c.serve-served.ensures.runs)) in
    record { turn = k.turn; tells = search rules; grows = k.grows; sound = k.sound; goes = c.serve-served.ensures.goes; gates = gates_since _ _ _ _ _ c.serve-served.ensures.gates; causes = k.causes; sure = k.sure; later = k.later }
