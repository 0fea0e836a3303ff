use Rattle.interaction_tree.specs.Interaction.{gives, ◌>>=◌}
use Rattle.session_core.proofs.AskLemmas.{value_then}
use Rattle.session_core.proofs.StepLemmas.{fault_tells, packet_fault, packet_then}
use Rattle.upload_pack.specs.Wants.{want_in, taking_want}
use Rattle.upload_pack.proofs.wants.take_want.Goals as goal

pub returns-in-Ok-clause-runs : goal.returns-in-Ok-clause-runs
unfolding taking_want
returns-in-Ok-clause-runs g c = λ desk.
    let n = c.next.ensures in
    packet_then _ _ desk _ (λ next. want_in c.args.reader.now.offset next.0 >>= λ id. gives (id, next.1)) c.next.result n.reads n.writing n.later _ desk _ c.in-Ok.packet _ c.in-Ok.is (let moved = rw c.in-Ok.is at c.next.follows.holds-at-none in moved.1) (value_then _ _ desk _ _ c.want_in.result (rw c.offset-offset.ensures at (c.want_in.ensures.runs desk)))

pub returns-in-Err-clause-runs : goal.returns-in-Err-clause-runs
unfolding taking_want
returns-in-Err-clause-runs g c = λ desk.
    let n = c.next.ensures in
    packet_fault _ _ desk _ (λ next. want_in c.args.reader.now.offset next.0 >>= λ id. gives (id, next.1)) c.next.result n.reads n.writing n.later _ c.in-Err.fault _ c.in-Err.is (rw c.offset-offset.ensures at c.end_by.ensures.ends)

pub returns-in-Err-clause-tells : goal.returns-in-Err-clause-tells
returns-in-Err-clause-tells g c =
    let n = c.next.ensures in
    fault_tells _ _ _ _ c.in-Err.fault _ (rw c.in-Err.is at n.tells) n.writing c.end_by.ensures.ends c.end_by.ensures.tells
