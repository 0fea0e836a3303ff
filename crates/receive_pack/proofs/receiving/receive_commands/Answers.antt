use Rattle.std.proofs.Common.{refl}
use Rattle.std.proofs.lemmas.Result.{err_from_is_err_and}
use Rattle.interaction_tree.proofs.RunLemmas.{runs_gives}
use Rattle.session_core.specs.FirstPacket.{without_feed}
use Rattle.session_core.proofs.GateLemmas.{lets_in_none}
use Rattle.session_core.proofs.RulebookLemmas.{exits_first, fault_by, goes_first, packet_by, runs_always}
use Rattle.session_core.proofs.StepLemmas.{fault_tells}
use Rattle.receive_pack.specs.Changes.{first_capabilities}
use Rattle.receive_pack.specs.Receiving.{commanded, commanding, taking_push}
use Rattle.receive_pack.proofs.receiving.receive_commands.Goals as goal

pub returns-in_err-first-in-Ok-Line-clause-runs : goal.returns-in_err-first-in-Ok-Line-clause-runs
unfolding commanding
returns-in_err-first-in-Ok-Line-clause-runs g c =
    let n = c.next.ensures in
    let p = err_from_is_err_and c.from_residual.result c.from_residual.ensures.1 in
    let behind = c.next.follows.lender-at-none.offset in
    let moved = rw c.in-Ok-Line.is at c.next.follows.holds-at-none in
    packet_by _ _ _ _ (λ book next. commanded book c.args.pin c.args.reader.now.offset next.0 next.1) c.next.result n.reads n.writing n.later _ _ _ c.in-Ok-Line.field-0 _ c.in-Ok-Line.is moved.1
    (rw c.in-Ok-Line.field-0-is
    (exits_first _ _ _ _ (λ book first. taking_push book c.args.pin (first_capabilities (without_feed c.in-Ok-Line.line.now)) first behind) c.first_in.result _ _ _ c.in_err-first-in-Ok-Line.was p.1 p.2
    (rw (c.without_feed-line.ensures, c.offset-offset.ensures) at (c.first_in.ensures.runs (g.K.Desk.view c.args.desk.now)))))

pub returns-in_ok-first-in-Ok-Line-clause-runs : goal.returns-in_ok-first-in-Ok-Line-clause-runs
unfolding commanding
returns-in_ok-first-in-Ok-Line-clause-runs g c =
    let n = c.next.ensures in
    let behind = c.next.follows.lender-at-none.offset in
    let moved = rw c.in-Ok-Line.is at c.next.follows.holds-at-none in
    packet_by _ _ _ _ (λ book next. commanded book c.args.pin c.args.reader.now.offset next.0 next.1) c.next.result n.reads n.writing n.later _ _ _ c.in-Ok-Line.field-0 _ c.in-Ok-Line.is moved.1
    (rw c.in-Ok-Line.field-0-is
    (goes_first _ _ _ _ (λ book first. taking_push book c.args.pin (first_capabilities (without_feed c.in-Ok-Line.line.now)) first behind) c.first_in.result _ _ c.in_ok-first-in-Ok-Line.first _ c.in_ok-first-in-Ok-Line.was
    (rw (c.without_feed-line.ensures, c.offset-offset.ensures) at (c.first_in.ensures.runs (g.K.Desk.view c.args.desk.now)))
    (rw (c.first_capabilities-capabilities.ensures, c.without_feed-line.ensures) at c.take_push.ensures.runs)))

pub returns-in-Ok-Flush-clause-runs : goal.returns-in-Ok-Flush-clause-runs
unfolding commanding
returns-in-Ok-Flush-clause-runs g c =
    let n = c.next.ensures in
    let moved = rw c.in-Ok-Flush.is at c.next.follows.holds-at-none in
    packet_by _ _ _ _ (λ book next. commanded book c.args.pin c.args.reader.now.offset next.0 next.1) c.next.result n.reads n.writing n.later _ _ _ c.in-Ok-Flush.field-0 _ c.in-Ok-Flush.is moved.1
    (rw c.in-Ok-Flush.field-0-is (runs_always _ _ _ _ _ _ (runs_gives _ _ _)))

pub returns-in-Err-clause-runs : goal.returns-in-Err-clause-runs
unfolding commanding
returns-in-Err-clause-runs g c =
    let n = c.next.ensures in
    fault_by _ _ _ _ (λ book next. commanded book c.args.pin c.args.reader.now.offset next.0 next.1) c.next.result n.reads n.writing n.later _ c.in-Err.fault _ c.in-Err.is (rw c.offset-offset.ensures at c.end_by.ensures.ends)

pub returns-in-Err-clause-tells : goal.returns-in-Err-clause-tells
returns-in-Err-clause-tells g c =
    let n = c.next.ensures in
    fault_tells _ _ _ _ c.in-Err.fault _ (rw c.in-Err.is at n.tells) n.writing c.end_by.ensures.ends c.end_by.ensures.tells

pub returns-in_err-first-in-Ok-Line-clause-goes : goal.returns-in_err-first-in-Ok-Line-clause-goes
returns-in_err-first-in-Ok-Line-clause-goes g c = g.met.K.Desk.stays c.args.desk.now

pub returns-in-Ok-Flush-clause-goes : goal.returns-in-Ok-Flush-clause-goes
returns-in-Ok-Flush-clause-goes g c = g.met.K.Desk.stays c.args.desk.now

pub returns-in-Err-clause-goes : goal.returns-in-Err-clause-goes
returns-in-Err-clause-goes g c = g.met.K.Desk.stays c.args.desk.now

pub returns-in_err-first-in-Ok-Line-clause-lets_in : goal.returns-in_err-first-in-Ok-Line-clause-lets_in
returns-in_err-first-in-Ok-Line-clause-lets_in g c = lets_in_none _ _ refl

pub returns-in-Ok-Flush-clause-lets_in : goal.returns-in-Ok-Flush-clause-lets_in
returns-in-Ok-Flush-clause-lets_in g c = lets_in_none _ _ refl

pub returns-in-Err-clause-lets_in : goal.returns-in-Err-clause-lets_in
returns-in-Err-clause-lets_in g c = lets_in_none _ _ refl
