use Rattle.std.proofs.lemmas.Result.{err_from_is_err_and}
use Rattle.interaction_tree.proofs.RunLemmas.{runs_gives}
use Rattle.session_core.proofs.StepLemmas.{exits, fault_tells, goes, packet_fault, packet_then}
use Rattle.upload_pack.specs.Uploading.{fetching, wanted, wanting}
use Rattle.upload_pack.proofs.uploading.fetch_from.Goals as goal

pub returns-in_err-first-in-Ok-Line-clause-runs : goal.returns-in_err-first-in-Ok-Line-clause-runs
unfolding wanting
returns-in_err-first-in-Ok-Line-clause-runs g c = λ desk.
    let n = c.next.ensures in
    let p = err_from_is_err_and c.from_residual.result c.from_residual.ensures.1 in
    let behind = c.next.follows.lender-at-none.offset in
    let moved = rw c.in-Ok-Line.is at c.next.follows.holds-at-none in
    packet_then _ _ desk _ (λ next. wanted c.args.repo.now c.args.reader.now.offset next.0 next.1) c.next.result n.reads n.writing n.later _ _ _ c.in-Ok-Line.field-0 _ c.in-Ok-Line.is moved.1
    (rw c.in-Ok-Line.field-0-is
    (exits _ _ desk desk _ (λ first. fetching c.args.repo.now first behind) c.first_want_in.result _ _ _ c.in_err-first-in-Ok-Line.was p.1 p.2 (rw (c.without_feed.ensures, c.offset-offset.ensures) at (c.first_want_in.ensures.runs desk))))

pub returns-in_ok-first-in-Ok-Line-clause-runs : goal.returns-in_ok-first-in-Ok-Line-clause-runs
unfolding wanting
returns-in_ok-first-in-Ok-Line-clause-runs g c = λ desk.
    let n = c.next.ensures in
    let behind = c.next.follows.lender-at-none.offset in
    let moved = rw c.in-Ok-Line.is at c.next.follows.holds-at-none in
    packet_then _ _ desk _ (λ next. wanted c.args.repo.now c.args.reader.now.offset next.0 next.1) c.next.result n.reads n.writing n.later _ _ _ c.in-Ok-Line.field-0 _ c.in-Ok-Line.is moved.1
    (rw c.in-Ok-Line.field-0-is
    (goes _ _ desk desk _ (λ first. fetching c.args.repo.now first behind) c.first_want_in.result _ _ c.in_ok-first-in-Ok-Line.first _ c.in_ok-first-in-Ok-Line.was (rw (c.without_feed.ensures, c.offset-offset.ensures) at (c.first_want_in.ensures.runs desk)) (c.fetch.ensures.runs desk)))

pub returns-in-Ok-Flush-clause-runs : goal.returns-in-Ok-Flush-clause-runs
unfolding wanting
returns-in-Ok-Flush-clause-runs g c = λ desk.
    let n = c.next.ensures in
    let moved = rw c.in-Ok-Flush.is at c.next.follows.holds-at-none in
    packet_then _ _ desk _ (λ next. wanted c.args.repo.now c.args.reader.now.offset next.0 next.1) c.next.result n.reads n.writing n.later _ _ _ c.in-Ok-Flush.field-0 _ c.in-Ok-Flush.is moved.1
    (rw c.in-Ok-Flush.field-0-is (runs_gives _ _ _))

pub returns-in-Err-clause-runs : goal.returns-in-Err-clause-runs
unfolding wanting
returns-in-Err-clause-runs g c = λ desk.
    let n = c.next.ensures in
    packet_fault _ _ desk _ (λ next. wanted c.args.repo.now c.args.reader.now.offset next.0 next.1) c.next.result n.reads n.writing n.later _ c.in-Err.fault _ c.in-Err.is (rw c.offset-offset.ensures at c.end_by.ensures.ends)

pub returns-in-Err-clause-tells : goal.returns-in-Err-clause-tells
returns-in-Err-clause-tells g c =
    let n = c.next.ensures in
    fault_tells _ _ _ _ c.in-Err.fault _ (rw c.in-Err.is at n.tells) n.writing c.end_by.ensures.ends c.end_by.ensures.tells
