use Rattle.record_file.proofs.StoreLemmas.{run_1, run_3, run_4, run_same, failed_1, failed_3, staged, opened}
use Rattle.record_file.proofs.writer.store.Goals as goal

pub returns-in_err-write_at-clause-any_moment : goal.returns-in_err-write_at-clause-any_moment
returns-in_err-write_at-clause-any_moment g c t head bodies rest =
    let w = rw c.written.ensures.bytes at (c.in_err-write_at.ensures.file t) in
    failed_1 head bodies c.args.end c.args.group.now c.written.ensures.group _ _ rest w

pub returns-in_err-sync-clause-any_moment : goal.returns-in_err-sync-clause-any_moment
returns-in_err-sync-clause-any_moment g c t head bodies rest =
    let w = rw c.written.ensures.bytes at (c.in_ok-write_at.ensures.file t) in
    let first = run_1 head bodies c.args.end c.args.group.now c.written.ensures.group _ _ rest w.1 in
    run_same head bodies c.args.end c.args.group.now c.written.ensures.group _ _ _ first (c.in_err-sync.ensures.file t)

pub returns-in_err-write_at-2-clause-any_moment : goal.returns-in_err-write_at-2-clause-any_moment
returns-in_err-write_at-2-clause-any_moment g c t head bodies rest =
    let w = rw c.written.ensures.bytes at (c.in_ok-write_at.ensures.file t) in
    failed_3 head bodies c.args.end c.args.group.now c.written.ensures.group _ _ _ _ rest w (c.in_ok-sync.ensures.file t) (c.in_err-write_at-2.ensures.file t)

pub returns-in_err-sync-2-clause-any_moment : goal.returns-in_err-sync-2-clause-any_moment
returns-in_err-sync-2-clause-any_moment g c t head bodies rest =
    let w = rw c.written.ensures.bytes at (c.in_ok-write_at.ensures.file t) in
    let v = c.in_ok-write_at-2.ensures.file t in
    let third = run_3 head bodies c.args.end c.args.group.now c.written.ensures.group _ _ _ _ rest w (c.in_ok-sync.ensures.file t) v.1 in
    run_same head bodies c.args.end c.args.group.now c.written.ensures.group _ _ _ third (c.in_err-sync-2.ensures.file t)

pub returns-clause-stored : goal.returns-clause-stored
returns-clause-stored g c t head bodies rest =
    let w = rw c.written.ensures.bytes at (c.in_ok-write_at.ensures.file t) in
    let st = staged head bodies c.args.end c.args.group.now c.written.ensures.group _ _ _ rest w (c.in_ok-sync.ensures.file t) in
    opened head bodies c.args.end c.args.group.now c.written.ensures.group _ _ _ st (c.in_ok-write_at-2.ensures.file t) (c.in_ok-sync-2.ensures.file t)

pub returns-clause-any_moment : goal.returns-clause-any_moment
returns-clause-any_moment g c t head bodies rest =
    let w = rw c.written.ensures.bytes at (c.in_ok-write_at.ensures.file t) in
    run_4 head bodies c.args.end c.args.group.now c.written.ensures.group _ _ _ _ _ rest w (c.in_ok-sync.ensures.file t) (c.in_ok-write_at-2.ensures.file t) (c.in_ok-sync-2.ensures.file t)
