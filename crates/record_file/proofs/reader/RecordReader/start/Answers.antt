use Rattle.record_file.specs.Records.{head_of, Holds, HoldsAllOrNone}
use Rattle.record_file.proofs.OpenLemmas.{sync_failed, sync_same, never_empty, never_empty_group, short_after}
use Rattle.record_file.proofs.reader.RecordReader.start.Goals as goal

pub returns-in_err-sync-clause-any_moment : goal.returns-in_err-sync-clause-any_moment
returns-in_err-sync-clause-any_moment g c t bodies leaves = sync_failed (Holds (head_of c.args.magic.now c.args.name.now) bodies) _ _ leaves (c.in_err-sync.ensures.file t)

pub returns-in_err-sync-clause-any_moment_group : goal.returns-in_err-sync-clause-any_moment_group
returns-in_err-sync-clause-any_moment_group g c t bodies more leaves = sync_failed (HoldsAllOrNone (head_of c.args.magic.now c.args.name.now) bodies more) _ _ leaves (c.in_err-sync.ensures.file t)

pub returns-in-Ok-clause-any_moment : goal.returns-in-Ok-clause-any_moment
returns-in-Ok-clause-any_moment g c t bodies leaves =
    sync_same (Holds (head_of c.args.magic.now c.args.name.now) bodies) _ _ leaves _ (never_empty (head_of c.args.magic.now c.args.name.now) bodies)
    (g.met.D.Disk.content_may_stay c.args.disk.now t) (c.in_ok-sync.ensures.file t) (c.start_synced.ensures.same t)

pub returns-in-Ok-clause-any_moment_group : goal.returns-in-Ok-clause-any_moment_group
returns-in-Ok-clause-any_moment_group g c t bodies more leaves =
    sync_same (HoldsAllOrNone (head_of c.args.magic.now c.args.name.now) bodies more) _ _ leaves _ (never_empty_group (head_of c.args.magic.now c.args.name.now) bodies more)
    (g.met.D.Disk.content_may_stay c.args.disk.now t) (c.in_ok-sync.ensures.file t) (c.start_synced.ensures.same t)

pub returns-in-Ok-clause-any_moment_short : goal.returns-in-Ok-clause-any_moment_short
returns-in-Ok-clause-any_moment_short g c t leaves =
    short_after (head_of c.args.magic.now c.args.name.now) _ _ _ leaves (g.met.D.Disk.content_may_stay c.args.disk.now t) (c.in_ok-sync.ensures.file t) (c.start_synced.ensures.any_moment_short t)

pub returns-in-Err-clause-any_moment : goal.returns-in-Err-clause-any_moment
returns-in-Err-clause-any_moment g c t bodies leaves =
    sync_same (Holds (head_of c.args.magic.now c.args.name.now) bodies) _ _ leaves _ (never_empty (head_of c.args.magic.now c.args.name.now) bodies)
    (g.met.D.Disk.content_may_stay c.args.disk.now t) (c.in_ok-sync.ensures.file t) (c.start_synced.ensures.same t)

pub returns-in-Err-clause-any_moment_group : goal.returns-in-Err-clause-any_moment_group
returns-in-Err-clause-any_moment_group g c t bodies more leaves =
    sync_same (HoldsAllOrNone (head_of c.args.magic.now c.args.name.now) bodies more) _ _ leaves _ (never_empty_group (head_of c.args.magic.now c.args.name.now) bodies more)
    (g.met.D.Disk.content_may_stay c.args.disk.now t) (c.in_ok-sync.ensures.file t) (c.start_synced.ensures.same t)

pub returns-in-Err-clause-any_moment_short : goal.returns-in-Err-clause-any_moment_short
returns-in-Err-clause-any_moment_short g c t leaves =
    short_after (head_of c.args.magic.now c.args.name.now) _ _ _ leaves (g.met.D.Disk.content_may_stay c.args.disk.now t) (c.in_ok-sync.ensures.file t) (c.start_synced.ensures.any_moment_short t)
