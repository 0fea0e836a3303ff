use Rattle.std.proofs.Common.{◌∙◌}
use Rattle.record_file.specs.Records.{head_of}
use Rattle.record_file.proofs.OpenLemmas.{no_bytes, still_after, begun_content, begun_started, begin_failed, begin_unsynced, begin_synced}
use Rattle.record_file.proofs.reader.begin.Goals as goal

pub returns-in_err-write_at-clause-any_moment_short : goal.returns-in_err-write_at-clause-any_moment_short
returns-in_err-write_at-clause-any_moment_short g c t still =
    let empty = no_bytes _ (g.met.D.Disk.size_told c.args.disk.now t ∙ c.requires.empty) in
    begin_failed (head_of c.args.magic.now c.args.name.now) c.deref.result.now (c.deref.ensures.value ∙ c.in_ok-bytes.ensures.bytes) _ empty still _ (c.in_err-write_at.ensures.file t)

pub returns-in_err-sync-clause-any_moment_short : goal.returns-in_err-sync-clause-any_moment_short
returns-in_err-sync-clause-any_moment_short g c t still =
    let empty = no_bytes _ (g.met.D.Disk.size_told c.args.disk.now t ∙ c.requires.empty) in
    begin_unsynced (head_of c.args.magic.now c.args.name.now) c.deref.result.now (c.deref.ensures.value ∙ c.in_ok-bytes.ensures.bytes) _ empty still _ _ (c.in_ok-write_at.ensures.file t) (c.in_err-sync.ensures.file t)

pub returns-clause-started : goal.returns-clause-started
returns-clause-started g c t =
    let empty = no_bytes _ (g.met.D.Disk.size_told c.args.disk.now t ∙ c.requires.empty) in
    begun_started (head_of c.args.magic.now c.args.name.now) _
    (begun_content (head_of c.args.magic.now c.args.name.now) c.deref.result.now _ _ _ empty (c.deref.ensures.value ∙ c.in_ok-bytes.ensures.bytes) (c.in_ok-write_at.ensures.file t) (c.in_ok-sync.ensures.file t))
    (still_after _ _ (c.in_ok-sync.ensures.file t))

pub returns-clause-any_moment_short : goal.returns-clause-any_moment_short
returns-clause-any_moment_short g c t still =
    let empty = no_bytes _ (g.met.D.Disk.size_told c.args.disk.now t ∙ c.requires.empty) in
    begin_synced (head_of c.args.magic.now c.args.name.now) c.deref.result.now (c.deref.ensures.value ∙ c.in_ok-bytes.ensures.bytes) _ empty still _ _ (c.in_ok-write_at.ensures.file t) (c.in_ok-sync.ensures.file t)
