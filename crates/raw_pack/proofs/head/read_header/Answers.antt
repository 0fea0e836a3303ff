use Rattle.std.proofs.Common.{◌≡◌, Err, rules}
use Rattle.raw_pack.specs.Packs.{header}
use Rattle.raw_pack.proofs.ReadLemmas.{reads_first, reads_then}
use Rattle.raw_pack.proofs.head.read_header.Goals as goal

pub returns-in_err-read_signature-clause-reads : goal.returns-in_err-read_signature-clause-reads
unfolding header
returns-in_err-read_signature-clause-reads g c =
    let answer : c.from_residual.result ≡ Err c.in_err-read_signature.field-0.0 = search rules in
    rw answer (reads_first _ _ _ _ _ _ _ c.in_err-read_signature.field-0.0 c.in_err-read_signature.ensures.reads)

pub returns-in_err-read_version-clause-reads : goal.returns-in_err-read_version-clause-reads
unfolding header
returns-in_err-read_version-clause-reads g c =
    let answer : c.from_residual-in_err-read_version.result ≡ Err c.in_err-read_version.field-0.0 = search rules in
    rw answer
    (reads_then _ _ _ _ _ _ _ _ c.in_ok-read_signature.field-0 _ c.in_ok-read_signature.ensures.reads c.read_signature.ensures.later
    (reads_first _ _ _ _ _ _ _ c.in_err-read_version.field-0.0 c.in_err-read_version.ensures.reads))

pub returns-clause-reads : goal.returns-clause-reads
unfolding header
returns-clause-reads g c =
    reads_then _ _ _ _ _ _ _ _ c.in_ok-read_signature.field-0 _ c.in_ok-read_signature.ensures.reads c.read_signature.ensures.later
    (reads_then _ _ _ _ _ _ _ _ c.in_ok-read_version.field-0 _ c.in_ok-read_version.ensures.reads c.read_version.ensures.later c.read_count.ensures.reads)
