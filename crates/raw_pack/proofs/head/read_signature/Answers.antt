use Rattle.std.proofs.Common.{◌≡◌, true, false, rules, refl, codes, Err}
use Rattle.std.specs.Str.{bytes_eq}
use Rattle.raw_pack.specs.Packs.{signature}
use Rattle.raw_pack.proofs.ReadLemmas.{reads_gives, reads_fails, reads_first}
use Rattle.raw_pack.proofs.head.read_signature.Goals as goal

pub returns-in_err-take_bytes-clause-reads : goal.returns-in_err-take_bytes-clause-reads
unfolding signature
returns-in_err-take_bytes-clause-reads g c =
    let answer : c.from_residual.result ≡ Err c.in_err-take_bytes.field-0.0 = search rules in
    rw answer (reads_first _ _ _ _ _ _ _ c.in_err-take_bytes.field-0.0 c.in_err-take_bytes.ensures.reads)

pub returns-then-eq-clause-reads : goal.returns-then-eq-clause-reads
unfolding signature
returns-then-eq-clause-reads g c =
    let same : bytes_eq c.take_bytes.new.room (codes "PACK") ≡ true = search rules in
    reads_gives _ _ _ _ _ _ c.take_bytes.new.room tt (rw same) c.in_ok-take_bytes.ensures.reads

pub returns-clause-reads : goal.returns-clause-reads
unfolding signature
returns-clause-reads g c =
    let other : bytes_eq c.take_bytes.new.room (codes "PACK") ≡ false = search rules in
    reads_fails _ _ _ _ _ _ c.take_bytes.new.room _ refl (rw other) c.in_ok-take_bytes.ensures.reads
