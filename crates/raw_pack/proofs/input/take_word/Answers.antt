use Rattle.std.proofs.Common.{refl, ◌≡◌, Err, rules}
use Rattle.raw_pack.specs.Packs.{word}
use Rattle.raw_pack.proofs.ReadLemmas.{reads_gives, reads_first}
use Rattle.raw_pack.proofs.input.take_word.Goals as goal

pub returns-clause-reads : goal.returns-clause-reads
unfolding word
returns-clause-reads g c = rw c.from_be_bytes.ensures (reads_gives _ _ _ _ _ _ _ _ refl c.in_ok-take_bytes.ensures.reads)

pub returns-in_err-take_bytes-clause-reads : goal.returns-in_err-take_bytes-clause-reads
unfolding word
returns-in_err-take_bytes-clause-reads g c =
    let answer : c.from_residual.result ≡ Err c.in_err-take_bytes.field-0.0 = search rules in
    rw answer (reads_first _ _ _ _ _ _ _ c.in_err-take_bytes.field-0.0 c.in_err-take_bytes.ensures.reads)
