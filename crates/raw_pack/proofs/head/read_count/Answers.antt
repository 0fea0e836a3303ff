use Rattle.std.proofs.Common.{refl, ◌≡◌, Err, rules}
use Rattle.std.proofs.lemmas.Bool.{lt-ltb, le-ltb}
use Rattle.raw_pack.specs.Packs.{entry_count}
use Rattle.raw_pack.proofs.ReadLemmas.{reads_gives, reads_fails, reads_first}
use Rattle.raw_pack.proofs.head.read_count.Goals as goal

pub returns-then-number-gt-MAX_ENTRIES-clause-reads : goal.returns-then-number-gt-MAX_ENTRIES-clause-reads
unfolding entry_count
returns-then-number-gt-MAX_ENTRIES-clause-reads g c =
    reads_fails _ _ _ _ _ _ c.in_ok-number.number _ refl (rw (lt-ltb 100000 c.in_ok-number.number c.if-number-gt-MAX_ENTRIES.true)) c.in_ok-number.ensures.reads

pub returns-clause-reads : goal.returns-clause-reads
unfolding entry_count
returns-clause-reads g c =
    reads_gives _ _ _ _ _ _ c.in_ok-number.number _ (rw (le-ltb 100000 c.in_ok-number.number c.if-number-gt-MAX_ENTRIES.false)) c.in_ok-number.ensures.reads

pub returns-in_err-number-clause-reads : goal.returns-in_err-number-clause-reads
unfolding entry_count
returns-in_err-number-clause-reads g c =
    let answer : c.from_residual.result ≡ Err c.in_err-number.field-0.0 = search rules in
    rw answer (reads_first _ _ _ _ _ _ _ c.in_err-number.field-0.0 c.in_err-number.ensures.reads)
