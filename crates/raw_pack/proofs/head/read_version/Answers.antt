use Rattle.std.proofs.Common.{◌≡◌, ◌==◌, true, false, rules, refl, Err}
use Rattle.raw_pack.specs.Packs.{version}
use Rattle.raw_pack.proofs.ReadLemmas.{reads_gives, reads_fails, reads_first}
use Rattle.raw_pack.proofs.head.read_version.Goals as goal

pub returns-then-number-eq2-clause-reads : goal.returns-then-number-eq2-clause-reads
unfolding version
returns-then-number-eq2-clause-reads g c =
    let same : (c.in_ok-number.number == 2) ≡ true = search rules in
    reads_gives _ _ _ _ _ _ c.in_ok-number.number tt (rw same) c.in_ok-number.ensures.reads

pub returns-clause-reads : goal.returns-clause-reads
unfolding version
returns-clause-reads g c =
    let other : (c.in_ok-number.number == 2) ≡ false = search rules in
    reads_fails _ _ _ _ _ _ c.in_ok-number.number _ refl (rw other) c.in_ok-number.ensures.reads

pub returns-in_err-number-clause-reads : goal.returns-in_err-number-clause-reads
unfolding version
returns-in_err-number-clause-reads g c =
    let answer : c.from_residual.result ≡ Err c.in_err-number.field-0.0 = search rules in
    rw answer (reads_first _ _ _ _ _ _ _ c.in_err-number.field-0.0 c.in_err-number.ensures.reads)
