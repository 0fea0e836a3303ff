use Rattle.std.proofs.Common.{◌≡◌, List, Ok, Err, Result, arith, rules}
use Rattle.git_object.specs.Content.{Content}
use Rattle.pktline_core.specs.LinkState.{LinkState}
use Rattle.pktline_core.proofs.LinkLemmas.{later_more}
use Rattle.raw_pack.specs.Packs.{pack_front}
use Rattle.raw_pack.specs.Reading.{ReadsFront, AnswersLeft}
use Rattle.raw_pack.specs.declared.fault.PackFault.{PackFault}
use Rattle.raw_pack.proofs.PackLemmas.{pack_cut, pack_cut_in_header, signed_both, pack_both, pack_whole_stays, pack_broken_stays}
use Rattle.raw_pack.proofs.ToldLemmas.{told}
use Rattle.raw_pack.proofs.reading.read_pack.Goals as goal

told_pack : (old new : LinkState) (answer : Result (List Content) PackFault) → ReadsFront pack_front old new answer → AnswersLeft pack_front old.left new.left answer
told_pack old new answer r = told pack_front pack_whole_stays pack_broken_stays old new answer r

pub returns-in_err-count-clause-reads : goal.returns-in_err-count-clause-reads
returns-in_err-count-clause-reads g c =
    let answer : c.from_residual.result ≡ Err c.in_err-count.field-0.0 = search rules in
    rw answer (pack_cut_in_header _ _ _ _ c.in_err-count.field-0.0 c.in_err-count.ensures.reads)

pub returns-in_err-count-clause-told : goal.returns-in_err-count-clause-told
returns-in_err-count-clause-told g c = told_pack _ _ _ (returns-in_err-count-clause-reads g c)

pub returns-in_err-objects-clause-reads : goal.returns-in_err-objects-clause-reads
returns-in_err-objects-clause-reads g c =
    let answer : c.from_residual-in_err-objects.result ≡ Err c.in_err-objects.field-0.0 = search rules in
    rw answer
    (pack_cut _ _ _ _ c.in_err-objects.field-0.0
    (signed_both _ _ _ _ _ _ c.in_ok-count.count _ c.in_ok-count.ensures.reads c.read_header.ensures.later c.in_err-objects.ensures.reads))

pub returns-in_err-objects-clause-told : goal.returns-in_err-objects-clause-told
returns-in_err-objects-clause-told g c = told_pack _ _ _ (returns-in_err-objects-clause-reads g c)

pub returns-in-Ok-clause-reads : goal.returns-in-Ok-clause-reads
returns-in-Ok-clause-reads g c =
    pack_both _ _ _ _ _ _ _ _ (Ok tt)
    (signed_both _ _ _ _ _ _ c.in_ok-count.count _ c.in_ok-count.ensures.reads c.read_header.ensures.later c.in_ok-objects.ensures.reads)
    (later_more _ _ _ c.read_header.ensures.later c.read_entries.ensures.later) c.new-hasher.ensures c.finalize.ensures c.in_ok-objects.ensures.all c.in-Ok.ensures.reads

pub returns-in-Ok-clause-told : goal.returns-in-Ok-clause-told
returns-in-Ok-clause-told g c = told_pack _ _ _ (returns-in-Ok-clause-reads g c)

pub returns-in-Err-clause-reads : goal.returns-in-Err-clause-reads
returns-in-Err-clause-reads g c =
    pack_both _ _ _ _ _ _ _ _ (Err c.in-Err.fault)
    (signed_both _ _ _ _ _ _ c.in_ok-count.count _ c.in_ok-count.ensures.reads c.read_header.ensures.later c.in_ok-objects.ensures.reads)
    (later_more _ _ _ c.read_header.ensures.later c.read_entries.ensures.later) c.new-hasher.ensures c.finalize.ensures c.in_ok-objects.ensures.all c.in-Err.ensures.reads

pub returns-in-Err-clause-told : goal.returns-in-Err-clause-told
returns-in-Err-clause-told g c = told_pack _ _ _ (returns-in-Err-clause-reads g c)

pub returns-in-Ok-clause-fit : goal.returns-in-Ok-clause-fit
returns-in-Ok-clause-fit g c = record { few = omega (arith, c.in_ok-objects.ensures.all, c.in_ok-count.ensures.few); formed = c.in_ok-objects.ensures.formed; light = c.in_ok-objects.ensures.light }
