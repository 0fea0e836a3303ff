use Rattle.std.proofs.Common.{◌≡◌, Some, Err, get_or, sym, ◌∙◌, rules}
use Rattle.std.specs.Prelude.{slice_get}
use Rattle.pktline_core.proofs.LinkLemmas.{later_more, reading_more}
use Rattle.raw_pack.proofs.WritingLemmas.{entries_broken, entries_go_on, packable_more}
use Rattle.raw_pack.proofs.writing.write_entries.Goals as goal

pub returns-in_err-write_entry-clause-writes : goal.returns-in_err-write_entry-clause-writes
returns-in_err-write_entry-clause-writes g c =
    let answer : c.from_residual.result ≡ Err c.in_err-write_entry.field-0.0 = search rules in
    let is : slice_get c.args.repo.now.objects (get_or c.args.places.now c.loop-place.place-index 0) ≡ Some c.in-Some.object.now = sym c.in-Some.ensures in
    rw answer
    (entries_broken _ _ c.loop-place.place-index c.in-Some.object.now c.loop-place-test.true is _ _ _ _ _ _ c.loop-place.invariant.writes c.loop-place.invariant.later c.in_err-write_entry.field-0.0 c.in_err-write_entry.ensures.writes)

pub loop-place-preserved : goal.loop-place-preserved
loop-place-preserved g c =
    let is : slice_get c.args.repo.now.objects (get_or c.args.places.now c.loop-place.place-index 0) ≡ Some c.in-Some.object.now = sym c.in-Some.ensures in
    record {
      writes = entries_go_on _ _ c.loop-place.place-index c.in-Some.object.now c.loop-place-test.true is _ _ _ _ _ _ c.loop-place.invariant.writes c.loop-place.invariant.later c.in_ok-write_entry.ensures.writes;
      packable = packable_more _ _ c.loop-place.place-index c.in-Some.object.now c.loop-place-test.true is c.loop-place.invariant.packable c.write_entry.ensures.packable;
      tells = c.in_ok-write_entry.ensures.tells ∙ c.loop-place.invariant.tells;
      reading = reading_more _ _ _ c.loop-place.invariant.reading c.write_entry.ensures.reading;
      later = later_more _ _ _ c.loop-place.invariant.later c.write_entry.ensures.later;
    }
