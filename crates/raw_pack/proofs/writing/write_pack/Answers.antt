use Rattle.std.proofs.Common.{◌≡◌, ℕ, ◌<◌, length, Result, Ok, Err, sym, subst, rules}
use Rattle.std.specs.Prelude.{OnOk}
use Rattle.raw_pack.specs.Writing.{objects_at}
use Rattle.raw_pack.proofs.WritingLemmas.{length-objects_at, pack_cut_in_header, pack_cut_in_entries, pack_ended}
use Rattle.raw_pack.proofs.writing.write_pack.Goals as goal

pub returns-in_err-write_header-clause-writes : goal.returns-in_err-write_header-clause-writes
returns-in_err-write_header-clause-writes g c =
    let answer : c.from_residual.result ≡ Err c.in_err-write_header.field-0.0 = search rules in
    let count : length c.args.places.now ≡ length (objects_at c.args.repo.now.objects c.args.places.now) = sym (length-objects_at c.args.repo.now.objects c.args.places.now c.requires.within) in
    rw answer (pack_cut_in_header _ _ count _ _ _ _ c.in_err-write_header.field-0.0 c.in_err-write_header.ensures.writes)

pub returns-in_err-write_entries-clause-writes : goal.returns-in_err-write_entries-clause-writes
returns-in_err-write_entries-clause-writes g c =
    let answer : c.from_residual-in_err-write_entries.result ≡ Err c.in_err-write_entries.field-0.0 = search rules in
    let count : length c.args.places.now ≡ length (objects_at c.args.repo.now.objects c.args.places.now) = sym (length-objects_at c.args.repo.now.objects c.args.places.now c.requires.within) in
    rw answer
    (pack_cut_in_entries _ _ count _ _ _ _ _ c.in_ok-write_header.ensures.writes c.write_header.ensures.later _ c.in_err-write_entries.field-0.0 c.in_err-write_entries.ensures.writes)

pub returns-clause-writes : goal.returns-clause-writes
returns-clause-writes g c =
    let count : length c.args.places.now ≡ length (objects_at c.args.repo.now.objects c.args.places.now) = sym (length-objects_at c.args.repo.now.objects c.args.places.now c.requires.within) in
    pack_ended _ _ count _ _ _ _ _ c.in_ok-write_header.ensures.writes c.write_header.ensures.later _ _ c.finalize.result c.write_all.result c.new-hasher.ensures c.in_ok-write_entries.ensures.writes c.write_entries.ensures.later
    c.finalize.ensures c.write_all.ensures.writes

on_ok : {V E : Type 0} (P : Type 0) (result : Result V E) → P → OnOk result P
on_ok P (Ok v) holds = holds
on_ok P (Err e) holds = tt

pub returns-clause-packable : goal.returns-clause-packable
returns-clause-packable g c =
    let few : length (objects_at c.args.repo.now.objects c.args.places.now) < 4294967296 =
    subst (λ (n : ℕ). n < 4294967296) (sym (length-objects_at c.args.repo.now.objects c.args.places.now c.requires.within)) c.requires.few in
    on_ok _ c.write_all.result (record { few = few; each = c.in_ok-write_entries.ensures.packable })
