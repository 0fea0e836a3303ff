use Rattle.std.proofs.Common.{◌≡◌, ◌/◌, ◌%◌, true, false, Some, None, refl, arith, Err, rules}
use Rattle.std.proofs.lemmas.Bool.{lt-ltb, le-ltb}
use Rattle.raw_pack.specs.Packs.{entry_head, is_too_large, kind_of_bits}
use Rattle.raw_pack.proofs.ReadLemmas.{reads_gives, reads_fails, reads_first, reads_then}
use Rattle.raw_pack.proofs.head.read_entry_head.Goals as goal

pub returns-in_err-first-clause-reads : goal.returns-in_err-first-clause-reads
unfolding entry_head
returns-in_err-first-clause-reads g c =
    let answer : c.from_residual.result ≡ Err c.in_err-first.field-0.0 = search rules in
    rw answer (reads_first _ _ _ _ _ _ _ c.in_err-first.field-0.0 c.in_err-first.ensures.reads)

pub returns-then-bits-gt5-clause-reads : goal.returns-then-bits-gt5-clause-reads
unfolding entry_head
returns-then-bits-gt5-clause-reads g c =
    let none : kind_of_bits (c.in_ok-first.first / 16 % 8) ≡ None = cc in
    reads_fails _ _ _ _ _ _ c.in_ok-first.first _ refl (rw (none, lt-ltb 5 (c.in_ok-first.first / 16 % 8) c.if-bits-gt5.true)) c.in_ok-first.ensures.reads

pub returns-in_default-clause-reads : goal.returns-in_default-clause-reads
unfolding entry_head
returns-in_default-clause-reads g c =
    let none : kind_of_bits (c.in_ok-first.first / 16 % 8) ≡ None = cc in
    reads_fails _ _ _ _ _ _ c.in_ok-first.first _ refl (rw (none, le-ltb 5 (c.in_ok-first.first / 16 % 8) c.if-bits-gt5.false)) c.in_ok-first.ensures.reads

pub returns-then-first-gt127-clause-reads : goal.returns-then-first-gt127-clause-reads
unfolding entry_head
returns-then-first-gt127-clause-reads g c =
    let some : kind_of_bits (c.in_ok-first.first / 16 % 8) ≡ Some c.in-Some.kind = cc in
    let low : c.from-low.result ≡ c.in_ok-first.first % 16 = cc in
    reads_then _ _ _ _ _ _ _ _ c.in_ok-first.first _ c.in_ok-first.ensures.reads c.take_byte.ensures.later
    (rw (some, le-ltb c.in_ok-first.first 128 (omega arith), ← low) c.read_more_size.ensures.reads)

pub returns-then-too_large-clause-reads : goal.returns-then-too_large-clause-reads
unfolding entry_head
returns-then-too_large-clause-reads g c =
    let some : kind_of_bits (c.in_ok-first.first / 16 % 8) ≡ Some c.in-Some.kind = cc in
    let low : c.from-low.result ≡ c.in_ok-first.first % 16 = cc in
    let large : is_too_large c.args.sum c.from-low.result ≡ true = cc in
    reads_fails _ _ _ _ _ _ c.in_ok-first.first _ refl (rw (some, lt-ltb c.in_ok-first.first 128 (omega arith), ← low, large)) c.in_ok-first.ensures.reads

pub returns-clause-reads : goal.returns-clause-reads
unfolding entry_head
returns-clause-reads g c =
    let some : kind_of_bits (c.in_ok-first.first / 16 % 8) ≡ Some c.in-Some.kind = cc in
    let low : c.from-low.result ≡ c.in_ok-first.first % 16 = cc in
    let small : is_too_large c.args.sum c.from-low.result ≡ false = cc in
    reads_gives _ _ _ _ _ _ c.in_ok-first.first _ (rw (some, lt-ltb c.in_ok-first.first 128 (omega arith), ← low, small)) c.in_ok-first.ensures.reads
