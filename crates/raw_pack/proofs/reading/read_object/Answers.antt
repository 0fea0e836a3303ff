use Rattle.std.proofs.Common.{◌≡◌, length, Err, rules, arith}
use Rattle.std.proofs.lemmas.List.{with_items_is}
use Rattle.raw_pack.specs.declared.fault.PackFault.TheVariants.{NoMemory}
use Rattle.raw_pack.proofs.EntryLemmas.{entry_cut_in_head, entry_lacked, entry_cut, entry_whole, entry_refused}
use Rattle.raw_pack.proofs.reading.read_object.Goals as goal

pub returns-in_err-head-clause-reads : goal.returns-in_err-head-clause-reads
returns-in_err-head-clause-reads g c =
    let answer : c.from_residual.result ≡ Err c.in_err-head.field-0.0 = search rules in
    rw answer (entry_cut_in_head _ _ _ _ _ _ c.in_err-head.field-0.0 c.in_err-head.ensures.reads)

pub returns-in_err-body-clause-reads : goal.returns-in_err-body-clause-reads
returns-in_err-body-clause-reads g c =
    let answer : c.from_residual-in_err-body.result ≡ Err NoMemory = search rules in
    rw answer (entry_lacked _ _ _ _ _ _ _ c.in_ok-head.head c.in_ok-head.ensures.reads)

pub returns-in_err-take_bytes-clause-reads : goal.returns-in_err-take_bytes-clause-reads
returns-in_err-take_bytes-clause-reads g c =
    let answer : c.from_residual-in_err-take_bytes.result ≡ Err c.in_err-take_bytes.field-0.0 = search rules in
    let size : length c.deref_mut.result.now ≡ c.in_ok-head.head.size = search rules in
    rw answer
    (entry_cut _ _ _ _ _ _ _ _ c.in_ok-head.head c.in_ok-head.ensures.reads c.read_entry_head.ensures.later c.in_err-take_bytes.field-0.0 (rw size at c.in_err-take_bytes.ensures.reads))

pub returns-in-Ok-clause-reads : goal.returns-in-Ok-clause-reads
returns-in-Ok-clause-reads g c =
    let size : length c.deref_mut.result.now ≡ c.in_ok-head.head.size = search rules in
    let whole : length c.take_bytes.new.room ≡ c.in_ok-body.body.len = omega (arith, c.take_bytes.auto.room, c.deref_mut.ensures.len) in
    entry_whole _ _ _ _ _ _ _ _ c.in_ok-head.head c.in_ok-head.ensures.reads c.read_entry_head.ensures.later c.take_bytes.new.room _ (with_items_is c.in_ok-body.body c.take_bytes.new.room whole) (rw size at c.in_ok-take_bytes.ensures.reads)
    c.in-Ok.object c.in-Ok.ensures.ok c.in-Ok.ensures.form

pub returns-in-Err-clause-reads : goal.returns-in-Err-clause-reads
returns-in-Err-clause-reads g c =
    let size : length c.deref_mut.result.now ≡ c.in_ok-head.head.size = search rules in
    let whole : length c.take_bytes.new.room ≡ c.in_ok-body.body.len = omega (arith, c.take_bytes.auto.room, c.deref_mut.ensures.len) in
    rw c.object_fault.ensures
    (entry_refused _ _ _ _ _ _ _ _ c.in_ok-head.head c.in_ok-head.ensures.reads c.read_entry_head.ensures.later c.take_bytes.new.room _ (with_items_is c.in_ok-body.body c.take_bytes.new.room whole) (rw size at c.in_ok-take_bytes.ensures.reads)
    c.in-Err.fault c.in-Err.ensures.fault)
