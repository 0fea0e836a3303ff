use Rattle.std.proofs.Common.{◌≡◌, ◌++◌, length-append, ℕ, List, length, take, arith, ◌∙◌, ap}
use Rattle.std.proofs.lemmas.List.{take_at, with_items_is}
use Rattle.pktline_core.proofs.LawLemmas.{told}
use Rattle.pktline_core.proofs.PacketLemmas.{fault_read, flush_read, line_read, line_cut}
use Rattle.pktline_core.proofs.reading.PktReader.advance.Goals as goal

pub returns-in-Err-clause-reads : goal.returns-in-Err-clause-reads
returns-in-Err-clause-reads g c = fault_read _ _ c.in-Err.fault c.in-Err.ensures.reads

pub returns-in-Err-clause-told : goal.returns-in-Err-clause-told
returns-in-Err-clause-told g c = told _ _ _ (returns-in-Err-clause-reads g c)

pub returns-in-Err-take_all-clause-reads : goal.returns-in-Err-take_all-clause-reads
returns-in-Err-take_all-clause-reads g c =
    let h = line_cut _ _ _ c.in-Line.size c.take_all.new.room (rw c.in-Line.is at c.in-Ok.ensures.reads) c.read_head.ensures.later (c.take_all.auto.room ∙ c.split_at_mut.ensures.front_len) c.in-Err-take_all.fault c.in-Err-take_all.ensures.takes in
    rw c.into.ensures h

pub returns-in-Err-take_all-clause-told : goal.returns-in-Err-take_all-clause-told
returns-in-Err-take_all-clause-told g c = told _ _ _ (returns-in-Err-take_all-clause-reads g c)

pub returns-in_default-clause-reads : goal.returns-in_default-clause-reads
returns-in_default-clause-reads g c =
    let len = c.take_all.auto.room ∙ c.split_at_mut.ensures.front_len in
    let back = c.split_at_mut.result.1.now in
    let whole : length (c.take_all.new.room ++ back) ≡ c.self-in-Line.inside.buffer.len = omega (arith, length-append c.take_all.new.room back, len, c.split_at_mut.ensures.back_len, c.deref_mut.ensures.len) in
    line_read _ _ _ c.in-Line.size c.take_all.new.room (rw c.in-Line.is at c.in-Ok.ensures.reads) c.read_head.ensures.later len _ c.in_default.ensures.takes
    (ap (λ (l : List ℕ). take c.in-Line.size l) (with_items_is c.self-in-Line.inside.buffer (c.take_all.new.room ++ back) whole) ∙ take_at c.take_all.new.room back c.in-Line.size len)

pub returns-in_default-clause-told : goal.returns-in_default-clause-told
returns-in_default-clause-told g c = told _ _ _ (returns-in_default-clause-reads g c)

pub returns-in-Flush-clause-reads : goal.returns-in-Flush-clause-reads
returns-in-Flush-clause-reads g c = flush_read _ _ (rw c.in-Flush.is at c.in-Ok.ensures.reads)

pub returns-in-Flush-clause-told : goal.returns-in-Flush-clause-told
returns-in-Flush-clause-told g c = told _ _ _ (returns-in-Flush-clause-reads g c)
