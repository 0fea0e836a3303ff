use Rattle.std.proofs.Common.{◌<◌, ◌∙◌, ℕ, List, get_or, subst, sym, arith}
use Rattle.record_file.proofs.ReadLemmas.{head_found, head_fault, at_most, either_enough}
use Rattle.record_file.proofs.reader.check_head.Goals as goal

pub returns-in-Err-clause-head : goal.returns-in-Err-clause-head
returns-in-Err-clause-head g c t = c.in-Err.ensures.head _ _ _

pub returns-in-Ok-split_head-clause-head : goal.returns-in-Ok-split_head-clause-head
returns-in-Ok-split_head-clause-head g c t =
    let read = rw c.in-Ok-split_head.is at c.split_head.ensures in
    head_found c.args.magic.now c.args.name.now c.deref-2.result.now _ c.min-count.result (c.deref-2.ensures.value ∙ c.in-Ok.ensures.bytes t)
    (omega (arith, at_most _ _ _ c.min-count.ensures, c.requires.size, g.met.D.Disk.size_told c.args.disk.now t)) c.in-Ok-split_head.rest.now read.0 read.1

pub returns-clause-head : goal.returns-clause-head
returns-clause-head g c t =
    let read = rw c.in-Err-split_head.is at c.split_head.ensures in
    let told = g.met.D.Disk.size_told c.args.disk.now t in
    let fits : (i : ℕ) → get_or c.deref-2.result.now i 0 < 256 = subst (λ (l : List ℕ). (i : ℕ) → get_or l i 0 < 256) (c.deref.ensures.value ∙ sym c.deref-2.ensures.value) c.bytes_fit.ensures in
    head_fault c.args.magic.now c.args.name.now c.deref-2.result.now _ c.min-count.result c.in-Err-split_head.fault (c.deref-2.ensures.value ∙ c.in-Ok.ensures.bytes t)
    (omega (arith, at_most _ _ _ c.min-count.ensures, c.requires.size, told)) (omega (arith, c.requires.some, c.requires.size, told)) fits
    (either_enough _ _ _ _ _ _ c.saturating_add.ensures c.min-count.ensures c.requires.size (g.met.D.Disk.size_below c.args.disk.now) told) read
