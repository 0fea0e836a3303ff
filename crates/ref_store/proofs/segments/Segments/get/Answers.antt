use Rattle.std.proofs.Common.{◌+◌, ◌-◌, ◌<◌, ◌≤◌, drop, length, sym, ◌∙◌, ap, arith}
use Rattle.std.specs.Prelude.{slice_get}
use Rattle.ref_store.specs.Segments.{all_of}
use Rattle.ref_store.proofs.SegmentLemmas.{table_left, get_within, get_past}
use Rattle.ref_store.proofs.segments.Segments.get.Goals as goal

pub returns-then-left-len : goal.returns-then-left-len
returns-then-left-len c =
    let i = c.loop-segment.segment-index in
    let s = c.table-table.result.now in
    let rest = all_of (drop (i + 1) c.args.self.now) in
    let is = table_left c.deref-segment-items.result.now c.args.self.now i c.segment-item.result s (c.deref-segment-items.ensures.value ∙ c.self.view_is) c.loop-segment-test.true c.segment-item.is c.table-table.ensures in
    let below : c.loop-segment.left < length s = omega (arith, c.if-left-len.true, c.len.ensures.len) in
    c.get.ensures ∙ sym (get_within s rest c.loop-segment.left below) ∙ ap (λ os. slice_get os c.loop-segment.left) (sym is) ∙ sym c.loop-segment.invariant

pub loop-segment-preserved : goal.loop-segment-preserved
loop-segment-preserved c =
    let i = c.loop-segment.segment-index in
    let s = c.table-table.result.now in
    let rest = all_of (drop (i + 1) c.args.self.now) in
    let is = table_left c.deref-segment-items.result.now c.args.self.now i c.segment-item.result s (c.deref-segment-items.ensures.value ∙ c.self.view_is) c.loop-segment-test.true c.segment-item.is c.table-table.ensures in
    let past : length s ≤ c.loop-segment.left = omega (arith, c.if-left-len.false, c.len.ensures.len) in
    c.loop-segment.invariant ∙ ap (λ os. slice_get os c.loop-segment.left) is ∙ get_past s rest c.loop-segment.left past ∙ ap (λ n. slice_get rest (c.loop-segment.left - n)) (sym c.len-left.ensures.len)
