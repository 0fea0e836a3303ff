use Rattle.std.proofs.Common.{◌+◌, drop, sym, ◌∙◌}
use Rattle.ref_store.specs.Segments.{all_of}
use Rattle.ref_store.proofs.SegmentLemmas.{table_left, first_past, first_here}
use Rattle.ref_store.proofs.segments.Segments.first.Goals as goal

pub returns-in-Some : goal.returns-in-Some
returns-in-Some c =
    let i = c.loop-segment.segment-index in
    let s = c.table.result.now in
    let is = table_left c.deref-segment-items.result.now c.args.self.now i c.segment-item.result s (c.deref-segment-items.ensures.value ∙ c.self.view_is) c.loop-segment-test.true c.segment-item.is c.table.ensures in
    sym (first_here (all_of c.args.self.now) (all_of (drop i c.args.self.now)) s (all_of (drop (i + 1) c.args.self.now)) c.args.id c.in-Some.object.now is (sym c.in-Some.ensures) c.loop-segment.invariant)

pub loop-segment-preserved : goal.loop-segment-preserved
loop-segment-preserved c =
    let i = c.loop-segment.segment-index in
    let s = c.table.result.now in
    let is = table_left c.deref-segment-items.result.now c.args.self.now i c.segment-item.result s (c.deref-segment-items.ensures.value ∙ c.self.view_is) c.loop-segment-test.true c.segment-item.is c.table.ensures in
    first_past (all_of c.args.self.now) (all_of (drop i c.args.self.now)) s (all_of (drop (i + 1) c.args.self.now)) c.args.id is (sym c.in_default.ensures) c.loop-segment.invariant
