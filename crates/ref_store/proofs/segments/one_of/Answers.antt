use Rattle.std.proofs.Common.{◌++◌, take, ◌∙◌, ap}
use Rattle.ref_store.specs.Segments.{all_of}
use Rattle.ref_store.proofs.SegmentLemmas.{one_more_of}
use Rattle.ref_store.proofs.segments.one_of.Goals as goal

pub loop-segment-preserved : goal.loop-segment-preserved
loop-segment-preserved c =
    let i = c.loop-segment.segment-index in
    let ss = c.args.segments.now in
    c.in_ok-table-2.ensures
    ∙ ap (λ os. os ++ c.objects.result.now) c.loop-segment.invariant
    ∙ ap (λ os. all_of (take i ss) ++ os) (c.objects.ensures ∙ c.table.ensures)
    ∙ one_more_of ss i c.segment-item.result c.loop-segment-test.true c.segment-item.is
