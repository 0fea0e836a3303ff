use Rattle.std.proofs.Common.{◌++◌, ap}
use Rattle.ref_store.specs.Segments.{all_of}
use Rattle.ref_store.proofs.SegmentLemmas.{all_added}
use Rattle.ref_store.proofs.fresh.FreshObjects.prepared_for.Goals as goal

pub invariant_of-result : goal.invariant_of-result
invariant_of-result c =
    all_added c.args.segments.now c.in_ok-grown.grown c.deref.result.now c.self.inside.objects.items (all_of c.in_ok-before.before ++ c.self.inside.objects.items) c.in_ok-grown.ensures c.deref.ensures.value (ap (λ s. all_of s ++ c.self.inside.objects.items) c.in_ok-before.ensures)
