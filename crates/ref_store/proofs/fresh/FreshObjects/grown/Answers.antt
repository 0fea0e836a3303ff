use Rattle.std.proofs.Common.{◌++◌, refl, ◌∙◌, ap}
use Rattle.ref_store.specs.Segments.{all_of}
use Rattle.ref_store.specs.Fresh.{Fresh}
use Rattle.ref_store.proofs.SegmentLemmas.{all_added}
use Rattle.ref_store.proofs.fresh.FreshObjects.grown.Goals as goal

pub returns : goal.returns
returns c =
    all_added c.args.segments.now c.in_ok-with-in-None.field-0 c.deref.result.now c.args.self.objects (all_of c.args.segments.now ++ c.args.self.objects) c.in_ok-with-in-None.ensures (c.deref.ensures.value ∙ ap (λ (f : Fresh). f.objects) c.self.view_is) refl
