use Rattle.std.proofs.Common.{drop}
use Rattle.ref_store.specs.Segments.{all_of}
use Rattle.ref_store.proofs.SegmentLemmas.{Looked}
use Rattle.ref_store.proofs.segments.Segments.before.Given as goal

abbrev pub invariant-loop-segment : goal.invariant-loop-segment
invariant-loop-segment l = Looked (all_of l.self) (all_of (drop l.segment-index l.self)) l.id l.among l.earlier
