use Rattle.ref_store.proofs.SegmentLemmas.{Joined}
use Rattle.ref_store.proofs.segments.Segments.staying.Given as goal

abbrev pub invariant-loop-at : goal.invariant-loop-at
invariant-loop-at l = Joined l.self-inside.segments.items l.fresh l.at l.size

abbrev pub decreases-loop-at : goal.decreases-loop-at
decreases-loop-at l = l.at
