use Rattle.std.proofs.Common.{◌≡◌, drop}
use Rattle.std.specs.Prelude.{slice_get}
use Rattle.ref_store.specs.Segments.{all_of}
use Rattle.ref_store.proofs.segments.Segments.get.Given as goal

abbrev pub invariant-loop-segment : goal.invariant-loop-segment
invariant-loop-segment l = slice_get (all_of l.self) l.at ≡ slice_get (all_of (drop l.segment-index l.self)) l.left
