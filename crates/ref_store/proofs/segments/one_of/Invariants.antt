use Rattle.std.proofs.Common.{◌≡◌, take}
use Rattle.ref_store.specs.Segments.{all_of}
use Rattle.ref_store.proofs.segments.one_of.Given as goal

abbrev pub invariant-loop-segment : goal.invariant-loop-segment
invariant-loop-segment l = l.table ≡ all_of (take l.segment-index l.segments)
