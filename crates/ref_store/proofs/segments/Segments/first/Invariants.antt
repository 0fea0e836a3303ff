use Rattle.std.proofs.Common.{◌≡◌, drop}
use Rattle.ref_store.specs.Objects.{first_named}
use Rattle.ref_store.specs.Segments.{all_of}
use Rattle.ref_store.proofs.segments.Segments.first.Given as goal

abbrev pub invariant-loop-segment : goal.invariant-loop-segment
invariant-loop-segment l = first_named (all_of l.self) l.id ≡ first_named (all_of (drop l.segment-index l.self)) l.id
