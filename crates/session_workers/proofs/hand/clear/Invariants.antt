use Rattle.std.proofs.Common.{◌≡◌, ◌<◌, ℕ}
use Rattle.std.specs.Prelude.{slice_index_or}
use Rattle.session_workers.specs.Passes.{IsIdle}
use Rattle.session_workers.proofs.hand.clear.Given as goal

abbrev pub invariant-loop-place : goal.invariant-loop-place
invariant-loop-place g l = record {
  doors : (k : ℕ) (d : _) → (slice_index_or l.posts k d).door ≡ (slice_index_or l.initial.posts k d).door;
  idle : (k : ℕ) (d : _) → k < l.place → IsIdle (slice_index_or l.posts k d);
}
