use Rattle.std.proofs.Common.{◌≡◌, ◌<◌, ℕ, length}
use Rattle.std.specs.Prelude.{Some, slice_index_or}
use Rattle.turn_lock.specs.Lock.{first_pass}
use Rattle.session_workers.specs.Passes.{pass_at, place_of}
use Rattle.session_workers.proofs.hand.hand_out.Given as goal

abbrev pub invariant-loop-place : goal.invariant-loop-place
invariant-loop-place g l = record {
  first : l.first ≡ record (first_pass l.hub l.fn.first.at_new) { passes = l.place };
  places : (k : ℕ) (d : _) → place_of (slice_index_or l.posts k d) ≡ place_of (slice_index_or l.initial.posts k d);
  passes : (k : ℕ) (d : _) → 0 < k → k < l.place → (slice_index_or l.posts k d).pass ≡ Some (pass_at l.hub l.fn.first.at_new (length l.initial.posts) k);
}
