use Rattle.std.proofs.Common.{◌≡◌, ◌<◌, ◌≤◌, ℕ, length}
use Rattle.std.specs.Prelude.{IfSome, slice_index_or}
use Rattle.session_workers.specs.Passes.{Follows, IsWhole}
use Rattle.session_workers.proofs.hand.gather.Given as goal

abbrev pub invariant-loop-place : goal.invariant-loop-place
invariant-loop-place g l = record {
  whole : IsWhole l.hub l.fn.first.value.at_new (length l.fn.posts) l.place l.whole;
  doors : (k : ℕ) (d : _) → (slice_index_or l.posts k d).door ≡ (slice_index_or l.fn.posts k d).door;
  left : (k : ℕ) (d : _) → l.place ≤ k → slice_index_or l.posts k d ≡ slice_index_or l.fn.posts k d;
  follows : (k : ℕ) (d : _) → k < l.place → IfSome (slice_index_or l.fn.posts k d).pass (λ pass. Follows k pass l.whole);
}
