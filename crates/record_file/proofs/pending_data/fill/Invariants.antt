use Rattle.std.proofs.Common.{◌≡◌, ℕ, ◌+◌, ◌<◌, ◌≤◌, get_or, length}
use Rattle.record_file.proofs.pending_data.fill.Given as goal

abbrev pub invariant-loop-place : goal.invariant-loop-place
invariant-loop-place l = record {
  long : length l.image.items ≡ length l.initial.image.items;
  others : (k : ℕ) → ((l.at ≤ k) × (k < l.at + l.count) → ⊥) → get_or l.image.items k 0 ≡ get_or l.initial.image.items k 0;
}
