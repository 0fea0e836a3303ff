use Rattle.std.proofs.Common.{◌≡◌, ℕ, ◌<◌, get_or, length}
use Rattle.record_file.specs.Crashes.{IsIn}
use Rattle.record_file.proofs.pending_data.image_of.Given as goal

abbrev pub invariant-loop-at : goal.invariant-loop-at
invariant-loop-at l = record {
  long : length l.image.items ≡ l.high;
  stays : (place : ℕ) → place < l.low → (IsIn place l.ranges → ⊥) → get_or l.image.items place 0 ≡ get_or l.synced place 0;
}
