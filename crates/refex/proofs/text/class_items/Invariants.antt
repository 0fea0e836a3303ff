use Rattle.std.proofs.Common.{◌≡◌, ◌≤◌, ◌+◌, ◌-◌, ◌==◌, length, drop, true}
use Rattle.refex.specs.ByteSet.{holds}
use Rattle.refex.specs.Items.{on_ok}
use Rattle.refex.specs.Text.{class_items, either_of}
use Rattle.refex.proofs.text.class_items.Given as goal

abbrev pub invariant-loop-i : goal.invariant-loop-i
invariant-loop-i l = record {
  within : l.i ≤ length l.bytes;
  rest : class_items l.at true 0 l.bytes ≡ on_ok (either_of (holds l.set)) (class_items (l.at + l.i) (l.i == 0) 0 (drop l.i l.bytes));
}

abbrev pub decreases-loop-i : goal.decreases-loop-i
decreases-loop-i l = length l.bytes - l.i
