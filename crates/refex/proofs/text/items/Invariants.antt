use Rattle.std.proofs.Common.{◌≡◌, ◌≤◌, ◌-◌, ◌++◌, length, drop, map}
use Rattle.refex.specs.Items.{placed_of}
use Rattle.refex.specs.Text.{items, items_from}
use Rattle.refex.proofs.text.items.Given as goal

abbrev pub invariant-loop-i : goal.invariant-loop-i
invariant-loop-i l = record {
  within : l.i ≤ length l.text;
  rest : items l.fn.hole l.text ≡ map placed_of l.tokens.items ++ items_from l.hole l.i 0 (drop l.i l.text);
}

abbrev pub decreases-loop-i : goal.decreases-loop-i
decreases-loop-i l = length l.text - l.i
