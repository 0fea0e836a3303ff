use Rattle.std.proofs.Common.{◌≡◌, ◌≤◌, ◌-◌, length, drop, map}
use Rattle.refex.specs.Items.{placed_of}
use Rattle.refex.specs.Faults.{closes}
use Rattle.refex.proofs.offences.closes.Given as goal

abbrev pub invariant-loop-i : goal.invariant-loop-i
invariant-loop-i l = record {
  low : l.from ≤ l.i;
  within : l.i ≤ length l.tokens;
  small : l.count ≤ length l.tokens - l.i;
  counted : l.count ≡ closes (drop l.i (map placed_of l.tokens));
}

abbrev pub decreases-loop-i : goal.decreases-loop-i
decreases-loop-i l = l.i
