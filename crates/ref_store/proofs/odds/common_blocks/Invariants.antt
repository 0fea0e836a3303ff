use Rattle.std.proofs.Common.{◌≡◌, ◌+◌, ◌-◌, ◌≤◌, drop, length}
use Rattle.ref_store.specs.Odds.{common}
use Rattle.ref_store.proofs.odds.common_blocks.Given as goal

abbrev pub invariant-loop-at : goal.invariant-loop-at
invariant-loop-at l = (l.at ≤ length l.first) × (common l.first l.second ≡ l.at + common (drop l.at l.first) (drop l.at l.second))

abbrev pub decreases-loop-at : goal.decreases-loop-at
decreases-loop-at l = length l.first - l.at
