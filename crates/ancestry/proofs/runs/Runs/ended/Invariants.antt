use Rattle.std.proofs.Common.{ℕ, ◌-◌, ◌<◌, ◌≤◌, length, get_or}
use Rattle.ancestry.specs.declared.runs.Run.{Run}
use Rattle.ancestry.proofs.runs.Runs.ended.Given as goal

abbrev pub invariant-loop-low : goal.invariant-loop-low
invariant-loop-low l = record {
  order : l.low ≤ l.high;
  within : l.high ≤ length l.self;
  before : (k : ℕ) (d : Run) → k < l.low → (get_or l.self k d).to ≤ l.at;
  behind : (k : ℕ) (d : Run) → l.high ≤ k → k < length l.self → l.at < (get_or l.self k d).to;
}

abbrev pub decreases-loop-low : goal.decreases-loop-low
decreases-loop-low l = l.high - l.low
