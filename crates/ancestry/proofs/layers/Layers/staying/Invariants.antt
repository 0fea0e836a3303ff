use Rattle.std.proofs.Common.{◌≤◌, length}
use Rattle.ancestry.proofs.layers.Layers.staying.Given as goal

abbrev pub invariant-loop-at : goal.invariant-loop-at
invariant-loop-at g l = l.at ≤ length l.self-inside.layers.items

abbrev pub decreases-loop-at : goal.decreases-loop-at
decreases-loop-at g l = l.at
