use Rattle.std.proofs.Common.{◌-◌, ◌^◌}
use Rattle.ancestry.specs.Runs.{is_in}
use Rattle.ancestry.proofs.RunSetLemmas.{Listed}
use Rattle.ancestry.proofs.run_sets.outside.Given as goal

abbrev pub invariant-loop-place : goal.invariant-loop-place
invariant-loop-place l = Listed (is_in l.runs) (is_in l.without) l.places.items l.at

abbrev pub decreases-loop-place : goal.decreases-loop-place
decreases-loop-place l = 2 ^ 32 - l.at
