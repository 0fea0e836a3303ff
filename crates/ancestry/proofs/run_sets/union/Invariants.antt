use Rattle.std.proofs.Common.{◌-◌, ◌^◌}
use Rattle.ancestry.specs.Runs.{is_in, is_in_one}
use Rattle.ancestry.proofs.RunSetLemmas.{Taken}
use Rattle.ancestry.proofs.run_sets.union.Given as goal

abbrev pub invariant-loop-from : goal.invariant-loop-from
invariant-loop-from l = Taken (is_in_one l.one l.other) (is_in l.both) l.at

abbrev pub decreases-loop-from : goal.decreases-loop-from
decreases-loop-from l = 2 ^ 32 - l.at
