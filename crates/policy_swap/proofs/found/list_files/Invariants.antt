use Rattle.std.proofs.Common.{◌≡◌, ◌++◌}
use Rattle.std.specs.FinMap as named
use Rattle.policy_swap.specs.Found.{listed}
use Rattle.policy_swap.proofs.found.list_files.Given as goal

abbrev pub invariant-loop-name : goal.invariant-loop-name
invariant-loop-name l = l.list ++ listed l.name-iterator ≡ listed (named.entries l.files)
