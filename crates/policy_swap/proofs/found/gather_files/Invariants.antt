use Rattle.policy_swap.specs.Found.{AreGathered}
use Rattle.policy_swap.proofs.found.gather_files.Given as goal

abbrev pub invariant-loop-row : goal.invariant-loop-row
invariant-loop-row l = AreGathered l.yielded l.files
