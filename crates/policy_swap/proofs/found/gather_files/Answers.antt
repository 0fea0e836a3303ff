use Rattle.policy_swap.proofs.FoundLemmas.{gathered_none}
use Rattle.policy_swap.proofs.found.gather_files.Goals as goal

pub loop-row-init : goal.loop-row-init
loop-row-init c = gathered_none c.new-files.result c.new-files.ensures
