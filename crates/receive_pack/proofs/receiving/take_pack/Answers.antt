use Rattle.interaction_tree.proofs.RunLemmas.{runs_gives}
use Rattle.receive_pack.specs.Receiving.{taking_pack}
use Rattle.receive_pack.proofs.receiving.take_pack.Goals as goal

pub returns-then-all_delete-clause-runs : goal.returns-then-all_delete-clause-runs
unfolding taking_pack
returns-then-all_delete-clause-runs g c = λ desk. rw (← c.all_delete.ensures, c.if-all_delete.true, c.new.ensures) (runs_gives _ desk _)
