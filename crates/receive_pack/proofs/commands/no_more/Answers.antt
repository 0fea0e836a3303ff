use Rattle.interaction_tree.proofs.RunLemmas.{runs_gives}
use Rattle.session_core.proofs.StepLemmas.{refused}
use Rattle.receive_pack.proofs.commands.no_more.Goals as goal

pub returns-in-None-clause-runs : goal.returns-in-None-clause-runs
returns-in-None-clause-runs g c = λ desk. rw c.in-None.is (runs_gives _ desk _)

pub returns-in-Some-clause-runs : goal.returns-in-Some-clause-runs
returns-in-Some-clause-runs g c = λ desk. rw c.in-Some.is (refused _ _ desk _ _ _ (c.refuse.ensures.runs desk))
