use Rattle.interaction_tree.specs.Interaction.{ends}
use Rattle.interaction_tree.proofs.RunLemmas.{runs_ends}
use Rattle.session_core.specs.Packets.{refuse}
use Rattle.session_core.proofs.StepLemmas.{goes, halts}
use Rattle.session_core.proofs.packets.refuse.Goals as goal

pub returns-in-Ok-clause-runs : goal.returns-in-Ok-clause-runs
unfolding refuse
returns-in-Ok-clause-runs g c = λ desk. goes _ _ desk desk _ (λ u. ends c.args.end) c.say.result _ desk c.in-Ok.field-0 _ c.in-Ok.is (c.say.ensures.runs desk) (rw c.requires.of_form (runs_ends _ desk c.args.end))

pub returns-in-Err-clause-runs : goal.returns-in-Err-clause-runs
unfolding refuse
returns-in-Err-clause-runs g c = λ desk. halts _ _ desk desk _ (λ u. ends c.args.end) c.say.result c.in-Err.fault c.in-Err.is (c.say.ensures.runs desk)
