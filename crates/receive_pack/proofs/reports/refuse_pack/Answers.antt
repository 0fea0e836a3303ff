use Rattle.interaction_tree.specs.Interaction.{ends}
use Rattle.interaction_tree.proofs.RunLemmas.{runs_ends}
use Rattle.session_core.specs.declared.end.SessionEnd.TheVariants.{BadPack}
use Rattle.receive_pack.specs.Receiving.{refusing_pack}
use Rattle.session_core.proofs.StepLemmas.{goes, halts}
use Rattle.receive_pack.proofs.reports.refuse_pack.Goals as goal

pub returns-in-Ok-clause-runs : goal.returns-in-Ok-clause-runs
unfolding refusing_pack
returns-in-Ok-clause-runs g c = λ desk. goes _ _ desk desk _ (λ u. ends (BadPack c.args.fault)) c.tell_fault.result _ desk c.in-Ok.field-0 _ c.in-Ok.is (c.tell_fault.ensures.runs desk) (runs_ends _ desk (BadPack c.args.fault))

pub returns-in-Err-clause-runs : goal.returns-in-Err-clause-runs
unfolding refusing_pack
returns-in-Err-clause-runs g c = λ desk. halts _ _ desk desk _ (λ u. ends (BadPack c.args.fault)) c.tell_fault.result c.in-Err.end c.in-Err.is (c.tell_fault.ensures.runs desk)
