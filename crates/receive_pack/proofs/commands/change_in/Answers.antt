use Rattle.std.proofs.Common.{sym}
use Rattle.interaction_tree.proofs.RunLemmas.{runs_memory}
use Rattle.session_core.proofs.StepLemmas.{malformed_here}
use Rattle.receive_pack.proofs.commands.change_in.Goals as goal

pub returns-in-Ok-None-clause-runs : goal.returns-in-Ok-None-clause-runs
returns-in-Ok-None-clause-runs g c = λ desk. let is = rw c.in-Ok-None.field-0-is at c.in-Ok-None.ensures.command in rw (sym is) (malformed_here _ _ desk _ _ (c.malformed.ensures.runs desk))

pub returns-in-Err-clause-runs : goal.returns-in-Err-clause-runs
returns-in-Err-clause-runs g c = λ desk. runs_memory _ desk _
