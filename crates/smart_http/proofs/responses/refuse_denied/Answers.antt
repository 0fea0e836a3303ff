use Rattle.interaction_tree.proofs.RunLemmas.{runs_memory}
use Rattle.smart_http.proofs.responses.refuse_denied.Goals as goal

pub returns-in-Err-clause-runs : goal.returns-in-Err-clause-runs
returns-in-Err-clause-runs g c = λ desk. runs_memory _ desk _
