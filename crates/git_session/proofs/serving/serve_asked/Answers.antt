use Rattle.session_core.proofs.GateLemmas.{calls_none}
use Rattle.session_core.proofs.RulebookLemmas.{runs_always}
use Rattle.git_session.proofs.serving.serve_asked.Goals as goal

pub returns-in-Permit-clause-runs : goal.returns-in-Permit-clause-runs
returns-in-Permit-clause-runs g c = rw c.in-Permit.is (runs_always _ _ _ _ _ _ c.permit.ensures.runs)

pub returns-in-Permit-clause-gates : goal.returns-in-Permit-clause-gates
returns-in-Permit-clause-gates g c = calls_none _ _ _ _ c.permit.ensures.lets_in

pub returns-clause-gates : goal.returns-clause-gates
returns-clause-gates g c = calls_none _ _ _ _ c.look.ensures.lets_in
