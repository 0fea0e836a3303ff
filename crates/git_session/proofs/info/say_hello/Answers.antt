use Rattle.session_core.proofs.StepLemmas.{lacks}
use Rattle.git_session.proofs.info.say_hello.Goals as goal

pub returns-in_err-text-clause-runs : goal.returns-in_err-text-clause-runs
returns-in_err-text-clause-runs g c = λ desk. lacks _ desk _ c.from_residual.result c.from_residual.ensures.1

pub returns-clause-runs : goal.returns-clause-runs
returns-clause-runs g c = λ desk. rw (c.deref.ensures.value, c.in_ok-text.ensures.text) at (c.say.ensures.runs desk)
