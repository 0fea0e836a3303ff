use Rattle.session_core.specs.Asking.{bad_command}
use Rattle.session_core.proofs.StepLemmas.{refused}
use Rattle.session_core.proofs.asking.bad_command.Goals as goal

pub returns-clause-runs : goal.returns-clause-runs
unfolding bad_command
returns-clause-runs g c = λ desk. refused _ _ desk _ _ _ (c.refuse.ensures.runs desk)
