use Rattle.std.proofs.lemmas.Result.{err_from_is_err_and}
use Rattle.session_core.proofs.StepLemmas.{says, says_exits}
use Rattle.git_session.proofs.perms.tell_roles.Goals as goal

pub returns-in_err-say_roles-clause-runs : goal.returns-in_err-say_roles-clause-runs
returns-in_err-say_roles-clause-runs g c = λ desk.
    let p = err_from_is_err_and c.from_residual.result c.from_residual.ensures.1 in
    says_exits _ _ desk _ _ c.say_roles.result _ _ _ c.in_err-say_roles.was p.1 p.2 (c.say_roles.ensures.runs desk)

pub returns-clause-runs : goal.returns-clause-runs
returns-clause-runs g c = λ desk. says _ _ desk _ _ c.say_roles.result _ _ _ c.in_ok-say_roles.was (c.say_roles.ensures.runs desk) (c.say_flush.ensures.runs desk)
