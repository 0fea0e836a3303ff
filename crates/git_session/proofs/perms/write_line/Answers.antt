use Rattle.std.proofs.lemmas.List.{append-nil}
use Rattle.std.proofs.lemmas.Result.{err_from_is_err_and}
use Rattle.session_core.proofs.StepLemmas.{says, says_exits}
use Rattle.git_session.proofs.perms.write_line.Goals as goal

pub returns-in_err-say-clause-runs : goal.returns-in_err-say-clause-runs
returns-in_err-say-clause-runs g c = λ desk.
    let p = err_from_is_err_and c.from_residual.result c.from_residual.ensures.1 in
    rw append-nil (says_exits _ _ desk _ _ c.say.result _ _ _ c.in_err-say.was p.1 p.2 (c.say.ensures.runs desk))

pub returns-clause-runs : goal.returns-clause-runs
returns-clause-runs g c = λ desk. rw append-nil (says _ _ desk _ _ c.say.result _ _ _ c.in_ok-say.was (c.say.ensures.runs desk) (c.say_flush.ensures.runs desk))
