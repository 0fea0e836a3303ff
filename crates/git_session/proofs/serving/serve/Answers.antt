use Rattle.std.proofs.Common.{refl}
use Rattle.session_core.proofs.GateLemmas.{calls_none, lets_in_none}
use Rattle.std.proofs.lemmas.Result.{err_from_is_err_and}
use Rattle.session_core.proofs.RulebookLemmas.{exits_at_by, goes_at_by}
use Rattle.git_session.specs.Session.{served, serving}
use Rattle.git_session.proofs.serving.serve.Goals as goal

pub returns-in_err-asked-clause-runs : goal.returns-in_err-asked-clause-runs
unfolding served
returns-in_err-asked-clause-runs g c =
    let p = err_from_is_err_and c.from_residual.result c.from_residual.ensures.1 in
    exits_at_by _ _ _ _ (λ book first. serving book _ first.0.user first.0.service first.1) c.ask.result _ _ _ _ c.in_err-asked.was p.1 p.2 (c.ask.ensures.runs _)

pub returns-clause-runs : goal.returns-clause-runs
unfolding served
returns-clause-runs g c =
    goes_at_by _ _ _ _ (λ book first. serving book _ first.0.user first.0.service first.1) c.ask.result _ _ _ c.in_ok-asked.asked _ c.in_ok-asked.was (c.ask.ensures.runs _) c.serve_asked.ensures.runs

pub returns-in_err-asked-clause-goes : goal.returns-in_err-asked-clause-goes
returns-in_err-asked-clause-goes g c = g.met.K.Desk.stays c.args.desk.now

pub returns-in_err-asked-clause-gates : goal.returns-in_err-asked-clause-gates
returns-in_err-asked-clause-gates g c = calls_none _ _ _ _ (lets_in_none _ _ refl)

pub returns-clause-gates : goal.returns-clause-gates
returns-clause-gates g c = rw c.in_ok-asked.ensures.writing.written at c.serve_asked.ensures.gates
