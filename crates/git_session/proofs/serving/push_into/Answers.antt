use Rattle.std.proofs.lemmas.Result.{err_from_is_err_and}
use Rattle.session_core.proofs.RulebookLemmas.{exits_by, goes_by}
use Rattle.session_core.proofs.GateLemmas.{calls_none, calls_one, lets_in_more}
use Rattle.receive_pack.specs.Receiving.{receiving}
use Rattle.git_session.specs.Session.{pushing_into}
use Rattle.git_session.proofs.serving.push_into.Goals as goal

pub returns-in_err-pin-clause-runs : goal.returns-in_err-pin-clause-runs
unfolding pushing_into
returns-in_err-pin-clause-runs g c =
    let p = err_from_is_err_and c.from_residual.result c.from_residual.ensures.1 in
    exits_by _ _ _ _ _ (λ book opening. receiving book opening c.args.reader.now.offset) c.enter.result _ _ _ c.in_err-pin.was p.1 p.2 c.enter.ensures.runs

pub returns-clause-runs : goal.returns-clause-runs
unfolding pushing_into
returns-clause-runs g c =
    goes_by _ _ _ _ _ (λ book opening. receiving book opening c.args.reader.now.offset) c.enter.result _ _ c.in_ok-pin.pin _ c.in_ok-pin.was c.enter.ensures.runs c.receive.ensures.runs

pub returns-clause-goes : goal.returns-clause-goes
returns-clause-goes g c = g.met.K.Desk.composes _ _ _ c.enter.ensures.goes c.receive.ensures.goes

pub returns-in_err-pin-clause-gates : goal.returns-in_err-pin-clause-gates
returns-in_err-pin-clause-gates g c = calls_none _ _ _ _ (rw c.in_err-pin.was at c.enter.ensures.lets_in)

pub returns-clause-gates : goal.returns-clause-gates
returns-clause-gates g c =
    calls_one _ _ _ _ _ c.in_ok-pin.pin.place (lets_in_more _ _ _ _ _ (rw c.in_ok-pin.was at c.enter.ensures.lets_in) c.receive.ensures.lets_in)
    (rw (c.place.ensures, c.in_ok-pin.ensures.same) at c.between.ensures)
