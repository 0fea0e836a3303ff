use Rattle.std.proofs.lemmas.Result.{err_from_is_err_and}
use Rattle.interaction_tree.specs.Interaction.{◌>>=◌}
use Rattle.session_core.proofs.RulebookLemmas.{exits_by, exits_first, goes_by, goes_first}
use Rattle.session_core.proofs.GateLemmas.{calls_none, calls_one}
use Rattle.upload_pack.specs.Uploading.{uploading}
use Rattle.git_session.specs.Session.{fetched, fetching_from}
use Rattle.git_session.proofs.FetchLemmas.{fetch_ends}
use Rattle.git_session.proofs.serving.fetch_from.Goals as goal

pub returns-in_err-pin-clause-runs : goal.returns-in_err-pin-clause-runs
unfolding fetching_from
returns-in_err-pin-clause-runs g c =
    let p = err_from_is_err_and c.from_residual.result c.from_residual.ensures.1 in
    exits_by _ _ _ _ _ (λ book opening. uploading opening c.args.reader.now.offset >>= fetched) c.enter.result _ _ _ c.in_err-pin.was p.1 p.2 c.enter.ensures.runs

pub returns-in_err-end-clause-runs : goal.returns-in_err-end-clause-runs
unfolding fetching_from
returns-in_err-end-clause-runs g c =
    let p = err_from_is_err_and c.from_residual-in_err-end.result c.from_residual-in_err-end.ensures.1 in
    goes_by _ _ _ _ _ (λ book opening. uploading opening c.args.reader.now.offset >>= fetched) c.enter.result _ _ c.in_ok-pin.pin _ c.in_ok-pin.was c.enter.ensures.runs
    (exits_first _ _ _ _ (λ book end. fetched end) c.upload.result _ _ _ c.in_err-end.was p.1 p.2 (c.upload.ensures.runs _))

pub returns-clause-runs : goal.returns-clause-runs
unfolding fetching_from
returns-clause-runs g c =
    goes_by _ _ _ _ _ (λ book opening. uploading opening c.args.reader.now.offset >>= fetched) c.enter.result _ _ c.in_ok-pin.pin _ c.in_ok-pin.was c.enter.ensures.runs
    (goes_first _ _ _ _ (λ book end. fetched end) c.upload.result _ _ c.in_ok-end.end _ c.in_ok-end.was (c.upload.ensures.runs _) (fetch_ends _ _ c.in_ok-end.end _ c.fetched.ensures))

pub returns-in_err-pin-clause-gates : goal.returns-in_err-pin-clause-gates
returns-in_err-pin-clause-gates g c = calls_none _ _ _ _ (rw c.in_err-pin.was at c.enter.ensures.lets_in)

pub returns-in_err-end-clause-gates : goal.returns-in_err-end-clause-gates
returns-in_err-end-clause-gates g c =
    calls_one _ _ _ _ _ c.in_ok-pin.pin.place (rw c.in_ok-pin.was at c.enter.ensures.lets_in) (rw (c.place.ensures, c.in_ok-pin.ensures.same) at c.between.ensures)

pub returns-clause-gates : goal.returns-clause-gates
returns-clause-gates g c =
    calls_one _ _ _ _ _ c.in_ok-pin.pin.place (rw c.in_ok-pin.was at c.enter.ensures.lets_in) (rw (c.place.ensures, c.in_ok-pin.ensures.same) at c.between.ensures)
