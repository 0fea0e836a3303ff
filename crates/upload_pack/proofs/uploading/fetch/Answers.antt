use Rattle.std.proofs.Common.{sym}
use Rattle.std.proofs.lemmas.Result.{err_from_is_err_and}
use Rattle.session_core.proofs.StepLemmas.{exits_at, goes_at, lacks}
use Rattle.upload_pack.specs.Wants.{not_ours}
use Rattle.upload_pack.specs.Uploading.{fetching, serving, unless_foreign}
use Rattle.upload_pack.proofs.uploading.fetch.Goals as goal

pub returns-in_err-wants-clause-runs : goal.returns-in_err-wants-clause-runs
unfolding fetching
returns-in_err-wants-clause-runs g c = λ desk.
    let p = err_from_is_err_and c.from_residual.result c.from_residual.ensures.1 in
    exits_at _ _ desk desk _ (λ wants. unless_foreign (serving c.args.repo.now wants.0 wants.1) (not_ours c.args.repo.now wants.0)) c.take_wants.result _ _ _ _ c.in_err-wants.was p.1 p.2 (c.take_wants.ensures.runs desk)

pub returns-in-None-clause-runs : goal.returns-in-None-clause-runs
unfolding fetching
returns-in-None-clause-runs g c = λ desk.
    let is = rw (c.in-None.is, c.as_slice.ensures) at c.in_ok-not_ours.ensures in
    goes_at _ _ desk desk _ (λ wants. unless_foreign (serving c.args.repo.now wants.0 wants.1) (not_ours c.args.repo.now wants.0)) c.take_wants.result _ _ desk c.in_ok-wants.wants _ c.in_ok-wants.was (c.take_wants.ensures.runs desk) (rw (sym is) (c.serve.ensures.runs desk))

pub returns-clause-runs : goal.returns-clause-runs
unfolding fetching
returns-clause-runs g c = λ desk.
    let is = rw (c.in-Some.is, c.as_slice.ensures) at c.in_ok-not_ours.ensures in
    goes_at _ _ desk desk _ (λ wants. unless_foreign (serving c.args.repo.now wants.0 wants.1) (not_ours c.args.repo.now wants.0)) c.take_wants.result _ _ desk c.in_ok-wants.wants _ c.in_ok-wants.was (c.take_wants.ensures.runs desk) (rw (sym is) (c.refuse_want.ensures.runs desk))

pub returns-in_err-not_ours-clause-runs : goal.returns-in_err-not_ours-clause-runs
unfolding fetching
returns-in_err-not_ours-clause-runs g c = λ desk.
    goes_at _ _ desk desk _ (λ wants. unless_foreign (serving c.args.repo.now wants.0 wants.1) (not_ours c.args.repo.now wants.0)) c.take_wants.result _ _ desk c.in_ok-wants.wants _ c.in_ok-wants.was (c.take_wants.ensures.runs desk) (lacks _ desk _ c.from_residual-in_err-not_ours.result c.from_residual-in_err-not_ours.ensures.1)
