use Rattle.std.proofs.Common.{rules, ◌≡◌, is_none}
use Rattle.std.proofs.lemmas.Result.{err_from_is_err_and}
use Rattle.session_core.proofs.StepLemmas.{lacks, says, says_exits}
use Rattle.upload_pack.proofs.AdvertisingLemmas.{advertisement_is}
use Rattle.upload_pack.proofs.advertising.advertise.Goals as goal

pub returns-in_err-head-clause-runs : goal.returns-in_err-head-clause-runs
returns-in_err-head-clause-runs g c = λ desk. lacks _ desk _ c.from_residual.result c.from_residual.ensures.1

pub returns-in_err-advertise_head-clause-runs : goal.returns-in_err-advertise_head-clause-runs
returns-in_err-advertise_head-clause-runs g c = λ desk.
    let p = err_from_is_err_and c.from_residual-in_err-advertise_head.result c.from_residual-in_err-advertise_head.ensures.1 in
    rw (advertisement_is c.args.repo.now, ← c.in_ok-head.ensures) (says_exits _ _ desk _ _ c.advertise_head.result _ _ _ c.in_err-advertise_head.was p.1 p.2 (c.advertise_head.ensures.runs desk))

pub returns-clause-runs : goal.returns-clause-runs
returns-clause-runs g c = λ desk.
    let none : c.is_none.result ≡ is_none c.in_ok-head.head = search rules in
    rw (advertisement_is c.args.repo.now, ← c.in_ok-head.ensures) (says _ _ desk _ _ c.advertise_head.result _ _ _ c.in_ok-advertise_head.was (c.advertise_head.ensures.runs desk) (rw none at (c.advertise_refs.ensures.runs desk)))
