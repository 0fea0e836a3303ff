use Rattle.std.proofs.lemmas.Result.{err_from_is_err_and}
use Rattle.session_core.proofs.StepLemmas.{says, says_exits}
use Rattle.upload_pack.proofs.AdvertisingLemmas.{said_alone}
use Rattle.upload_pack.proofs.advertising.end_advertisement.Goals as goal

pub returns-in_err-say_ref-clause-runs : goal.returns-in_err-say_ref-clause-runs
returns-in_err-say_ref-clause-runs g c = λ desk.
    let p = err_from_is_err_and c.from_residual.result c.from_residual.ensures.1 in
    rw c.if-none.true (says_exits _ _ desk _ _ c.say_ref.result _ _ _ c.in_err-say_ref.was p.1 p.2 (said_alone _ _ desk _ _ (rw c.zero.ensures at (c.say_ref.ensures.runs desk))))

pub returns-then-none-clause-runs : goal.returns-then-none-clause-runs
returns-then-none-clause-runs g c = λ desk.
    rw c.if-none.true (says _ _ desk _ _ c.say_ref.result _ _ _ c.in_ok-say_ref.was (said_alone _ _ desk _ _ (rw c.zero.ensures at (c.say_ref.ensures.runs desk))) (c.say_flush.ensures.runs desk))
