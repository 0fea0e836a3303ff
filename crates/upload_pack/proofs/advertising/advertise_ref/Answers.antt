use Rattle.std.proofs.Common.{sym, ◌∙◌}
use Rattle.std.proofs.lemmas.Result.{err_from_is_err_and}
use Rattle.session_core.proofs.StepLemmas.{says, says_exits}
use Rattle.upload_pack.proofs.AdvertisingLemmas.{ref_then, peeled_then, peeled_none}
use Rattle.upload_pack.proofs.advertising.advertise_ref.Goals as goal

pub returns-in_err-say_ref-clause-runs : goal.returns-in_err-say_ref-clause-runs
returns-in_err-say_ref-clause-runs g c = λ desk.
    let p = err_from_is_err_and c.from_residual.result c.from_residual.ensures.1 in
    ref_then _ _ desk c.args.first (c.args.name.now, c.args.id) _ _ (says_exits _ _ desk _ _ c.say_ref.result _ _ _ c.in_err-say_ref.was p.1 p.2 (rw c.ending.ensures at (c.say_ref.ensures.runs desk)))

pub returns-in-Some-clause-runs : goal.returns-in-Some-clause-runs
returns-in-Some-clause-runs g c = λ desk.
    ref_then _ _ desk c.args.first (c.args.name.now, c.args.id) _ _
    (says _ _ desk _ _ c.say_ref.result _ _ _ c.in_ok-say_ref.was (rw c.ending.ensures at (c.say_ref.ensures.runs desk))
    (peeled_then _ _ desk c.args.name.now _ c.in-Some.id _ (sym c.peeled.ensures ∙ c.in-Some.is) (c.say_ref-in-Some.ensures.runs desk)))

pub returns-in-None-clause-runs : goal.returns-in-None-clause-runs
returns-in-None-clause-runs g c = λ desk.
    ref_then _ _ desk c.args.first (c.args.name.now, c.args.id) _ _
    (says _ _ desk _ _ c.say_ref.result _ _ _ c.in_ok-say_ref.was (rw c.ending.ensures at (c.say_ref.ensures.runs desk)) (peeled_none _ desk c.args.name.now _ (sym c.peeled.ensures ∙ c.in-None.is)))
