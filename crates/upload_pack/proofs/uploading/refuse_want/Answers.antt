use Rattle.std.proofs.lemmas.Result.{err_from_is_err_and}
use Rattle.interaction_tree.specs.Interaction.{gives}
use Rattle.interaction_tree.proofs.RunLemmas.{runs_gives}
use Rattle.session_core.proofs.StepLemmas.{exits, goes, lacks}
use Rattle.upload_pack.specs.declared.uploading.FetchEnd.TheVariants.{NotOurRef}
use Rattle.upload_pack.specs.Uploading.{refusing_want}
use Rattle.upload_pack.proofs.uploading.refuse_want.Goals as goal

pub returns-in_err-text-clause-runs : goal.returns-in_err-text-clause-runs
returns-in_err-text-clause-runs g c = λ desk. lacks _ desk _ c.from_residual.result c.from_residual.ensures.1

pub returns-in_err-say-clause-runs : goal.returns-in_err-say-clause-runs
unfolding refusing_want
returns-in_err-say-clause-runs g c = λ desk.
    let p = err_from_is_err_and c.from_residual-in_err-say.result c.from_residual-in_err-say.ensures.1 in
    exits _ _ desk desk _ (λ said. gives (NotOurRef c.args.id)) c.say.result _ _ _ c.in_err-say.was p.1 p.2 (rw (c.deref.ensures.value, c.in_ok-text.ensures.text) at (c.say.ensures.runs desk))

pub returns-clause-runs : goal.returns-clause-runs
unfolding refusing_want
returns-clause-runs g c = λ desk.
    goes _ _ desk desk _ (λ said. gives (NotOurRef c.args.id)) c.say.result _ desk c.in_ok-say.field-0 _ c.in_ok-say.was (rw (c.deref.ensures.value, c.in_ok-text.ensures.text) at (c.say.ensures.runs desk)) (runs_gives _ desk _)
