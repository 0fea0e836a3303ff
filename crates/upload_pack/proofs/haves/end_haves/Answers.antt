use Rattle.std.proofs.lemmas.Result.{err_from_is_err_and}
use Rattle.interaction_tree.specs.Interaction.{gives}
use Rattle.interaction_tree.proofs.RunLemmas.{runs_gives}
use Rattle.session_core.proofs.StepLemmas.{exits, goes}
use Rattle.upload_pack.specs.Haves.{ending_haves}
use Rattle.upload_pack.proofs.haves.end_haves.Goals as goal

pub returns-in_err-say_none_common-clause-runs : goal.returns-in_err-say_none_common-clause-runs
unfolding ending_haves
returns-in_err-say_none_common-clause-runs g c = λ desk.
    let p = err_from_is_err_and c.from_residual.result c.from_residual.ensures.1 in
    exits _ _ desk desk _ (λ said. gives c.args.common) c.say_none_common.result _ _ _ c.in_err-say_none_common.was p.1 p.2 (rw c.as_slice.ensures at (c.say_none_common.ensures.runs desk))

pub returns-clause-runs : goal.returns-clause-runs
unfolding ending_haves
returns-clause-runs g c = λ desk.
    goes _ _ desk desk _ (λ said. gives c.args.common) c.say_none_common.result _ desk c.in_ok-say_none_common.field-0 _ c.in_ok-say_none_common.was (rw c.as_slice.ensures at (c.say_none_common.ensures.runs desk)) (runs_gives _ desk _)
