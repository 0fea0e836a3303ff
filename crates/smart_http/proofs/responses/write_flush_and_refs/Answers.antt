use Rattle.std.proofs.lemmas.Result.{err_from_is_err_and}
use Rattle.session_core.proofs.StepLemmas.{exits, goes}
use Rattle.interaction_tree.specs.Interaction.{write}
use Rattle.smart_http.specs.Requests.{refs_of, writing_refs}
use Rattle.smart_http.proofs.responses.write_flush_and_refs.Goals as goal

pub returns-in_err-say_flush-clause-runs : goal.returns-in_err-say_flush-clause-runs
unfolding writing_refs
returns-in_err-say_flush-clause-runs g c = λ desk.
    let p = err_from_is_err_and c.from_residual.result c.from_residual.ensures.1 in
    exits _ _ desk desk _ (λ u. write (refs_of c.args.service c.args.pin.now)) c.say_flush.result _ _ _ c.in_err-say_flush.was p.1 p.2 (c.say_flush.ensures.runs desk)

pub returns-clause-runs : goal.returns-clause-runs
unfolding writing_refs
returns-clause-runs g c = λ desk.
    goes _ _ desk desk _ (λ u. write (refs_of c.args.service c.args.pin.now)) c.say_flush.result _ desk c.in_ok-say_flush.field-0 _ c.in_ok-say_flush.was (c.say_flush.ensures.runs desk) (c.write_refs.ensures.runs desk)
