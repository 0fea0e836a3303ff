use Rattle.std.proofs.lemmas.Result.{err_from_is_err_and}
use Rattle.interaction_tree.specs.Interaction.{gives, ◌>>=◌, write}
use Rattle.interaction_tree.proofs.RunLemmas.{runs_gives}
use Rattle.session_core.proofs.StepLemmas.{exits, goes}
use Rattle.upload_pack.specs.declared.uploading.FetchEnd.TheVariants.{Served}
use Rattle.upload_pack.specs.Sending.{pack_bytes}
use Rattle.upload_pack.specs.Uploading.{serving}
use Rattle.upload_pack.proofs.uploading.serve.Goals as goal

pub returns-in_err-common-clause-runs : goal.returns-in_err-common-clause-runs
unfolding serving
returns-in_err-common-clause-runs g c = λ desk.
    let p = err_from_is_err_and c.from_residual.result c.from_residual.ensures.1 in
    exits _ _ desk desk _ (λ common. write (pack_bytes c.args.repo.now.objects c.args.wants.now common) >>= λ said. gives Served) c.take_haves.result _ _ _ c.in_err-common.was p.1 p.2 (c.take_haves.ensures.runs desk)

pub returns-in_err-send_pack-clause-runs : goal.returns-in_err-send_pack-clause-runs
unfolding serving
returns-in_err-send_pack-clause-runs g c = λ desk.
    let p = err_from_is_err_and c.from_residual-in_err-send_pack.result c.from_residual-in_err-send_pack.ensures.1 in
    goes _ _ desk desk _ (λ common. write (pack_bytes c.args.repo.now.objects c.args.wants.now common) >>= λ said. gives Served) c.take_haves.result _ desk c.in_ok-common.common _ c.in_ok-common.was (c.take_haves.ensures.runs desk)
    (exits _ _ desk desk _ (λ said. gives Served) c.send_pack.result _ _ _ c.in_err-send_pack.was p.1 p.2 (rw (c.as_slice.ensures, c.as_slice-2.ensures) at (c.send_pack.ensures.runs desk)))

pub returns-clause-runs : goal.returns-clause-runs
unfolding serving
returns-clause-runs g c = λ desk.
    goes _ _ desk desk _ (λ common. write (pack_bytes c.args.repo.now.objects c.args.wants.now common) >>= λ said. gives Served) c.take_haves.result _ desk c.in_ok-common.common _ c.in_ok-common.was (c.take_haves.ensures.runs desk)
    (goes _ _ desk desk _ (λ said. gives Served) c.send_pack.result _ desk c.in_ok-send_pack.field-0 _ c.in_ok-send_pack.was (rw (c.as_slice.ensures, c.as_slice-2.ensures) at (c.send_pack.ensures.runs desk)) (runs_gives _ desk _))
