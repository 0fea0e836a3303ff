use Rattle.std.proofs.lemmas.Result.{err_from_is_err_and}
use Rattle.hub_history.specs.State.{store_of}
use Rattle.session_core.proofs.StepLemmas.{exits, goes}
use Rattle.upload_pack.specs.Uploading.{uploading, wanting}
use Rattle.upload_pack.proofs.uploading.upload_both.Goals as goal

pub returns-in_err-advertise_upload-clause-runs : goal.returns-in_err-advertise_upload-clause-runs
unfolding uploading
returns-in_err-advertise_upload-clause-runs g c = λ desk.
    let p = err_from_is_err_and c.from_residual.result c.from_residual.ensures.1 in
    exits _ _ desk desk _ (λ u. wanting (store_of c.args.pin.now.pinned.repository) c.args.reader.now.offset) c.advertise_upload.result _ _ _ c.in_err-advertise_upload.was p.1 p.2 (c.advertise_upload.ensures.runs desk)

pub returns-clause-runs : goal.returns-clause-runs
unfolding uploading
returns-clause-runs g c = λ desk.
    goes _ _ desk desk _ (λ u. wanting (store_of c.args.pin.now.pinned.repository) c.args.reader.now.offset) c.advertise_upload.result _ desk c.in_ok-advertise_upload.field-0 _ c.in_ok-advertise_upload.was (c.advertise_upload.ensures.runs desk) (c.upload_wants.ensures.runs desk)
