use Rattle.smart_http.proofs.calls.read_body.Goals as goal

pub returns-in-UploadPack-clause-runs : goal.returns-in-UploadPack-clause-runs
returns-in-UploadPack-clause-runs g c = rw c.in-UploadPack.is (c.upload_body.ensures.runs _)
