use Rattle.upload_pack.proofs.uploading.advertise_upload.Goals as goal

pub advertise-requires : goal.advertise-requires
advertise-requires g c = let s = c.requires.stands in record { names = rw c.repo.ensures.repo ((c.hold_laws.ensures.short s.0 s.1 s.2).1 _ s.3) }
