use Rattle.receive_pack.proofs.receiving.advertise_receive.Goals as goal

pub returns-clause-runs : goal.returns-clause-runs
returns-clause-runs g c = λ desk. rw c.repo.ensures.repo at (c.advertise.ensures.runs desk)

pub advertise-requires : goal.advertise-requires
advertise-requires g c = let s = c.requires.stands in record { names = rw c.repo.ensures.repo ((c.hold_laws.ensures.short s.0 s.1 s.2).1 _ s.3) }
