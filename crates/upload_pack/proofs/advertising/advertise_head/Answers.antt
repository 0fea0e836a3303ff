use Rattle.session_core.proofs.StepLemmas.{says_nothing}
use Rattle.upload_pack.proofs.AdvertisingLemmas.{said_alone}
use Rattle.upload_pack.proofs.advertising.advertise_head.Goals as goal

pub returns-in-Some-clause-runs : goal.returns-in-Some-clause-runs
returns-in-Some-clause-runs g c = λ desk. rw c.in-Some.is (said_alone _ _ desk _ _ (c.say_ref.ensures.runs desk))

pub returns-in-None-clause-runs : goal.returns-in-None-clause-runs
returns-in-None-clause-runs g c = λ desk. rw c.in-None.is (says_nothing _ desk)
