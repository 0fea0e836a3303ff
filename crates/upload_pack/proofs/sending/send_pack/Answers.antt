use Rattle.session_core.proofs.StepLemmas.{lacks, write_exits, write_goes, write_tells}
use Rattle.upload_pack.specs.Sending.{pack_bytes}
use Rattle.upload_pack.proofs.sending.send_pack.Goals as goal

pub returns-in_err-places-clause-runs : goal.returns-in_err-places-clause-runs
returns-in_err-places-clause-runs g c = λ desk. lacks _ desk _ c.from_residual.result c.from_residual.ensures.1

pub returns-in_err-write_pack-clause-runs : goal.returns-in_err-write_pack-clause-runs
unfolding pack_bytes
returns-in_err-write_pack-clause-runs g c = λ desk.
    let w = c.write_pack.ensures in
    write_exits _ _ c.write_pack.result desk _ (rw (c.deref.ensures.value, c.in_ok-places.ensures.objects) at w.writes) w.reading w.later _ c.in_err-write_pack.was c.from_residual-in_err-write_pack.result c.from_residual-in_err-write_pack.ensures.1

pub returns-clause-runs : goal.returns-clause-runs
unfolding pack_bytes
returns-clause-runs g c = λ desk.
    let w = c.write_pack.ensures in
    write_goes _ _ c.write_pack.result desk _ (rw (c.deref.ensures.value, c.in_ok-places.ensures.objects) at w.writes) w.reading w.later _ c.in_ok-write_pack.was

pub returns-in_err-write_pack-clause-tells : goal.returns-in_err-write_pack-clause-tells
returns-in_err-write_pack-clause-tells g c = let w = c.write_pack.ensures in write_tells _ _ c.write_pack.result _ c.in_err-write_pack.was c.from_residual-in_err-write_pack.result c.from_residual-in_err-write_pack.ensures.1 w.tells w.reading
