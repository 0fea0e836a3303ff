use Rattle.session_core.proofs.StepLemmas.{write_exits, write_goes, write_tells}
use Rattle.session_core.proofs.packets.say.Goals as goal

pub returns-in_err-write_pkt-clause-runs : goal.returns-in_err-write_pkt-clause-runs
returns-in_err-write_pkt-clause-runs g c = λ desk. let w = c.write_pkt.ensures in write_exits _ _ c.write_pkt.result desk _ w.writes w.reading w.later _ c.in_err-write_pkt.was c.from_residual.result c.from_residual.ensures.1

pub returns-clause-runs : goal.returns-clause-runs
returns-clause-runs g c = λ desk. let w = c.write_pkt.ensures in write_goes _ _ c.write_pkt.result desk _ w.writes w.reading w.later _ c.in_ok-write_pkt.was

pub returns-in_err-write_pkt-clause-tells : goal.returns-in_err-write_pkt-clause-tells
returns-in_err-write_pkt-clause-tells g c = let w = c.write_pkt.ensures in write_tells _ _ c.write_pkt.result _ c.in_err-write_pkt.was c.from_residual.result c.from_residual.ensures.1 w.tells w.reading
