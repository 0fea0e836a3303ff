use Rattle.session_core.proofs.StepLemmas.{write_exits, write_goes, write_tells}
use Rattle.session_core.proofs.packets.say_flush.Goals as goal

pub returns-in_err-write_flush-clause-runs : goal.returns-in_err-write_flush-clause-runs
returns-in_err-write_flush-clause-runs g c = λ desk. let w = c.write_flush.ensures in write_exits _ _ c.write_flush.result desk _ w.writes w.reading w.later _ c.in_err-write_flush.was c.from_residual.result c.from_residual.ensures.1

pub returns-clause-runs : goal.returns-clause-runs
returns-clause-runs g c = λ desk. let w = c.write_flush.ensures in write_goes _ _ c.write_flush.result desk _ w.writes w.reading w.later _ c.in_ok-write_flush.was

pub returns-in_err-write_flush-clause-tells : goal.returns-in_err-write_flush-clause-tells
returns-in_err-write_flush-clause-tells g c = let w = c.write_flush.ensures in write_tells _ _ c.write_flush.result _ c.in_err-write_flush.was c.from_residual.result c.from_residual.ensures.1 w.tells w.reading
