use Rattle.session_core.specs.Packets.{malformed}
use Rattle.session_core.proofs.packets.malformed.Goals as goal

pub returns-clause-runs : goal.returns-clause-runs
unfolding malformed
returns-clause-runs g c = c.refuse.ensures.runs
