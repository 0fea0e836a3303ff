use Rattle.pktline_core.specs.Packets.{spelling}
use Rattle.pktline_core.proofs.writing.write_flush.Goals as goal

pub returns-clause-writes : goal.returns-clause-writes
unfolding spelling
returns-clause-writes g c = c.write_all.ensures.writes
