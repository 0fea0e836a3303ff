use Rattle.pktline_core.proofs.LawLemmas.{packet_laws}
use Rattle.pktline_core.proofs.laws.hold_laws.Goals as goal

pub returns : goal.returns
returns c = packet_laws
