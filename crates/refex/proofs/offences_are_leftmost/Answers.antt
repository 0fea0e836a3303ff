use Rattle.refex.proofs.Leftmost.{leftmost}
use Rattle.refex.proofs.offences_are_leftmost.Goals as goal

pub returns : goal.returns
returns c = leftmost
