use Rattle.refex.proofs.ByteSets.{holds_or}
use Rattle.refex.proofs.bytes.ByteSet.or.Goals as goal

pub returns : goal.returns
returns c = holds_or c.args.self c.args.other
