use Rattle.std.proofs.Common.{arith}
use Rattle.refex.proofs.ByteSets.{holds_not}
use Rattle.refex.proofs.bytes.ByteSet.complement.Goals as goal

pub returns : goal.returns
returns c = holds_not c.args.self (omega arith) (omega arith)
