use Rattle.std.proofs.Common.{arith, rules}
use Rattle.std.specs.Int.{w128}
use Rattle.std.proofs.lemmas.Nat.Bits.{bit_at-trailing_zeros}
use Rattle.refex.proofs.sets.least.Goals as goal

pub returns : goal.returns
returns c =
    let lowest = bit_at-trailing_zeros w128 c.args.set (omega arith) (search rules) in
    (lowest.1, lowest.0)
