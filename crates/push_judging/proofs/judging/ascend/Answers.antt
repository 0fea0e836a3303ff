use Rattle.std.proofs.Common.{arith}
use Rattle.push_judging.proofs.AscendLemmas.{ascending_once}
use Rattle.push_judging.proofs.judging.ascend.Goals as goal

pub returns : goal.returns
returns c = λ _ name. ascending_once c.args.commands.now (λ d i below. c.loop-k.invariant.1 d i (omega (arith, below, c.loop-k-test.false))) name
