use Rattle.std.proofs.Common.{arith}
use Rattle.ref_store.proofs.ApartLemmas.{common_past}
use Rattle.ref_store.proofs.odds.common_len.Goals as goal

pub returns-then-i-second : goal.returns-then-i-second
returns-then-i-second c = omega (arith, c.loop-i.invariant, common_past c.args.first.now c.args.second.now c.loop-i.i c.if-i-second.true)
