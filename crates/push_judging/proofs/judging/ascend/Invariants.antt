use Rattle.std.proofs.Common.{◌≤◌}
use Rattle.push_judging.proofs.AscendLemmas.{AscendTo}
use Rattle.push_judging.proofs.judging.ascend.Given as goal

abbrev pub invariant-loop-k : goal.invariant-loop-k
invariant-loop-k l = (1 ≤ l.k) × AscendTo l.commands l.k
