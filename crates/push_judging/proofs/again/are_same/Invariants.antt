use Rattle.std.proofs.Common.{◌≡◌, take}
use Rattle.push_judging.proofs.again.are_same.Given as goal

abbrev pub invariant-loop-k : goal.invariant-loop-k
invariant-loop-k l = take l.k l.roles ≡ take l.k l.others
