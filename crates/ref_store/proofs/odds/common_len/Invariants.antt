use Rattle.std.proofs.Common.{◌≡◌, ◌+◌, drop}
use Rattle.ref_store.specs.Odds.{common}
use Rattle.ref_store.proofs.odds.common_len.Given as goal

abbrev pub invariant-loop-i : goal.invariant-loop-i
invariant-loop-i l = common l.first l.second ≡ l.i + common (drop l.i l.first) (drop l.i l.second)
