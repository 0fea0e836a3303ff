use Rattle.std.proofs.Common.{take}
use Rattle.std.specs.List.{AllZip}
use Rattle.vref.specs.Advances.{IsAdvance}
use Rattle.vref.proofs.advances.History.advances_of_portion.Given as goal

abbrev pub invariant-loop-k : goal.invariant-loop-k
invariant-loop-k l = AllZip (IsAdvance l.self) (take l.k l.pairs) l.advances.items
