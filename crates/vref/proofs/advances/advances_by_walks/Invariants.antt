use Rattle.std.proofs.Common.{take}
use Rattle.std.specs.List.{AllZip}
use Rattle.vref.specs.Advances.{IsAdvance}
use Rattle.vref.proofs.advances.advances_by_walks.Given as goal

abbrev pub invariant-loop-pair : goal.invariant-loop-pair
invariant-loop-pair l = AllZip (IsAdvance l.lens) (take l.pair-index l.pairs) l.advances.items
