use Rattle.std.proofs.Common.{take}
use Rattle.ancestry.specs.IdSet.{Adds}
use Rattle.ancestry.proofs.id_set.IdSet.insert_all.Given as goal

abbrev pub invariant-loop-id : goal.invariant-loop-id
invariant-loop-id l = Adds l.fn.self l.self (take l.id-index l.ids)
