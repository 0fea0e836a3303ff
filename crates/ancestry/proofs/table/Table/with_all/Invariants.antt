use Rattle.ancestry.specs.Tables.{IsOfTwo}
use Rattle.ancestry.proofs.table.Table.with_all.Given as goal

abbrev pub invariant-loop-id : goal.invariant-loop-id
invariant-loop-id g l = IsOfTwo l.fn.self l.other l.table
