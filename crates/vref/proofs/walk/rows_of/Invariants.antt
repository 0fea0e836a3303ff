use Rattle.std.proofs.Common.{◌≡◌, map, take}
use Rattle.vref.specs.Walk.{AreShort, row_of}
use Rattle.vref.proofs.walk.rows_of.Given as goal

abbrev pub invariant-loop-found : goal.invariant-loop-found
invariant-loop-found l = record {
  rows : l.rows.items ≡ map (row_of l.at) (take l.found-index l.list);
  short : AreShort l.at (take l.found-index l.list);
}
