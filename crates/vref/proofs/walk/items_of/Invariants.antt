use Rattle.std.proofs.Common.{◌≡◌, ◌+◌, take}
use Rattle.vref.specs.Walk.{items_from}
use Rattle.vref.proofs.walk.items_of.Given as goal

abbrev pub invariant-loop-row : goal.invariant-loop-row
invariant-loop-row l = record {
  items : l.items.items ≡ items_from l.first (take l.row-index l.rows);
  place_is : l.place ≡ l.first + l.row-index;
}
