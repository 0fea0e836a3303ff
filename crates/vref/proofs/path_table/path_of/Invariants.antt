use Rattle.std.proofs.Common.{◌<◌, get_or, length}
use Rattle.vref.specs.declared.path_table.Row.{Row}
use Rattle.vref.proofs.TableLemmas.{IsBehind}
use Rattle.vref.proofs.path_table.path_of.Given as goal

abbrev pub invariant-loop-at : goal.invariant-loop-at
invariant-loop-at l = record {
  within : l.at < length l.rows;
  behind : (d : Row) → IsBehind l.rows l.place (get_or l.rows l.at d).parent l.bytes.items;
}

abbrev pub decreases-loop-at : goal.decreases-loop-at
decreases-loop-at l = l.at
