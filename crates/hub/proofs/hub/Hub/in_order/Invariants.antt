use Rattle.std.proofs.Common.{◌≡◌}
use Rattle.std.specs.BTreeMap.{IsOrdered}
use Rattle.std.specs.Cmp.Lexicographic.{slice_cmp}
use Rattle.std.specs.FinMap.{empty, from_entries}
use Rattle.std.specs.Ordering.{nat_cmp}
use Rattle.hub.specs.Names.{inserted_all}
use Rattle.hub.proofs.hub.Hub.in_order.Given as goal

abbrev pub invariant-loop-name : goal.invariant-loop-name
invariant-loop-name l = record {
  ordered : IsOrdered (slice_cmp nat_cmp) l.sorted;
  all : inserted_all (from_entries l.sorted.entries) l.name-iterator ≡ inserted_all empty l.initial.name-iterator;
}
