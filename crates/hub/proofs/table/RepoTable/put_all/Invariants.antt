use Rattle.std.proofs.Common.{◌≡◌, ◌≤◌, vec_len}
use Rattle.indexmap.specs.IndexMap.{spare}
use Rattle.hub_history.specs.State.{placed_in}
use Rattle.hub.specs.Names.{map_of}
use Rattle.hub.proofs.table.RepoTable.put_all.Given as goal

abbrev pub invariant-loop-name : goal.invariant-loop-name
invariant-loop-name l = record {
  room : vec_len l.changes ≤ spare l.self.entries;
  map : placed_in (map_of l.self.entries.entries) l.changes.items ≡ placed_in (map_of l.fn.self.entries.entries) l.initial.changes.items;
}

abbrev pub decreases-loop-name : goal.decreases-loop-name
decreases-loop-name l = vec_len l.changes
