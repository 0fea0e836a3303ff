use Rattle.std.proofs.Common.{◌∙◌}
use Rattle.std.specs.FinMap.{from_entries}
use Rattle.base_types.proofs.NameMaps.{entries-of, same_entries_of}
use Rattle.ref_store.proofs.ref_map.RefMapClone.clone.Goals as goal

pub returns : goal.returns
returns c = record {
  cases = same_entries_of (from_entries c.self.inside.entries.entries) (from_entries c.in_ok-entries.entries.entries)
      (rw (entries-of c.self.inside.entries c.len.ensures.ordered, entries-of c.in_ok-entries.entries c.len-2.ensures.ordered) c.in_ok-entries.ensures.cases)
      ∙ c.self.view_is;
}
