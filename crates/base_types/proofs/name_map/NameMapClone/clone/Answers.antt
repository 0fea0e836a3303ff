use Rattle.base_types.proofs.NameMaps.{entries-of}
use Rattle.base_types.proofs.name_map.NameMapClone.clone.Goals as goal

pub returns : goal.returns
returns g c = rw (← c.self.view_is, entries-of c.self.inside.entries c.len.ensures.ordered, entries-of c.in_ok-entries.entries c.len-2.ensures.ordered) c.in_ok-entries.ensures
