use Rattle.std.proofs.Common.{sym, ◌∙◌}
use Rattle.base_types.proofs.NameMaps.{entries-of}
use Rattle.base_types.proofs.name_map.NameMap.iter.Goals as goal

pub returns : goal.returns
returns g c = c.iter.ensures.rest ∙ sym (entries-of c.self.inside.entries c.iter.ensures.ordered) ∙ rw c.self.view_is
