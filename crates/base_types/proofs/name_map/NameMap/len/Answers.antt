use Rattle.std.proofs.Common.{◌∙◌, sym}
use Rattle.base_types.proofs.NameMaps.{len-entries_of}
use Rattle.base_types.proofs.name_map.NameMap.len.Goals as goal

pub returns : goal.returns
returns g c = c.len.ensures.len ∙ sym (len-entries_of c.self.inside.entries c.len.ensures.ordered) ∙ rw c.self.view_is
