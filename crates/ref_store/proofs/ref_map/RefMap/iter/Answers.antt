use Rattle.std.proofs.Common.{sym, ◌∙◌}
use Rattle.base_types.proofs.NameMaps.{entries-of}
use Rattle.ref_store.proofs.ref_map.RefMap.iter.Goals as goal

pub returns : goal.returns
returns c = c.iter.ensures.rest ∙ sym (entries-of c.self.inside.entries c.iter.ensures.ordered) ∙ rw c.self.view_is
