use Rattle.std.proofs.Common.{sym, ◌∙◌}
use Rattle.base_types.proofs.NameMaps.{len-entries_of}
use Rattle.ref_store.proofs.ref_map.RefMap.len.Goals as goal

pub returns : goal.returns
returns c = c.len.ensures.len ∙ sym (len-entries_of c.self.inside.entries c.len.ensures.ordered) ∙ rw c.self.view_is
