use Rattle.std.proofs.Common.{sym, ◌∙◌}
use Rattle.base_types.proofs.NameMaps.{get-entries}
use Rattle.base_types.proofs.name_map.NameMap.get.Goals as goal

pub returns : goal.returns
returns g c = c.get.ensures.value ∙ sym (get-entries c.self.inside.entries c.args.name.now) ∙ rw c.self.view_is
