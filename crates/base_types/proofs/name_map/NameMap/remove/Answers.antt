use Rattle.std.proofs.Common.{◌∙◌, ap, sym}
use Rattle.std.specs.FinMap as map
use Rattle.base_types.proofs.NameMaps.{get-entries, remove-entries}
use Rattle.base_types.proofs.name_map.NameMap.remove.Goals as goal

pub returns-clause-value : goal.returns-clause-value
returns-clause-value g c = c.remove.ensures.value ∙ sym (get-entries c.self.inside.entries c.args.name.now) ∙ rw c.self.view_is

pub returns-clause-map : goal.returns-clause-map
returns-clause-map g c = remove-entries c.self.inside.entries c.remove.new.self c.args.name.now c.remove.ensures.updates ∙ ap (λ m. map.remove m c.args.name.now) c.self.view_is
