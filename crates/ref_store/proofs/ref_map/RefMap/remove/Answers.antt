use Rattle.std.proofs.Common.{◌∙◌, ap}
use Rattle.std.specs.FinMap as map
use Rattle.base_types.proofs.NameMaps.{remove-entries}
use Rattle.ref_store.proofs.ref_map.RefMap.remove.Goals as goal

pub returns : goal.returns
returns c = remove-entries c.self.inside.entries c.remove.new.self c.args.name.now c.remove.ensures.updates ∙ ap (λ m. map.remove m c.args.name.now) c.self.view_is
