use Rattle.std.proofs.Common.{◌∙◌, ap}
use Rattle.std.specs.FinMap as map
use Rattle.base_types.proofs.NameMaps.{insert-entries}
use Rattle.ref_store.proofs.ref_map.RefMap.insert.Goals as goal

pub returns-clause-ok : goal.returns-clause-ok
returns-clause-ok c = insert-entries c.self.inside.entries c.insert.new.self c.args.name c.args.id (rw c.in_ok-insert.was at c.insert.ensures.updates) ∙ ap (λ m. map.insert m c.args.name c.args.id) c.self.view_is
