use Rattle.std.proofs.Common.{◌≡◌, ◌∙◌, ap, None}
use Rattle.std.proofs.lemmas.Result.{err_from_is_err_and}
use Rattle.std.specs.FinMap as map
use Rattle.base_types.proofs.NameMaps.{get-entries, insert-entries}
use Rattle.base_types.proofs.name_map.NameMap.insert.Goals as goal

pub returns-in_err-insert-clause-new_name : goal.returns-in_err-insert-clause-new_name
returns-in_err-insert-clause-new_name g c =
    let absent : map.get c.args.self.now c.args.name ≡ None = rw (← c.self.view_is) (get-entries c.self.inside.entries c.args.name ∙ rw c.in_err-insert.was at c.insert.ensures.absent) in
    rw (err_from_is_err_and c.from_residual.result c.from_residual.ensures.1).1 absent

pub returns-clause-ok : goal.returns-clause-ok
returns-clause-ok g c = insert-entries c.self.inside.entries c.insert.new.self c.args.name c.args.value (rw c.in_ok-insert.was at c.insert.ensures.updates) ∙ ap (λ m. map.insert m c.args.name c.args.value) c.self.view_is
