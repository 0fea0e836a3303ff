use Rattle.std.proofs.Common.{Some, cond, ◌∙◌, ap}
use Rattle.std.specs.Map.{lookup}
use Rattle.ref_store.specs.Objects.{same_id}
use Rattle.ancestry.specs.Tables.{Entries}
use Rattle.ancestry.proofs.table.Table.insert.Goals as goal

pub returns-clause-ok : goal.returns-clause-ok
returns-clause-ok g c = λ other.
    c.in_ok-insert.ensures.updates.0 other
    ∙ ap (λ (t : Entries g.row.V.Denot). cond (same_id c.args.id other) (Some c.args.value) (lookup (same_id other) t)) c.self.view_is
