use Rattle.std.proofs.Common.{List, Contains, subst, true, ◌≡◌}
use Rattle.git_object.specs.declared.object_id.ObjectId.{ObjectId}
use Rattle.ancestry.proofs.ReachedLemmas.{has_iff}
use Rattle.ancestry.proofs.id_set.IdSet.contains.Goals as goal

pub returns : goal.returns
returns c =
    subst (λ (ids : List ObjectId). (c.contains.result ≡ true → Contains ids c.args.id) × (Contains ids c.args.id → c.contains.result ≡ true)) c.self.view_is
    (has_iff c.self.inside.ids.keys c.args.id c.contains.result c.contains.ensures)
