use Rattle.std.proofs.Common.{List, ◌∷◌, [], subst}
use Rattle.git_object.specs.declared.object_id.ObjectId.{ObjectId}
use Rattle.ancestry.specs.IdSet.{Adds}
use Rattle.ancestry.proofs.ReachedLemmas.{adds_one}
use Rattle.ancestry.proofs.id_set.IdSet.insert.Goals as goal

pub returns : goal.returns
returns c =
    subst (λ (ids : List ObjectId). Adds ids c.insert.new.self.keys (c.args.id ∷ [])) c.self.view_is
    (adds_one c.self.inside.ids.keys c.insert.new.self.keys c.args.id c.in_ok-insert.ensures.keys)
