use Rattle.std.proofs.Common.{List, Contains, ◌⊎◌, ap, map, [], Option, subst}
use Rattle.std.specs.Prelude.{OnOk}
use Rattle.std.specs.Option.{option_map_or}
use Rattle.git_object.specs.Content.{Content}
use Rattle.git_object.specs.Object.{links_of}
use Rattle.git_object.specs.declared.object_id.ObjectId.{ObjectId}
use Rattle.ancestry.proofs.closing.enter.Goals as goal

pub returns-clause-set : goal.returns-clause-set
returns-clause-set c =
    subst (λ (ids : List ObjectId). OnOk c.insert_commits.result ((to : ObjectId) → Contains c.insert_commits.new.set to → Contains c.args.set.now to ⊎ Contains ids to))
    (ap (λ (o : Option Content). option_map_or (λ x. map (λ link. link.0) (links_of x.kind x.body)) o []) c.in-Some.ensures) c.insert_commits.ensures
