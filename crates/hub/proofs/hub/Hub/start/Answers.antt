use Rattle.std.proofs.Common.{◌∙◌, ap}
use Rattle.std.specs.Prelude.{codes, None}
use Rattle.std.specs.FinMap.{insert}
use Rattle.base_types.specs.Names.{ByName}
use Rattle.hub_history.specs.State.{Repository, empty_repository}
use Rattle.hub.specs.Hub.{stored}
use Rattle.hub.proofs.SinceLemmas.{since_start}
use Rattle.hub.proofs.hub.Hub.start.Goals as goal

pub invariant_of-result : goal.invariant_of-result
invariant_of-result c =
    let first = c.in_ok-add_empty.ensures ∙ ap (λ (m : ByName Repository). insert m (codes "gitolite-admin") (empty_repository None)) c.new-repositories.ensures in
    let both = c.in_ok-add_empty-2.ensures ∙ ap (λ (m : ByName Repository). insert m (codes "testing") (empty_repository None)) first in
    rw (c.new.ensures, c.start.ensures, c.in_ok-conf.ensures) (λ ps ok. tt, ap (λ (m : ByName Repository). stored m (record { admin = c.args.admin.now; pushed = None })) both, since_start c.args.admin.now)
