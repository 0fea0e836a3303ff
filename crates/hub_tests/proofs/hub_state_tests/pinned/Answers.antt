use Rattle.std.proofs.Common.{◌≡◌, [], sym, ◌∙◌, ap, subst}
use Rattle.std.specs.Prelude.{None}
use Rattle.std.specs.FinMap.{empty}
use Rattle.wild_perms.specs.Roles.{WildView}
use Rattle.hub_history.specs.Push.{HasWholeRefs}
use Rattle.hub_history.specs.State.{Repository, empty_repository}
use Rattle.hub_history.proofs.WholeLogs.{whole_empty}
use Rattle.hub_tests.proofs.hub_state_tests.pinned.Goals as goal

abbrev with_wild : WildView → Repository
with_wild w = record { objects = []; refs = empty; creator = w.creator; roles = w.roles }

pub new-pin-requires : goal.new-pin-requires
new-pin-requires c =
    let is : c.in_ok-hosted.hosted ≡ empty_repository None = c.in_ok-hosted.ensures ∙ ap with_wild c.plain.ensures in
    subst HasWholeRefs (sym is) (whole_empty None)
