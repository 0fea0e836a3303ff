use Rattle.std.proofs.Common.{rules, ◌≡◌, subst, sym}
use Rattle.hub_history.specs.Push.{HasWholeRefs}
use Rattle.hub_journal.proofs.pins.copy_pin.Goals as goal

pub new-requires : goal.new-requires
new-requires c =
    let is : c.in_ok-hosted.hosted ≡ c.args.pin.now.pinned.repository = search rules in
    subst HasWholeRefs (sym is) c.repo.ensures.whole
