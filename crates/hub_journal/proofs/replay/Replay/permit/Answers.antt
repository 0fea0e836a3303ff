use Rattle.std.specs.BTreeMap.{get}
use Rattle.std.specs.Ordering.{nat_cmp}
use Rattle.hub_history.specs.Requests.{Permit}
use Rattle.hub_journal.specs.Replay.{last_push}
use Rattle.hub_journal.proofs.ReplayLemmas.{same_pins}
use Rattle.hub_journal.proofs.replay.Replay.permit.Goals as goal

pub invariant_of-result : goal.invariant_of-result
invariant_of-result c =
    same_pins (last_push c.self.inside.last_pushes.entries) c.self.inside.hub c.ask_permit.new.hub c.args.caller (Permit c.args.user.now c.args.repo.now c.args.change) (λ place. get nat_cmp c.self.inside.pins place)
    c.in_ok-ask_permit.ensures.replays tt c.self.invariant
