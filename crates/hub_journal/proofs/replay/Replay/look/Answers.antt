use Rattle.std.specs.BTreeMap.{get}
use Rattle.std.specs.Ordering.{nat_cmp}
use Rattle.hub_history.specs.Requests.{Look}
use Rattle.hub_journal.specs.Replay.{last_push}
use Rattle.hub_journal.proofs.ReplayLemmas.{same_pins}
use Rattle.hub_journal.proofs.replay.Replay.look.Goals as goal

pub invariant_of-result : goal.invariant_of-result
invariant_of-result c =
    same_pins (last_push c.self.inside.last_pushes.entries) c.self.inside.hub c.ask_look.new.hub c.args.caller (Look c.args.user.now) (λ place. get nat_cmp c.self.inside.pins place)
    c.in_ok-ask_look.ensures.replays tt c.self.invariant
