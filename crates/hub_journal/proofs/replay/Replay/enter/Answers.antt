use Rattle.std.proofs.Common.{ap, subst, length, ◌∙◌}
use Rattle.std.specs.BTreeMap.{get}
use Rattle.std.specs.Ordering.{nat_cmp}
use Rattle.hub_history.specs.Requests.{Enter}
use Rattle.hub_journal.specs.Replay.{Keeps, last_push}
use Rattle.hub_journal.proofs.ReplayLemmas.{no_new_pin, a_new_pin}
use Rattle.hub_journal.proofs.replay.Replay.enter.Goals as goal

pub invariant_of-result : goal.invariant_of-result
invariant_of-result c =
    no_new_pin (last_push c.self.inside.last_pushes.entries) c.self.inside.hub c.ask_enter.new.hub c.args.caller (Enter c.args.user.now c.args.repo.now c.args.want) (λ place. get nat_cmp c.self.inside.pins place) c.in_ok-kept.kept c.len.result
    c.in_ok-kept.ensures.replays c.in_ok-kept.ensures.keeps (c.len.ensures ∙ ap length c.log.ensures.log) c.in_default.ensures c.self.invariant

pub invariant_of-result-2 : goal.invariant_of-result-2
invariant_of-result-2 c =
    a_new_pin (last_push c.self.inside.last_pushes.entries) c.self.inside.hub c.ask_enter.new.hub c.args.caller (Enter c.args.user.now c.args.repo.now c.args.want) (λ place. get nat_cmp c.self.inside.pins place) (λ place. get nat_cmp c.insert.new.self place)
    c.in-Some.pin c.place.result c.in_ok-kept.ensures.replays (subst (Keeps c.self.inside.hub c.ask_enter.new.hub) c.in-Some.ensures c.in_ok-kept.ensures.keeps) c.place.ensures c.in-Ok.ensures.updates.0 c.self.invariant
