use Rattle.std.proofs.Common.{◌≡◌, ◌⊎◌, ◌+◌, ℕ, None, Some, inl, sym, ap, subst, ◌∙◌, length, arith}
use Rattle.std.specs.BTreeMap.{get}
use Rattle.std.specs.Ordering.{nat_cmp}
use Rattle.std.proofs.lemmas.Bool.{eqb-false}
use Rattle.hub_history.specs.Requests.{Push}
use Rattle.hub_journal.specs.Replay.{IsAwaited, IsImpossible, IsWritable, ReplayView, Replays, last_push}
use Rattle.hub_journal.proofs.ReplayLemmas.{not_kept, pins_left, possible_push}
use Rattle.hub_journal.proofs.replay.Replay.push.Goals as goal

pub take_pin-requires : goal.take_pin-requires
take_pin-requires c = λ pin is. (c.self.invariant.stand c.args.place pin is).1

pub returns-in_default-clause-impossible : goal.returns-in_default-clause-impossible
returns-in_default-clause-impossible c =
    λ same. subst (λ (r : ReplayView). IsAwaited (last_push r.last_pushes) (length r.hub.log) c.args.place → (IsWritable r.hub c.args.place → ⊥) ⊎ (length c.args.commands ≡ 0)) c.self.view_is
    (λ awaited. inl (λ writable.
    not_kept (last_push c.self.inside.last_pushes.entries) c.self.inside.hub (λ place. get nat_cmp c.self.inside.pins place) c.args.place c.self.invariant (sym c.in_ok-pin.ensures.found ∙ c.in_default.is) awaited writable))

pub ask_push-requires-clause-write : goal.ask_push-requires-clause-write
ask_push-requires-clause-write c = (c.self.invariant.stand c.args.place c.in-Some.pin (sym c.in_ok-pin.ensures.found ∙ c.in-Some.is)).1

pub invariant_of-result : goal.invariant_of-result
invariant_of-result c =
    pins_left (last_push c.self.inside.last_pushes.entries) c.self.inside.hub c.ask_push.new.hub c.args.caller (Push c.in-Some.pin.place c.args.pack c.args.commands c.args.atomic) c.is_awaited-goes_on.result c.args.place (c.len.result + 1)
    (λ q. get nat_cmp c.self.inside.pins q) (λ q. get nat_cmp c.take_pin.new.pins q) c.in-Ok.ensures.replays tt c.in_ok-pin.ensures.left
    (ap (λ (n : ℕ). n + 1) (c.len.ensures ∙ ap length c.log.ensures.log)) c.is_awaited-goes_on.ensures c.self.invariant

pub returns-clause-replays : goal.returns-clause-replays
returns-clause-replays c =
    let place_is : c.in-Some.pin.place ≡ c.args.place = (c.self.invariant.stand c.args.place c.in-Some.pin (sym c.in_ok-pin.ensures.found ∙ c.in-Some.is)).0 in
    subst (λ (r : ReplayView). Replays r.hub c.ask_push.new.hub c.args.caller (Push c.args.place c.args.pack c.args.commands c.args.atomic)) c.self.view_is
    (subst (λ (n : ℕ). Replays c.self.inside.hub c.ask_push.new.hub c.args.caller (Push n c.args.pack c.args.commands c.args.atomic)) place_is c.in-Ok.ensures.replays)

pub returns-clause-possible : goal.returns-clause-possible
returns-clause-possible c =
    subst (λ (r : ReplayView). IsImpossible r.hub (Push c.args.place c.args.pack c.args.commands c.args.atomic) → ⊥) c.self.view_is
    (possible_push (last_push c.self.inside.last_pushes.entries) c.self.inside.hub (λ place. get nat_cmp c.self.inside.pins place) c.args.place c.in-Some.pin c.args.pack c.args.commands c.args.atomic c.self.invariant (sym c.in_ok-pin.ensures.found ∙ c.in-Some.is)
    (eqb-false (length c.args.commands) 0 (sym c.is_empty.ensures ∙ c.if-is_empty.false)))
