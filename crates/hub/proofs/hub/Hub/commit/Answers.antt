use Rattle.std.proofs.Common.{◌≡◌, false, sym, ◌∙◌, ap, subst}
use Rattle.std.specs.Prelude.{is_some}
use Rattle.std.specs.Option.{IfSome, unwrap_or}
use Rattle.hub_history.specs.History.{history, replay, step}
use Rattle.hub_history.specs.Laws.{IsDueBehind}
use Rattle.hub_history.specs.State.{Conf, State, placed_in}
use Rattle.hub.specs.Hub.{HubView, state_of, stored}
use Rattle.hub.specs.Names.{map_of}
use Rattle.hub.proofs.ConfLemmas.{none_put, renewed_admin}
use Rattle.hub.proofs.HubLemmas.{committed}
use Rattle.hub.proofs.SinceLemmas.{noted_before, noted_behind}
use Rattle.hub.proofs.hub.Hub.commit.Goals as goal

pub invariant_of-self-2 : goal.invariant_of-self-2
invariant_of-self-2 c =
    let old = c.self.inside in
    let was : stored (map_of old.repositories.entries.entries) old.conf ≡ replay old.conf.admin old.log = c.self.invariant.1 in
    let due : IsDueBehind old.conf.admin old.log c.args.event = subst (λ (v : HubView). IsDueBehind v.admin v.log c.args.event) (sym c.self.view_is) c.requires.due in
    let next : State = stored (placed_in (map_of old.repositories.entries.entries) c.args.repositories.items) (unwrap_or c.args.conf old.conf) in
    let steps : step (history old.conf.admin old.log) c.args.event ≡ next =
    subst (λ (v : HubView). step (history v.admin v.log) c.args.event ≡ stored (placed_in (state_of v).repositories c.args.repositories.items) (unwrap_or c.args.conf (state_of v).conf)) (sym c.self.view_is) c.requires.step
    ∙ ap (λ (s : State). stored (placed_in s.repositories c.args.repositories.items) (unwrap_or c.args.conf s.conf)) (sym was) in
    let admin : (unwrap_or c.args.conf old.conf).admin ≡ old.conf.admin =
    renewed_admin old.conf c.args.conf (subst (λ (v : HubView). IfSome c.args.conf (λ (conf : Conf). conf.admin ≡ v.admin)) (sym c.self.view_is) c.requires.admin) in
    let done = committed old.conf.admin old.log (record { caller = c.args.caller; event = c.args.event }) next c.self.invariant.0 due steps in
    let leaves : is_some c.args.conf ≡ false → (step (history old.conf.admin old.log) c.args.event).conf ≡ (replay old.conf.admin old.log).conf = λ none. ap (λ (s : State). s.conf) steps ∙ none_put old.conf c.args.conf none ∙ ap (λ (s : State). s.conf) was in
    let since = noted_behind old.since old.conf.admin old.log c.self.invariant.2 c.some_patterns_are_true.ensures.0 c.some_patterns_are_true.ensures.1 (record { caller = c.args.caller; event = c.args.event }) due (is_some c.args.conf) leaves in
    rw (c.in_ok-push.ensures.ok, c.put_all.ensures, c.reserve.ensures.same, c.in_ok-note.ensures.ok, c.is_some.ensures, c.len-place.ensures, c.renew.ensures, admin) (done.0, done.1, since)

pub invariant_of-self-in_err-push : goal.invariant_of-self-in_err-push
invariant_of-self-in_err-push c =
    let old = c.self.inside in
    rw (c.in_err-push.ensures.err, c.reserve.ensures.same, c.in_ok-note.ensures.ok, c.len-place.ensures)
    (c.self.invariant.0, c.self.invariant.1, noted_before old.since old.conf.admin old.log c.self.invariant.2 c.args.event c.is_some.result)
