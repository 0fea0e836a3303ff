use Rattle.std.proofs.Common.{Some, List, [], ◌∷◌, sym, ◌∙◌, ap, subst}
use Rattle.ref_store.specs.Refs.{Name}
use Rattle.hub_history.specs.declared.entry.Event.{Event}
use Rattle.hub_history.specs.History.{history, step}
use Rattle.hub_history.specs.Push.{HasWholeRefs}
use Rattle.hub_history.specs.State.{Repository, placed_in}
use Rattle.hub_history.proofs.WholeLogs.{whole_empty}
use Rattle.hub.specs.Hub.{logged, state_of, stored}
use Rattle.hub.proofs.PinLemmas.{born_is, pinned_created}
use Rattle.hub.proofs.hub.Hub.create.Goals as goal

pub pin-requires : goal.pin-requires
pin-requires c =
    subst HasWholeRefs (sym (c.in_ok-clone-2.ensures.cases ∙ born_is c.args.user.now c.in_ok-clone.field-0 c.in_ok-clone.ensures.cases c.born.result c.born.ensures c.in_ok-hosted.hosted c.in_ok-hosted.ensures))
    (whole_empty (Some c.args.user.now))

pub commit-requires-clause-step : goal.commit-requires-clause-step
commit-requires-clause-step c =
    let state = state_of c.args.self.now in
    ap (step (history c.args.self.now.admin c.args.self.now.log)) c.in_ok-event.ensures
    ∙ ap (λ (r : Repository). stored (placed_in state.repositories ((c.args.repo.now, r) ∷ [])) state.conf)
    (sym (born_is c.args.user.now c.in_ok-clone.field-0 c.in_ok-clone.ensures.cases c.born.result c.born.ensures c.in_ok-hosted.hosted c.in_ok-hosted.ensures))
    ∙ ap (λ (l : List (Name × Repository)). stored (placed_in state.repositories l) state.conf) (sym c.in_ok-made.ensures)

pub returns-clause-pin : goal.returns-clause-pin
returns-clause-pin c =
    pinned_created c.args.self.now c.args.caller c.args.user.now c.args.repo.now c.args.want c.in_ok-clone-2.field-0
    (c.in_ok-clone-2.ensures.cases ∙ born_is c.args.user.now c.in_ok-clone.field-0 c.in_ok-clone.ensures.cases c.born.result c.born.ensures c.in_ok-hosted.hosted c.in_ok-hosted.ensures) c.commit.new.self
    (c.in_ok-commit.ensures.ok ∙ ap (λ (e : Event). logged c.args.self.now c.args.caller e) c.in_ok-event.ensures) c.in_ok-pin.pin c.in_ok-pin.ensures
