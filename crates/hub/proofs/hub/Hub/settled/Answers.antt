use Rattle.std.proofs.Common.{◌≡◌, ℕ, List, sym, ◌∙◌, subst}
use Rattle.std.proofs.lemmas.List.Elements.{same_from_all_zip}
use Rattle.std.specs.Option.{unwrap_or}
use Rattle.ref_store.specs.Refs.{Name}
use Rattle.hub_history.specs.declared.outcome.Outcome.{Outcome}
use Rattle.hub_history.specs.declared.entry.Event.{Event}
use Rattle.hub_history.specs.declared.entry.Event.TheVariants.{Pushed}
use Rattle.hub_history.specs.History.{history, step}
use Rattle.hub_history.specs.Laws.{IsDueBehind}
use Rattle.hub_history.specs.State.{placed_in}
use Rattle.hub.specs.Hub.{HubView, logged, state_of, stored}
use Rattle.hub.proofs.hub.Hub.settled.Goals as goal

pub commit-requires-clause-due : goal.commit-requires-clause-due
commit-requires-clause-due c =
    subst (λ (e : Event). IsDueBehind c.learn.new.self.admin c.learn.new.self.log e) (sym c.pushed-event.ensures)
    (subst (λ (h : HubView). IsDueBehind h.admin h.log (Pushed c.place.result c.args.request.pack c.args.request.commands c.args.request.atomic c.in_ok-plan.plan.outcomes c.in_ok-plan.plan.made)) (sym c.learn.ensures)
    (subst (λ (p : ℕ). IsDueBehind c.args.self.now.admin c.args.self.now.log (Pushed p c.args.request.pack c.args.request.commands c.args.request.atomic c.in_ok-plan.plan.outcomes c.in_ok-plan.plan.made)) (sym c.place.ensures) c.in_ok-plan.ensures.due))

pub commit-requires-clause-step : goal.commit-requires-clause-step
commit-requires-clause-step c =
    subst (λ (e : Event). step (history c.learn.new.self.admin c.learn.new.self.log) e
    ≡ stored (placed_in (state_of c.learn.new.self).repositories c.in_ok-plan.plan.changes.items) (unwrap_or c.in_ok-plan.plan.conf (state_of c.learn.new.self).conf)) (sym c.pushed-event.ensures)
    (subst (λ (h : HubView). step (history h.admin h.log) (Pushed c.place.result c.args.request.pack c.args.request.commands c.args.request.atomic c.in_ok-plan.plan.outcomes c.in_ok-plan.plan.made)
    ≡ stored (placed_in (state_of h).repositories c.in_ok-plan.plan.changes.items) (unwrap_or c.in_ok-plan.plan.conf (state_of h).conf)) (sym c.learn.ensures)
    (subst (λ (p : ℕ). step (history c.args.self.now.admin c.args.self.now.log) (Pushed p c.args.request.pack c.args.request.commands c.args.request.atomic c.in_ok-plan.plan.outcomes c.in_ok-plan.plan.made)
    ≡ stored (placed_in (state_of c.args.self.now).repositories c.in_ok-plan.plan.changes.items) (unwrap_or c.in_ok-plan.plan.conf (state_of c.args.self.now).conf)) (sym c.place.ensures) c.in_ok-plan.ensures.step))

pub returns-clause-due : goal.returns-clause-due
returns-clause-due c =
    subst (λ (os : List Outcome). IsDueBehind c.args.self.now.admin c.args.self.now.log (Pushed c.args.pin.now.place c.args.request.pack c.args.request.commands c.args.request.atomic os c.in_ok-clone-2.field-0)) (sym (same_from_all_zip (λ o copy. copy ≡ o) c.in_ok-plan.plan.outcomes c.in_ok-clone.field-0 c.in_ok-clone.ensures.cases.0 (λ o copy same. same)))
    (subst (λ (made : List Name). IsDueBehind c.args.self.now.admin c.args.self.now.log (Pushed c.args.pin.now.place c.args.request.pack c.args.request.commands c.args.request.atomic c.in_ok-plan.plan.outcomes made)) (sym (same_from_all_zip (λ n copy. copy ≡ n) c.in_ok-plan.plan.made c.in_ok-clone-2.field-0 c.in_ok-clone-2.ensures.cases.0 (λ n copy same. same))) c.in_ok-plan.ensures.due)

pub returns-clause-logs : goal.returns-clause-logs
returns-clause-logs c =
    c.in_ok-commit.ensures.ok
    ∙ (λ i. logged c.learn.new.self c.args.caller (c.pushed-event.ensures i))
    ∙ (λ i. logged (c.learn.ensures i) c.args.caller (Pushed (c.place.ensures i) c.args.request.pack c.args.request.commands c.args.request.atomic (sym (same_from_all_zip (λ o copy. copy ≡ o) c.in_ok-plan.plan.outcomes c.in_ok-clone.field-0 c.in_ok-clone.ensures.cases.0 (λ o copy same. same)) i) (sym (same_from_all_zip (λ n copy. copy ≡ n) c.in_ok-plan.plan.made c.in_ok-clone-2.field-0 c.in_ok-clone-2.ensures.cases.0 (λ n copy same. same)) i)))
