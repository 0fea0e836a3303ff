-- The openings that pins are of.
use Rattle.std.proofs.Common.{◌≡◌, ℕ, zero, suc, List, [], ◌∷◌, ◌++◌, refl, sym, ◌∙◌, ap, subst, append-nil, append_assoc, take, add-one, ◌⊎◌, inl, inr}
use Rattle.std.specs.Prelude.{Option, Some}
use Rattle.std.specs.List.{slice_get}
use Rattle.ref_store.specs.Refs.{Name}
use Rattle.access_check.specs.declared.verdicts.Want.{Want}
use Rattle.hub_history.specs.declared.entry.Entry.{Entry}
use Rattle.hub_history.specs.declared.entry.EnterKept.{EnterKept}
use Rattle.hub_history.specs.declared.entry.EnterKept.TheVariants.{Granted, Created, Denied, NoRepo}
use Rattle.hub_history.specs.declared.entry.Event.{Event}
use Rattle.hub_history.specs.declared.entry.Event.TheVariants.{Entered, Pushed, Permitted, Looked}
use Rattle.hub_history.specs.State.{State}
use Rattle.hub_history.specs.Opening.{Pinned, pinned_in, pins}
use Rattle.hub_history.specs.History.{History, after, history, history_from, joined, new_history, opening_at, pinned_by, replay, step}
use Rattle.hub_history.specs.Laws.{IsOpeningAt}
use Rattle.hub_history.proofs.HistoryLemmas.{some_same}

-- what each entry pins, in order
slots : History → List Entry → List (Option Pinned)
slots h [] = []
slots h (e ∷ es) = pinned_by (step h e.event) e.event ∷ slots (after h e.event) es

openings-slots : (h : History) (log : List Entry) → (history_from h log).openings ≡ h.openings ++ slots h log
unfolding slots
openings-slots h [] = sym (append-nil h.openings)
openings-slots h (e ∷ log) = openings-slots (after h e.event) log ∙ append_assoc h.openings (pinned_by (step h e.event) e.event ∷ []) (slots (after h e.event) log)

-- where something is pinned an entry stands that pinned it
slot_entry : (h : History) (log : List Entry) (place : ℕ) (p : Pinned) → joined (slice_get (slots h log) place) ≡ Some p
    → (e : Entry) × (slice_get log place ≡ Some e) × (pinned_by (history_from h (take (suc place) log)).state e.event ≡ Some p)
unfolding slots
slot_entry h [] place p is = cc
slot_entry h (x ∷ log) zero p is = (x, refl, is)
slot_entry h (x ∷ log) (suc place) p is = slot_entry (after h x.event) log place p is

pub pins_granted : (after : State) (user repo : Name) (want : Want) (answer : EnterKept) (p : Pinned) → pins after user repo want answer ≡ Some p
    → (p ≡ pinned_in after user repo want) × ((answer ≡ Granted) ⊎ (answer ≡ Created))
pins_granted after user repo want Granted p is = (some_same (sym is), inl refl)
pins_granted after user repo want Created p is = (some_same (sym is), inr refl)
pins_granted after user repo want (Denied verdict) p is = cc
pins_granted after user repo want NoRepo p is = cc

-- what is pinned at a place is what the state had with the opening there
pub pinned_at : (admin : Name) (log : List Entry) (place : ℕ) (p : Pinned) → opening_at (history admin log) place ≡ Some p → IsOpeningAt admin log place p
pinned_at admin log place p is =
    let found = slot_entry (new_history admin) log place p (ap (λ os. joined (slice_get os place)) (sym (openings-slots (new_history admin) log)) ∙ is) in
    by_event found.0.caller found.0.event found.1 found.2
  where
    by_event : (caller : ℕ) (event : Event) → slice_get log place ≡ Some (record { caller = caller; event = event }) → pinned_by (replay admin (take (suc place) log)) event ≡ Some p → IsOpeningAt admin log place p
    by_event caller (Entered user repo want answer) here pinned =
        let granted = pins_granted (replay admin (take (suc place) log)) user repo want answer p pinned in
        subst (λ (q : Pinned). IsOpeningAt admin log place q) (sym granted.0) (record {
          caller = caller;
          answer = answer;
          stands = here;
          granted = granted.1;
          pinned_is = ap (λ (n : ℕ). pinned_in (replay admin (take n log)) user repo want) (sym (add-one place));
        })
    by_event caller (Pushed other pack commands atomic outcomes made) here pinned = cc
    by_event caller (Permitted user repo asked answer) here pinned = cc
    by_event caller (Looked user) here pinned = cc
