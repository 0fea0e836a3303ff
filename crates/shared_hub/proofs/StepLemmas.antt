-- What a hub's calls do to its list.
use Rattle.std.proofs.Common.{◌≡◌, ℕ, List, [], ◌∷◌, ◌++◌, inl, inr, refl, sym, ◌∙◌, ap, subst}
use Rattle.std.specs.Prelude.{Option, Some, None}
use mathlib.Core.List.{IsPrefix}
use Rattle.turn_lock.specs.Lock.{AddsAtMostOne}
use Rattle.hub_history.specs.declared.entry.Event.{Event}
use Rattle.hub_history.specs.Opening.{Opening}
use Rattle.hub_history.specs.History.{IsLegal, Stands}
use Rattle.hub_history.proofs.HistoryLemmas.{stands_kept}
use Rattle.ref_store.specs.Refs.{Name}
use Rattle.access_check.specs.declared.verdicts.Want.{Want}
use Rattle.hub.specs.declared.answer.Entered.{Entered}
use Rattle.hub.specs.Answer.{AnswersOpening}
use Rattle.hub.specs.Hub.{HubView, Logs, logged}
use Rattle.shared_hub.specs.declared.kept.KeptEntry.{KeptEntry}
use Rattle.shared_hub.specs.declared.kept.KeptEntry.TheVariants.{Logged}
use Rattle.shared_hub.specs.Kept.{KeptState, caller_of, listed, admin_in, log_in, hub_in, NamesAdmin}
use Rattle.shared_hub.specs.Steps.{Adds}
use Rattle.shared_hub.proofs.ListLemmas.{hub_in-listed, listed-logged, log_in-append, admin_in-append}

-- a hub under a lock, which was shared as `first`
module _ {H : Type 0} (view : H → HubView) (kept : KeptState H) (first old : H) (held : record { first = first; hub = old } ≡ kept) where
  abbrev before : List (KeptEntry H)
  before = listed kept.first (view kept.hub)

  before_is : listed first (view old) ≡ before
  before_is = ap (λ (k : KeptState H). listed k.first (view k.hub)) held

  hub_before : view old ≡ hub_in before
  hub_before = sym (hub_in-listed first (view old)) ∙ ap hub_in before_is

  one_more : (new : H) (caller : ℕ) (event : Event) → view new ≡ logged (view old) caller event → listed first (view new) ≡ before ++ Logged (record { caller = caller; event = event }) ∷ []
  one_more new caller event is =
      let own : List (KeptEntry H) = Logged (record { caller = caller; event = event }) ∷ [] in
      ap (listed first) is ∙ listed-logged first (view old) caller event ∙ ap (λ l. l ++ own) before_is

  -- a call adds at most its own entry to the list
  pub adds_one : (new : H) (caller : ℕ) (event : Option Event) → Logs (view old) (view new) caller event
      → AddsAtMostOne {T = KeptState H} (λ k. listed k.first (view k.hub)) caller_of caller kept (record { first = first; hub = new })
  adds_one new caller None is = inl (ap (listed first) is ∙ before_is)
  adds_one new caller (Some event) is = inr (Logged (record { caller = caller; event = event }), refl, one_more new caller event is)

  pub adds : (new : H) (caller : ℕ) (event : Option Event) → Logs (view old) (view new) caller event → IsLegal (view new).admin (view new).log → Adds caller before (listed first (view new)) event
  adds new caller None is legal = ap (listed first) is ∙ before_is
  adds new caller (Some event) is legal = (
    one_more new caller event is,
    subst (λ (h : HubView). IsLegal h.admin h.log) (sym (hub_in-listed first (view new))) legal,
  )

  -- what holds of a hub holds of the hub of its list
  pub of_list : (P : HubView → Type 0) → P (view old) → P (hub_in before)
  of_list P = subst P hub_before

  -- an opening is answered by the hubs of the lists
  pub opens : (user repo : Name) (want : Want) (new : H) (result : Entered) → AnswersOpening (view old) (view new) user repo want result → AnswersOpening (hub_in before) (hub_in (listed first (view new))) user repo want result
  opens user repo want new result = subst (λ (p : HubView × HubView). AnswersOpening p.0 p.1 user repo want result) (λ i. (hub_before i, sym (hub_in-listed first (view new)) i))

  -- a pin that stands in a list stands in the hub whose list goes on from it
  pub stands_in : (known : List (KeptEntry H)) (pin : Opening) → NamesAdmin known → IsPrefix known before → Stands pin (admin_in known) (log_in known) → Stands pin (view old).admin (view old).log
  stands_in known pin names begins stands =
      let grown : hub_in (known ++ begins.0) ≡ view old = ap hub_in begins.1 ∙ sym hub_before in
      let parts : hub_in (known ++ begins.0) ≡ record { admin = admin_in known; log = log_in known ++ log_in begins.0 } = λ i. record { admin = admin_in-append known begins.0 names i; log = log_in-append known begins.0 i } in
      subst (λ (h : HubView). Stands pin h.admin h.log) (sym parts ∙ grown) (stands_kept (admin_in known) (log_in known) (log_in begins.0) pin.place pin.pinned stands)
