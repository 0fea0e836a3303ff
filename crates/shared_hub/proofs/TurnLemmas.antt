-- What a turn is to a desk.
use Rattle.std.proofs.Common.{◌≡◌, ◌⊎◌, ℕ, true, false, List, [], ◌∷◌, ◌++◌, inl, inr, ⊎_elim, sym, ◌∙◌, ap, subst, refl, length, append_assoc, arith, length-append}
use Rattle.std.specs.Prelude.{Option, Some, None, Contains}
use Rattle.std.specs.List.{AllByRecursion}
use Rattle.std.proofs.lemmas.List.Elements.{All-head, All-tail}
use Rattle.turn_lock.specs.Lock.{AreOthers, PassState, SeesItsEntry, Turned, seen}
use Rattle.ref_store.specs.Refs.{Name}
use Rattle.access_check.specs.declared.verdicts.Want.{Want}
use Rattle.wild_perms.specs.declared.answer.PermsAnswer.{PermsAnswer}
use Rattle.hub_history.specs.declared.entry.Entry.{Entry}
use Rattle.hub_history.specs.declared.entry.Event.{Event}
use Rattle.hub_history.specs.declared.entry.PermChange.{PermChange}
use Rattle.hub_history.specs.History.{IsLegal, Stands}
use Rattle.hub_history.specs.Roles.{kept_of}
use Rattle.hub_history.proofs.HistoryLemmas.{stands_kept}
use Rattle.hub.specs.declared.answer.Entered.{Entered}
use Rattle.hub.specs.declared.answer.Entered.TheVariants.{Granted, Created, Denied, NoRepo, NoMemory}
use Rattle.hub.specs.declared.answer.Looked.{Looked}
use Rattle.hub.specs.declared.answer.Pushed.{Pushed}
use Rattle.hub.specs.Answer.{AnswersChange, AnswersLook, AnswersOpening, AnswersPush, kept, looked, opened, permitted, settled}
use Rattle.hub.specs.Desk.{Calls, DeskView, Enters, IsOfAnother, IsSound, KeepsPins, Looks, Permits, Pushes, known}
use Rattle.hub.specs.Hub.{HubView}
use Rattle.shared_hub.specs.declared.kept.KeptEntry.{KeptEntry}
use Rattle.shared_hub.specs.declared.kept.KeptEntry.TheVariants.{First, Logged}
use Rattle.shared_hub.specs.declared.steps.Asked.{Asked}
use Rattle.shared_hub.specs.Kept.{NamesAdmin, admin_in, caller_of, hub_in, log_in}
use Rattle.shared_hub.specs.declared.steps.PushTurn.{PushTurn}
use Rattle.shared_hub.specs.declared.steps.PushTurn.TheVariants.{Settled, Again}
use Rattle.shared_hub.specs.Steps.{Adds, RunsChange, RunsLook, RunsOpening, RunsPush, RunsPushTurn}
use Rattle.shared_hub.specs.Desk.{EndsTurn, desk_of}
use Rattle.shared_hub.specs.Shared.{IsHubPass, log_seen}
use Rattle.shared_hub.proofs.ListLemmas.{NamesAdmin-append, admin_in-append, log_in-append, named_in, no_more}

-- entries that bear none of the numbers are of others than the caller of one of them
of_others : {H : Type 0} (n : ℕ) (numbers : List ℕ) (items : List (KeptEntry H)) → Contains numbers n → AreOthers caller_of numbers items → AllByRecursion (IsOfAnother n) (log_in items)
of_others n numbers [] own others = tt
of_others n numbers (First name was ∷ items) own others = of_others n numbers items own (All-tail (λ e. ¬ (Contains numbers (caller_of e))) (First name was) items others)
of_others n numbers (Logged e ∷ items) own others = (
  λ same. All-head (λ e. ¬ (Contains numbers (caller_of e))) (Logged e) items others (subst (Contains numbers) (sym same) own),
  of_others n numbers items own (All-tail (λ e. ¬ (Contains numbers (caller_of e))) (Logged e) items others),
)

-- after a call every pin that stood stands
calls_keep : (old new : DeskView) (before : List Entry) (event : Option Event) → Calls old new before event → KeepsPins old new
calls_keep old new before None calls pin stands = subst (λ (d : DeskView). Stands pin d.admin d.seen) (sym calls) stands
calls_keep old new before (Some event) calls pin stands =
    let own : List Entry = record { caller = old.caller; event = event } ∷ [] in
    let grown : known new ≡ record { admin = old.admin; log = old.seen ++ (calls.others ++ own) } =
    ap known calls.new_is ∙ ap (λ l. record { admin = old.admin; log = l }) (ap (λ l. l ++ own) calls.before_is ∙ append_assoc old.seen calls.others own) in
    subst (λ (h : HubView). Stands pin h.admin h.log) (sym grown) (stands_kept old.admin old.seen (calls.others ++ own) pin.place pin.pinned stands)

-- a turn that leaves the list leaves the pass
pub looks_on : {H A : Type 0} (old new : PassState (KeptEntry H)) → Turned caller_of (λ before after. (after ≡ before) × A) old new → new ≡ old
looks_on old new turn =
    ⊎_elim (λ left. left.1) (λ sees. absurd (no_more (seen old ++ turn.between) sees.entry (sym sees.added ∙ turn.related.0))) turn.left

-- what a pass of a hub has seen is legal from a user's setup, and its own entries begin within it
pub sound : {H : Type 0} (pass : PassState (KeptEntry H)) → IsHubPass pass → IsSound (desk_of pass)
sound pass of_hub = record {
  named = named_in pass.at_new of_hub.admin;
  legal = of_hub.legal;
  within = omega (arith, ap length (log_in-append pass.at_new pass.since), length-append (log_in pass.at_new) (log_in pass.since));
}

module _ {H : Type 0} (old new : PassState (KeptEntry H)) (between after : List (KeptEntry H)) (names : NamesAdmin old.at_new) where
  -- the log that the step found
  abbrev pub found : List Entry
  found = log_in (seen old ++ between)

  abbrev pub Leaves : Type 0
  Leaves = ((after ≡ seen old ++ between) × (new ≡ old)) ⊎ SeesItsEntry caller_of old new between after

  found_names : NamesAdmin (seen old ++ between)
  found_names = NamesAdmin-append (seen old) between (NamesAdmin-append old.at_new old.since names)

  found_admin : admin_in (seen old ++ between) ≡ admin_in old.at_new
  found_admin = admin_in-append (seen old) between (NamesAdmin-append old.at_new old.since names) ∙ admin_in-append old.at_new old.since names

  found_hub : hub_in (seen old ++ between) ≡ record { admin = admin_in old.at_new; log = found }
  found_hub = λ i. record { admin = found_admin i; log = found }

  -- the list that was left, where an event was added
  left_hub : (event : Event) → Adds old.caller (seen old ++ between) after (Some event) → hub_in after ≡ record { admin = admin_in old.at_new; log = found ++ record { caller = old.caller; event = event } ∷ [] }
  left_hub event adds =
      let entry : List (KeptEntry H) = Logged (record { caller = old.caller; event = event }) ∷ [] in
      ap hub_in adds.0 ∙ (λ i. record { admin = (admin_in-append (seen old ++ between) entry found_names ∙ found_admin) i; log = log_in-append (seen old ++ between) entry i })

  -- what the pass has seen then
  new_desk : (event : Event) → Adds old.caller (seen old ++ between) after (Some event) → Leaves → desk_of new ≡ record (desk_of old) { seen = found ++ record { caller = old.caller; event = event } ∷ [] }
  new_desk event adds (inl left) = absurd (no_more (seen old ++ between) (Logged (record { caller = old.caller; event = event })) (sym adds.0 ∙ left.0))
  new_desk event adds (inr sees) =
      let at_new : new.at_new ≡ old.at_new = ap (λ (p : PassState (KeptEntry H)). p.at_new) sees.pass_is in
      let caller : new.caller ≡ old.caller = ap (λ (p : PassState (KeptEntry H)). p.caller) sees.pass_is in
      let log : log_seen new ≡ found ++ record { caller = old.caller; event = event } ∷ [] = ap log_in sees.seen_is ∙ ap (λ (h : HubView). h.log) (left_hub event adds) in
      λ i. record { admin = admin_in (at_new i); caller = caller i; start = length (log_in (at_new i)); seen = log i; alone = false }

  pub called : Contains old.numbers old.caller → AreOthers caller_of old.numbers between → (event : Option Event) → Adds old.caller (seen old ++ between) after event → Leaves → Calls (desk_of old) (desk_of new) found event
  called own others None adds (inl left) = ap desk_of left.1
  called own others None adds (inr sees) = absurd (no_more (seen old ++ between) sees.entry (sym sees.added ∙ adds))
  called own others (Some event) adds leaves = record {
    others = log_in between;
    before_is = log_in-append (seen old) between;
    of_others = of_others old.caller old.numbers between own others;
    own = refl;
    new_is = new_desk event adds leaves;
    no_others = λ alone. absurd (let never : false ≡ true = alone in cc);
    legal = subst (λ (h : HubView). IsLegal h.admin h.log) (left_hub event adds) adds.1;
  }

  pub stays_pass : IsLegal (admin_in old.at_new) (log_seen old) → (event : Option Event) → Adds old.caller (seen old ++ between) after event → Leaves → IsHubPass new
  stays_pass legal event adds (inl left) = subst IsHubPass (sym left.1) (record { admin = names; legal = legal })
  stays_pass legal None adds (inr sees) = absurd (no_more (seen old ++ between) sees.entry (sym sees.added ∙ adds))
  stays_pass legal (Some event) adds (inr sees) = record {
    admin = subst NamesAdmin (sym (ap (λ (p : PassState (KeptEntry H)). p.at_new) sees.pass_is)) names;
    legal = subst (λ (h : HubView). IsLegal h.admin h.log) (left_hub event adds ∙ sym (ap known (new_desk event adds (inr sees)))) adds.1;
  }

  pub turn_stays : IsLegal (admin_in old.at_new) (log_seen old) → (asked : Asked) (turn : PushTurn) → RunsPushTurn old.caller asked (seen old ++ between) after turn → Leaves → IsHubPass new
  turn_stays legal asked (Settled result) runs leaves = stays_pass legal (settled asked.pin asked.request.pack asked.request.commands asked.request.atomic result) runs.0 leaves
  turn_stays legal asked (Again back wild) runs leaves = stays_pass legal None runs.0 leaves

  pub keeps_pins : Contains old.numbers old.caller → AreOthers caller_of old.numbers between → (event : Option Event) → Adds old.caller (seen old ++ between) after event → Leaves → KeepsPins (desk_of old) (desk_of new)
  keeps_pins own others event adds leaves = calls_keep (desk_of old) (desk_of new) found event (called own others event adds leaves)

  -- an opening is answered by the hub that was found, and its pin stands in what was left
  moved : (user repo : Name) (want : Want) (result : Entered) (event : Event) → Adds old.caller (seen old ++ between) after (Some event) → Leaves → AnswersOpening (hub_in (seen old ++ between)) (hub_in after) user repo want result
      → AnswersOpening (record { admin = admin_in old.at_new; log = found }) (known (desk_of new)) user repo want result
  moved user repo want result event adds leaves answers =
      let left : hub_in after ≡ known (desk_of new) = left_hub event adds ∙ sym (ap known (new_desk event adds leaves)) in
      subst (λ (p : HubView × HubView). AnswersOpening p.0 p.1 user repo want result) (λ i. (found_hub i, left i)) answers

  answered : (user repo : Name) (want : Want) (result : Entered) → RunsOpening old.caller user repo want (seen old ++ between) after result → Leaves
      → AnswersOpening (record { admin = admin_in old.at_new; log = found }) (known (desk_of new)) user repo want result
  answered user repo want (Granted pin) runs leaves = moved user repo want (Granted pin) _ runs.0 leaves runs.1
  answered user repo want (Created pin) runs leaves = moved user repo want (Created pin) _ runs.0 leaves runs.1
  answered user repo want (Denied verdict conf) runs leaves = moved user repo want (Denied verdict conf) _ runs.0 leaves runs.1
  answered user repo want NoRepo runs leaves = tt
  answered user repo want NoMemory runs leaves = tt

  module _ (own : Contains old.numbers old.caller) (others : AreOthers caller_of old.numbers between) where
    pub enters : (user repo : Name) (want : Want) (result : Entered) → RunsOpening old.caller user repo want (seen old ++ between) after result → Leaves → Enters (desk_of old) (desk_of new) user repo want result
    enters user repo want result runs leaves = (found, called own others (opened user repo want (kept result)) runs.0 leaves, answered user repo want result runs leaves)

    pub pushes : (asked : Asked) (result : Pushed) → RunsPush old.caller asked (seen old ++ between) after result → Leaves → Pushes (desk_of old) (desk_of new) asked.pin asked.request.pack asked.request.commands asked.request.atomic result
    pushes asked result runs leaves = (found, called own others (settled asked.pin asked.request.pack asked.request.commands asked.request.atomic result) runs.0 leaves, subst (λ (h : HubView). AnswersPush h asked.pin result) found_hub runs.1)

    -- a turn of a push
    pub pushed_turn : (asked : Asked) (turn : PushTurn) → RunsPushTurn old.caller asked (seen old ++ between) after turn → Leaves → EndsTurn old new asked turn
    pushed_turn asked (Settled result) runs leaves = (pushes asked result runs leaves, keeps_pins own others (settled asked.pin asked.request.pack asked.request.commands asked.request.atomic result) runs.0 leaves)
    pushed_turn asked (Again back wild) runs (inl left) = (left.1, runs.1)
    pushed_turn asked (Again back wild) runs (inr sees) = absurd (no_more (seen old ++ between) sees.entry (sym sees.added ∙ runs.0))

    pub permits : (user repo : Name) (change : PermChange) (result : PermsAnswer) → RunsChange old.caller user repo change (seen old ++ between) after result → Leaves → Permits (desk_of old) (desk_of new) user repo change result
    permits user repo change result runs leaves = (found, called own others (permitted user repo change (kept_of result)) runs.0 leaves, subst (λ (h : HubView). AnswersChange h repo result) found_hub runs.1)

    pub looks : (user : Name) (result : Looked) → RunsLook old.caller user (seen old ++ between) after result → Leaves → Looks (desk_of old) (desk_of new) user result
    looks user result runs leaves = (found, called own others (looked user result) runs.0 leaves, subst (λ (h : HubView). AnswersLook h user result) found_hub runs.1)
