-- Legal logs in which the same was asked are one.
use Rattle.std.proofs.Common.{◌≡◌, ℕ, List, [], ◌∷◌, map, refl, sym, ◌∙◌, ap, ap₂, subst}
use Rattle.std.specs.Prelude.{Option, Some, None, Bool}
use Rattle.git_object.specs.Content.{Content}
use Rattle.ref_store.specs.Refs.{Name}
use Rattle.ref_store.specs.declared.command.Command.{Command}
use Rattle.rule_compile.specs.Patterns.{AreTrue, Patterns}
use Rattle.hub_history.specs.declared.outcome.Outcome.{Outcome}
use Rattle.hub_history.specs.declared.entry.Entry.{Entry}
use Rattle.hub_history.specs.declared.entry.EnterKept.{EnterKept}
use Rattle.hub_history.specs.declared.entry.PermsKept.{PermsKept}
use Rattle.hub_history.specs.declared.entry.Event.{Event}
use Rattle.hub_history.specs.declared.entry.Event.TheVariants.{Entered, Pushed, Permitted, Looked}
use Rattle.hub_history.specs.History.{History, IsDue, IsDueAfter, IsLegalFrom, after, new_history, opening_at}
use Rattle.hub_history.specs.Laws.{OneAnswer}
use Rattle.hub_history.specs.Opening.{IsDueOpening, Pinned}
use Rattle.hub_history.specs.Requests.{Enter, Look, Permit, Push, Request, request_of}
use Rattle.hub_history.specs.Roles.{IsDueChange}
use Rattle.history_laws.specs.StateLaws.{OneLog, asked_in}

-- ---- events by their requests and answers

abbrev entered_by : EnterKept → Request → Event
entered_by answer (Enter user repo want) = Entered user repo want answer
entered_by answer other = Looked []

abbrev pushed_by : List Outcome → List Name → Request → Event
pushed_by outcomes made (Push place pack commands atomic) = Pushed place pack commands atomic outcomes made
pushed_by outcomes made other = Looked []

abbrev permitted_by : PermsKept → Request → Event
permitted_by answer (Permit user repo change) = Permitted user repo change answer
permitted_by answer other = Looked []

abbrev looked_by : Request → Event
looked_by (Look user) = Looked user
looked_by other = Looked []

module _ (one : OneAnswer) (ps : Patterns) where
  -- ---- the answers that are due to a request

  abbrev EnterDue : History → EnterKept → Request → Type 0
  EnterDue h answer (Enter user repo want) = IsDueOpening ps h.state user repo want answer
  EnterDue h answer other = Unit {0}

  abbrev PushDue : History → List Outcome → List Name → Request → Type 0
  PushDue h outcomes made (Push place pack commands atomic) = IsDueAfter ps h.state (opening_at h place) pack commands atomic outcomes made
  PushDue h outcomes made other = Unit {0}

  abbrev PermitDue : History → PermsKept → Request → Type 0
  PermitDue h answer (Permit user repo change) = IsDueChange ps h.state user repo change answer
  PermitDue h answer other = Unit {0}

  one_push : (h : History) (place : ℕ) (pack : List Content) (cs : List Command) (atomic : Bool) (os : List Outcome) (made : List Name) (qs : List Outcome) (others : List Name)
      → IsDueAfter ps h.state (opening_at h place) pack cs atomic os made → IsDueAfter ps h.state (opening_at h place) pack cs atomic qs others → (os ≡ qs) × (made ≡ others)
  one_push h place pack cs atomic os made qs others = by_opening (opening_at h place)
    where
      by_opening : (o : Option Pinned) → IsDueAfter ps h.state o pack cs atomic os made → IsDueAfter ps h.state o pack cs atomic qs others → (os ≡ qs) × (made ≡ others)
      by_opening None due again_due = absurd due
      by_opening (Some pinned) due again_due = one.push ps h.state pinned pack cs atomic os qs made others due again_due

  -- one event answers one request
  one_event : (h : History) (a b : Event) → IsDue ps h a → IsDue ps h b → request_of a ≡ request_of b → a ≡ b
  one_event h (Entered user repo want answer) (Entered user2 repo2 want2 other) due again_due same =
      let again : IsDueOpening ps h.state user repo want other = subst (EnterDue h other) (sym same) again_due.1 in
      ap (λ (x : EnterKept). Entered user repo want x) (one.opening ps h.state user repo want answer other due.1 again) ∙ ap (entered_by other) same
  one_event h (Pushed place pack cs atomic os made) (Pushed place2 pack2 cs2 atomic2 os2 made2) due again_due same =
      let again : IsDueAfter ps h.state (opening_at h place) pack cs atomic os2 made2 = subst (PushDue h os2 made2) (sym same) again_due in
      let told = one_push h place pack cs atomic os made os2 made2 due again in
      ap₂ (λ (x : List Outcome) (m : List Name). Pushed place pack cs atomic x m) told.0 told.1 ∙ ap (pushed_by os2 made2) same
  one_event h (Permitted user repo asked answer) (Permitted user2 repo2 asked2 other) due again_due same =
      let again : IsDueChange ps h.state user repo asked other = subst (PermitDue h other) (sym same) again_due.3 in
      ap (λ (x : PermsKept). Permitted user repo asked x) (one.change ps h.state user repo asked answer other due.3 again) ∙ ap (permitted_by other) same
  one_event h (Looked user) (Looked user2) due again_due same = ap looked_by same
  one_event h (Entered user repo want answer) (Pushed place pack cs atomic os made) due again_due same = absurd cc
  one_event h (Entered user repo want answer) (Permitted user2 repo2 asked other) due again_due same = absurd cc
  one_event h (Entered user repo want answer) (Looked user2) due again_due same = absurd cc
  one_event h (Pushed place pack cs atomic os made) (Entered user repo want answer) due again_due same = absurd cc
  one_event h (Pushed place pack cs atomic os made) (Permitted user repo asked answer) due again_due same = absurd cc
  one_event h (Pushed place pack cs atomic os made) (Looked user) due again_due same = absurd cc
  one_event h (Permitted user repo asked answer) (Entered user2 repo2 want other) due again_due same = absurd cc
  one_event h (Permitted user repo asked answer) (Pushed place pack cs atomic os made) due again_due same = absurd cc
  one_event h (Permitted user repo asked answer) (Looked user2) due again_due same = absurd cc
  one_event h (Looked user) (Entered user2 repo want answer) due again_due same = absurd cc
  one_event h (Looked user) (Pushed place pack cs atomic os made) due again_due same = absurd cc
  one_event h (Looked user) (Permitted user2 repo asked answer) due again_due same = absurd cc

  -- ---- along a log

  heads : {X : Type 0} {a b : X} {as_ bs : List X} → a ∷ as_ ≡ b ∷ bs → a ≡ b
  heads {X} {a} {b} {as_} {bs} same = cc

  tails : {X : Type 0} {a b : X} {as_ bs : List X} → a ∷ as_ ≡ b ∷ bs → as_ ≡ bs
  tails {X} {a} {b} {as_} {bs} same = cc

  one_from : (h : History) (xs ys : List Entry) → IsLegalFrom ps h xs → IsLegalFrom ps h ys → map asked_in xs ≡ map asked_in ys → xs ≡ ys
  one_from h [] [] legal other same = refl
  one_from h [] (y ∷ ys) legal other same = absurd cc
  one_from h (x ∷ xs) [] legal other same = absurd cc
  one_from h (x ∷ xs) (y ∷ ys) legal other same =
      let first : asked_in x ≡ asked_in y = heads same in
      let event : x.event ≡ y.event = one_event h x.event y.event legal.0 other.0 (ap (λ (p : ℕ × Request). p.1) first) in
      let rest : xs ≡ ys = one_from (after h x.event) xs ys legal.1 (subst (λ (e : Event). IsLegalFrom ps (after h e) ys) (sym event) other.1) (tails same) in
      let entry : x ≡ y = ap₂ (λ (caller : ℕ) (e : Event). record { caller = caller; event = e }) (ap (λ (p : ℕ × Request). p.0) first) event in
      ap₂ (λ (e : Entry) (es : List Entry). e ∷ es) entry rest

pub one_log : OneAnswer → (ps : Patterns) → AreTrue ps → OneLog
one_log one ps ok admin xs ys legal other same = one_from one ps (new_history admin) xs ys (legal ps ok) (other ps ok) same
