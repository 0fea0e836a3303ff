-- Along a legal log each ref's value stays whole.
use Rattle.std.proofs.Common.{◌≡◌, ◌⊎◌, inl, inr, ℕ, zero, suc, List, [], ◌∷◌, ◌++◌, refl, sym, ◌∙◌, subst, true}
use Rattle.std.specs.Prelude.{Option, Some, None}
use Rattle.std.specs.List.{list_any, slice_get}
use Rattle.std.specs.Ordering.{nat_cmp}
use Rattle.std.specs.Cmp.Lexicographic.{slice_cmp}
use Rattle.std.specs.FinMap.{get-empty}
use Rattle.git_object.specs.declared.object_id.ObjectId.{ObjectId}
use Rattle.ref_store.specs.Objects.{with_pack}
use Rattle.ref_store.specs.Refs.{Name}
use Rattle.rule_compile.specs.Patterns.{AreTrue, Patterns}
use Rattle.access_check.specs.declared.verdicts.Want.{Want}
use Rattle.hub_history.specs.declared.outcome.Outcome.{Outcome}
use Rattle.hub_history.specs.declared.entry.Entry.{Entry}
use Rattle.hub_history.specs.declared.entry.EnterKept.{EnterKept}
use Rattle.hub_history.specs.declared.entry.Event.{Event}
use Rattle.hub_history.specs.declared.entry.Event.TheVariants.{Entered, Pushed, Permitted, Looked}
use Rattle.hub_history.specs.History.{History, IsDue, IsDueAfter, IsLegal, Stands, after, after_push, history, joined, new_history, opening_at, pinned_by, replay, step}
use Rattle.hub_history.specs.Laws.{OfEachRepository}
use Rattle.hub_history.specs.Opening.{Opening, Pinned, pins}
use Rattle.hub_history.specs.Push.{HasWholeRefs, is_done, refs_left}
use Rattle.hub_history.specs.State.{State, empty_repository, in_force, repository_at}
use Rattle.hub_history.proofs.EachRepository.{Each, each-given, each-opening, each-push, each-start, each_at, each_pinned}
use Rattle.hub_history.proofs.GrowthLemmas.{Grows, begins_itself, begins_through, grows-step, objects_follow}
use Rattle.hub_history.proofs.HistoryLemmas.{history-keeps}
use Rattle.hub_history.proofs.OpeningLemmas.{pins_granted}
use Rattle.hub_history.proofs.WholeRefs.{Begins, WholeIn, whole_pushed}

-- what each opening pinned its repository begins with
abbrev BeginsPinned : History → Type 0
BeginsPinned h = (place : ℕ) (p : Pinned) → opening_at h place ≡ Some p → Begins p.repository.objects (repository_at h.state p.repo).objects

abbrev StaysWhole : History → Type 0
StaysWhole h = Each HasWholeRefs h.state.repositories × BeginsPinned h

pub opening_last : (os : List (Option Pinned)) (q : Option Pinned) (place : ℕ) (p : Pinned) → joined (slice_get (os ++ q ∷ []) place) ≡ Some p → (joined (slice_get os place) ≡ Some p) ⊎ (q ≡ Some p)
opening_last [] q zero p is = inr is
opening_last [] q (suc place) p is = cc
opening_last (o ∷ os) q zero p is = inl is
opening_last (o ∷ os) q (suc place) p is = opening_last os q place p is

pinned_begins : (state : State) (user repo : Name) (want : Want) (answer : EnterKept) (p : Pinned) → pins state user repo want answer ≡ Some p → Begins p.repository.objects (repository_at state p.repo).objects
pinned_begins state user repo want answer p is =
    subst (λ (q : Pinned). Begins q.repository.objects (repository_at state q.repo).objects) (sym (pins_granted state user repo want answer p is).0) (begins_itself (repository_at state repo).objects)

new_pin : (state : State) (event : Event) (p : Pinned) → pinned_by state event ≡ Some p → Begins p.repository.objects (repository_at state p.repo).objects
new_pin state (Entered user repo want answer) p is = pinned_begins state user repo want answer p is
new_pin state (Pushed place pack commands atomic outcomes made) p is = absurd cc
new_pin state (Permitted user repo asked answer) p is = absurd cc
new_pin state (Looked user) p is = absurd cc

begins-after : (h : History) (event : Event) → Grows h.state (step h event) → BeginsPinned h → BeginsPinned (after h event)
begins-after h event grows begins place p is =
    elim (opening_last h.openings (pinned_by (step h event) event) place p is) [
      | inl old ↦ begins_through p.repository.objects (repository_at h.state p.repo).objects (repository_at (step h event) p.repo).objects (begins place p old) (objects_follow h.state (step h event) grows p.repo)
      | inr pinned ↦ new_pin (step h event) event p pinned
    ]

pub whole_empty : (creator : Option Name) → HasWholeRefs (empty_repository creator)
whole_empty creator q id is = let none = sym (get-empty {X = ObjectId} (slice_cmp nat_cmp) q) ∙ is in cc

module _ (ps : Patterns) where
  each_step : (h : History) (event : Event) → IsDue ps h event → StaysWhole h → Each HasWholeRefs (step h event).repositories
  each_step h (Entered user repo want answer) due held = each-opening HasWholeRefs h.state user repo answer (whole_empty (Some user)) held.0
  each_step h (Pushed place pack commands atomic outcomes made) due held = by_opening (opening_at h place) refl due
    where
      by_opening : (o : Option Pinned) → opening_at h place ≡ o → IsDueAfter ps h.state o pack commands atomic outcomes made → Each HasWholeRefs (after_push h.state o pack commands outcomes made).repositories
      by_opening None is due = absurd due
      by_opening (Some pinned) is due =
          each-push HasWholeRefs h.state pinned pack commands outcomes made (whole_empty None)
          (λ done. subst (λ (os : List Outcome). WholeIn (with_pack (repository_at h.state pinned.repo).objects pack) (refs_left (repository_at h.state pinned.repo).refs commands os)) (sym due.told)
          (whole_pushed ps (in_force h.state pinned.repo) (repository_at h.state pinned.repo) pinned pack commands atomic due.judged due.judges (held.1 place pinned is) (each_at HasWholeRefs h.state pinned.repo (whole_empty None) held.0)
          (subst (λ (os : List Outcome). list_any is_done os ≡ true) due.told done))) held.0
  each_step h (Permitted user repo asked answer) due held = each-given HasWholeRefs (λ repository roles whole. whole) h.state repo asked answer (whole_empty None) held.0
  each_step h (Looked user) due held = held.0

  stays_whole : (h : History) (event : Event) → IsDue ps h event → StaysWhole h → StaysWhole (after h event)
  stays_whole h event due held = (each_step h event due held, begins-after h event (grows-step ps h event due) held.1)

  module _ (ok : AreTrue ps) where
    kept_whole : (admin : Name) (log : List Entry) → IsLegal admin log → StaysWhole (history admin log)
    kept_whole admin log legal = history-keeps ps StaysWhole stays_whole (new_history admin) log (legal ps ok) (each-start HasWholeRefs admin (whole_empty None), λ place p is. cc)

    replayed_whole : (admin : Name) (log : List Entry) → IsLegal admin log → Each HasWholeRefs (replay admin log).repositories
    replayed_whole admin log legal = (kept_whole admin log legal).0

    pub refs_whole : OfEachRepository HasWholeRefs
    refs_whole admin log legal = (replayed_whole admin log legal, each_pinned HasWholeRefs replayed_whole (whole_empty None) admin log legal)

    -- the same of a repository that may be absent
    pub whole_at : (admin : Name) (log : List Entry) → IsLegal admin log → (name : Name) → HasWholeRefs (repository_at (replay admin log) name)
    whole_at admin log legal name = each_at HasWholeRefs (replay admin log) name (whole_empty None) (replayed_whole admin log legal)

    -- the objects that an opening pinned are the first of those that are there now
    pub pinned_first : (admin : Name) (log : List Entry) → IsLegal admin log → (opening : Opening) → Stands opening admin log → Begins opening.pinned.repository.objects (repository_at (replay admin log) opening.pinned.repo).objects
    pinned_first admin log legal opening stands = (kept_whole admin log legal).1 opening.place opening.pinned stands
