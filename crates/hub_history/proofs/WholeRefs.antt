-- Each ref's value is whole in its repository.
use Rattle.std.proofs.Common.{◌≡◌, ◌⊎◌, inl, inr, List, [], ◌∷◌, ◌++◌, refl, sym, ◌∙◌, ap, subst, T, Bool, true, false, cond}
use Rattle.std.specs.Prelude.{Option, Some, None, if◌then◌else◌}
use Rattle.std.specs.List.{list_any}
use Rattle.std.specs.Ordering.{nat_cmp, eq_by_cmp}
use Rattle.std.specs.Cmp.Lexicographic.{slice_cmp, nat_list_cmp_total, texts_ties}
use Rattle.std.specs.FinMap.{get, insert, remove, get-insert, get-remove}
use Rattle.git_object.specs.Content.{Content}
use Rattle.git_object.specs.declared.object_id.ObjectId.{ObjectId}
use Rattle.ref_store.specs.Objects.{same_id, with_pack}
use Rattle.ref_store.specs.Refs.{Name, Refs, zero_id, moved}
use Rattle.ref_store.specs.declared.command.Command.{Command}
use Rattle.ref_store.proofs.ObjectLemmas.{same_bytes}
use Rattle.ancestry.specs.Wholeness.{missing, wrong}
use Rattle.rule_compile.specs.Patterns.{Patterns}
use Rattle.hub_history.specs.declared.outcome.Outcome.{Outcome}
use Rattle.hub_history.specs.Collision.{collision}
use Rattle.hub_history.specs.State.{InForce, Repository}
use Rattle.hub_history.specs.Opening.{Pinned}
use Rattle.hub_history.specs.Push.{HasWholeRefs, JudgesAllAtPush, JudgesAtPush, by_refs, by_walk, in_order, is_done, kind_at, outcomes_in, refs_after, refs_left}
use Rattle.hub_history.proofs.HistoryLemmas.{some_same}
use Rattle.hub_history.proofs.PushLemmas.{done_in_order}
use Rattle.hub_history.proofs.JudgeLemmas.{AllJudged, all_along, before_refs, not_done, untold}
use Rattle.hub_history.proofs.GrownObjects.{Extends, IsWhole, extends_beginning, extends_pack, whole_grows}

-- I. The refs that a push leaves

abbrev pub WholeIn : List Content → Refs → Type 0
WholeIn objects refs = (name : Name) (id : ObjectId) → get refs name ≡ Some id → IsWhole objects id (kind_at name)

-- a command that isn't refused deletes its ref, or its new value is whole
abbrev Moves : List Content → Command → Option Outcome → Type 0
Moves objects c None = (same_id c.new zero_id ≡ true) ⊎ IsWhole objects c.new (kind_at c.name)
Moves objects c (Some outcome) = is_done outcome ≡ false

-- a command of which nothing is said before the refs are asked
judged_moves : (ps : Patterns) (force : InForce) (pinned : Pinned) (pack : List Content) (cs : List Command) (c : Command) (found : Option Outcome) → JudgesAtPush ps force pinned pack cs c found → Moves (pinned.repository.objects ++ pack) c found
judged_moves ps force pinned pack cs c (Some o) judges = not_done o (before_refs ps force pinned pack cs c (Some o) judges)
judged_moves ps force pinned pack cs c None judges = by_zero (same_id c.new zero_id) (missing (pinned.repository.objects ++ pack) c.new (kind_at c.name)) (wrong (pinned.repository.objects ++ pack) c.new (kind_at c.name)) refl refl refl (untold ps force pinned pack cs c judges).value
  where
    by_zero : (z : Bool) (m w : Option ObjectId) → same_id c.new zero_id ≡ z → missing (pinned.repository.objects ++ pack) c.new (kind_at c.name) ≡ m → wrong (pinned.repository.objects ++ pack) c.new (kind_at c.name) ≡ w
        → None ≡ cond z None (by_walk m w) → Moves (pinned.repository.objects ++ pack) c None
    by_zero true m w is there kinds none = inl is
    by_zero false (Some id) w is there kinds none = absurd cc
    by_zero false None (Some id) is there kinds none = absurd cc
    by_zero false None None is there kinds none = inr (there, kinds)

moves_grow : (small large : List Content) → Extends small large → (c : Command) (j : Option Outcome) → Moves small c j → Moves large c j
moves_grow small large extends c (Some outcome) moves = moves
moves_grow small large extends c None (inl deletes) = inl deletes
moves_grow small large extends c None (inr whole) = inr (whole_grows small large extends c.new (kind_at c.name) whole)

module _ (objects : List Content) where
  whole-insert : (refs : Refs) (name : Name) (id : ObjectId) → IsWhole objects id (kind_at name) → WholeIn objects refs → WholeIn objects (insert refs name id)
  whole-insert refs name id here whole q found is = by_name (eq_by_cmp (slice_cmp nat_cmp) q name) refl (sym (get-insert nat_list_cmp_total refs name id q) ∙ is)
    where
      by_name : (b : Bool) → eq_by_cmp (slice_cmp nat_cmp) q name ≡ b → cond b (Some id) (get refs q) ≡ Some found → IsWhole objects found (kind_at q)
      by_name true same has =
          subst (λ (n : Name). IsWhole objects found (kind_at n)) (sym (same_bytes q name (texts_ties q name ∙ same))) (subst (λ (i : ObjectId). IsWhole objects i (kind_at name)) (some_same has) here)
      by_name false other has = whole q found has

  whole-remove : (refs : Refs) (name : Name) → WholeIn objects refs → WholeIn objects (remove refs name)
  whole-remove refs name whole q found is = by_name (eq_by_cmp (slice_cmp nat_cmp) q name) (sym (get-remove nat_list_cmp_total refs name q) ∙ is)
    where
      by_name : (b : Bool) → cond b None (get refs q) ≡ Some found → IsWhole objects found (kind_at q)
      by_name true has = cc
      by_name false has = whole q found has

  whole-moved : (refs : Refs) (c : Command) → Moves objects c None → WholeIn objects refs → WholeIn objects (moved refs c.name c.new)
  whole-moved refs c moves whole = by_zero (same_id c.new zero_id) refl moves
    where
      by_zero : (b : Bool) → same_id c.new zero_id ≡ b → Moves objects c None → WholeIn objects (if b then remove refs c.name else insert refs c.name c.new)
      by_zero true deletes moves = whole-remove refs c.name whole
      by_zero false other (inl deletes) = absurd (subst T (sym deletes ∙ other) tt)
      by_zero false other (inr here) = whole-insert refs c.name c.new here whole

  whole-after : (refs : Refs) (c : Command) (j : Option Outcome) → Moves objects c j → WholeIn objects refs → WholeIn objects (refs_after refs c (by_refs refs c j))
  whole-after refs c (Some outcome) refused whole = subst (λ (b : Bool). WholeIn objects (if b then moved refs c.name c.new else refs)) (sym refused) whole
  whole-after refs c None moves whole = by_done (is_done (by_refs refs c None))
    where
      by_done : (b : Bool) → WholeIn objects (if b then moved refs c.name c.new else refs)
      by_done true = whole-moved refs c moves whole
      by_done false = whole

  whole-left : (refs : Refs) (cs : List Command) (js : List (Option Outcome)) → AllJudged (Moves objects) cs js → WholeIn objects refs → WholeIn objects (refs_left refs cs (in_order refs cs js))
  whole-left refs [] js all whole = whole
  whole-left refs (c ∷ cs) [] all whole = whole
  whole-left refs (c ∷ cs) (j ∷ js) all whole = whole-left (refs_after refs c (by_refs refs c j)) cs js all.1 (whole-after refs c j all.0 whole)

-- the one list begins with the other
abbrev pub Begins : List Content → List Content → Type 0
Begins old new = (more : List Content) × (new ≡ old ++ more)

pub whole_pushed : (ps : Patterns) (force : InForce) (now : Repository) (pinned : Pinned) (pack : List Content) (cs : List Command) (atomic : Bool) (js : List (Option Outcome)) → JudgesAllAtPush ps force pinned pack cs js → Begins pinned.repository.objects now.objects → HasWholeRefs now
    → list_any is_done (outcomes_in now pack cs atomic js) ≡ true
    → WholeIn (with_pack now.objects pack) (refs_left now.refs cs (outcomes_in now pack cs atomic js))
whole_pushed ps force now pinned pack cs atomic js judges begins whole done =
    let ran = done_in_order now pack cs atomic js done in
    let apart : collision (pinned.repository.objects ++ begins.0) pack ≡ None = ap (λ os. collision os pack) (sym begins.1) ∙ ran.0 in
    let extends : Extends (pinned.repository.objects ++ pack) (with_pack now.objects pack) =
    subst (λ (os : List Content). Extends (pinned.repository.objects ++ pack) (with_pack os pack)) (sym begins.1) (extends_beginning pinned.repository.objects begins.0 pack apart) in
    let kept : WholeIn (with_pack now.objects pack) now.refs = λ name id is. whole_grows now.objects (with_pack now.objects pack) (extends_pack now.objects pack) id (kind_at name) (whole name id is) in
    subst (λ (os : List Outcome). WholeIn (with_pack now.objects pack) (refs_left now.refs cs os)) (sym ran.1)
    (whole-left (with_pack now.objects pack) now.refs cs js
    (all_along (λ c o is. moves_grow (pinned.repository.objects ++ pack) (with_pack now.objects pack) extends c o (judged_moves ps force pinned pack cs c o is)) cs js judges) kept)
