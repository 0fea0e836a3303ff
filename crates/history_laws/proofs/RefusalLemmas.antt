-- What a command is told beside the rules is so.
use Rattle.std.proofs.Common.{◌≡◌, ◌<◌, inl, inr, ℕ, zero, suc, Bool, true, false, ◌&&◌, not, cond, List, [], ◌∷◌, ◌++◌, map, length, refl, sym, ◌∙◌, ap, subst, arith}
use Rattle.std.proofs.lemmas.Bool.Decides.{nat_tests}
use Rattle.std.specs.Prelude.{Option, Some, None, Result, Ok, Err, nat_lt, if◌then◌else◌}
use Rattle.std.specs.List.{slice_get}
use Rattle.git_object.specs.Content.{Content}
use Rattle.git_object.specs.declared.object_id.ObjectId.{ObjectId}
use Rattle.ancestry.specs.Wholeness.{missing, wrong}
use Rattle.ref_store.specs.Objects.{same_id, with_pack}
use Rattle.ref_store.specs.RefName.{is_ref_name}
use Rattle.ref_store.specs.Refs.{value, zero_id}
use Rattle.ref_store.specs.declared.command.Command.{Command}
use Rattle.ref_store.proofs.ObjectLemmas.{id_is, same_bytes}
use Rattle.rule_compile.specs.Flat.{Flat}
use Rattle.rule_compile.specs.Patterns.{Patterns}
use Rattle.rule_compile.specs.declared.fault.PolicyFault.{PolicyFault}
use Rattle.update_check.specs.Table.{Counts, First, Passes}
use Rattle.update_check.specs.declared.refusal.Refusal.{Refusal}
use Rattle.update_check.specs.declared.refusal.Refusal.TheVariants as refusal
use Rattle.hub_history.specs.declared.outcome.Outcome.{Outcome}
use Rattle.hub_history.specs.declared.outcome.Outcome.TheVariants.{Done, BadName, Twice, NoChange, NotAdvertised, Missing, WrongKind, Denied, ManyPaths, ConfRefused, DeniedNow, ManyPathsNow, Stale, DirFile, AtomicOther, Collided, Full}
use Rattle.hub_history.specs.Collision.{collision}
use Rattle.hub_history.specs.Conf.{ComesTo}
use Rattle.hub_history.specs.History.{replay}
use Rattle.hub_history.specs.Opening.{Pinned}
use Rattle.hub_history.specs.Push.{ByConfIf, Judges, JudgesAllAtPush, JudgesAtPush, by_command, by_conf, by_new_value, by_refs, by_walk, in_order, is_named_twice, is_of_conf, kind_at, outcome_now, outcome_of, outcomes_in, together, unless_collided, unless_full}
use Rattle.hub_history.specs.State.{InForce, Repository, conf_branch, conf_repository, in_force, repository_at, same_name}
use Rattle.hub_history.proofs.HistoryLemmas.{some_same}
use Rattle.hub_history.proofs.JudgeLemmas.{is_by_refs, judged_at}
use Rattle.hub_history.proofs.MovedLogs.{due_here}
use Rattle.hub_history.proofs.MovedRefs.{same_alike, was_alone}
use Rattle.history_laws.specs.Refusals.{IsSo, RefusalsAreSo}
use Rattle.history_laws.proofs.OutcomeLemmas.{IsRun, refs_tell, run_at}

-- ids that aren't the same
differ : (a b : ObjectId) → same_id a b ≡ false → ¬ (a ≡ b)
differ a b other same = let bad : true ≡ false = sym (same_alike a b same) ∙ other in cc

both_true : (a b : Bool) → (a && b) ≡ true → (a ≡ true) × (b ≡ true)
both_true true b is = (refl, is)
both_true false b is = cc

module _ (ps : Patterns) (force : InForce) (now : Repository) (pinned : Pinned) (pack : List Content) (cs : List Command) (c : Command) where
  abbrev So : Outcome → Type 0
  So = IsSo ps now pinned pack cs c

  abbrev objects_with : List Content
  objects_with = pinned.repository.objects ++ pack

  -- what an option has
  abbrev SoOf : Option Outcome → Type 0
  SoOf None = Unit {0}
  SoOf (Some o) = So o

  by_refs_so : (o : Outcome) → is_by_refs o ≡ true → So o
  by_refs_so Done by = tt
  by_refs_so BadName by = absurd cc
  by_refs_so Twice by = absurd cc
  by_refs_so NoChange by = absurd cc
  by_refs_so (NotAdvertised id) by = absurd cc
  by_refs_so (Missing id) by = absurd cc
  by_refs_so (WrongKind id) by = absurd cc
  by_refs_so (Denied verdict letter name) by = absurd cc
  by_refs_so ManyPaths by = absurd cc
  by_refs_so (ConfRefused fault) by = absurd cc
  by_refs_so (DeniedNow verdict letter name) by = absurd cc
  by_refs_so ManyPathsNow by = absurd cc
  by_refs_so (Stale id) by = tt
  by_refs_so (DirFile r) by = tt
  by_refs_so (AtomicOther place) by = tt
  by_refs_so (Collided id) by = absurd cc
  by_refs_so (Full count) by = absurd cc

  command_so : SoOf (by_command pinned (is_named_twice cs c.name) c)
  command_so = by_case (is_ref_name c.name) refl (is_named_twice cs c.name) refl (same_id c.old c.new) refl (same_id (value pinned.repository.refs c.name) c.old) refl
    where
      by_case : (a : Bool) → is_ref_name c.name ≡ a → (b : Bool) → is_named_twice cs c.name ≡ b → (d : Bool) → same_id c.old c.new ≡ d → (e : Bool) → same_id (value pinned.repository.refs c.name) c.old ≡ e
          → SoOf (cond (not a) (Some BadName) (cond b (Some Twice) (cond d (Some NoChange) (cond (not e) (Some (NotAdvertised (value pinned.repository.refs c.name))) None))))
      by_case false bad b p d q e r = bad
      by_case true good true twice d q e r = twice
      by_case true good false once true same e r = id_is c.old c.new same
      by_case true good false once false moves false other = (refl, differ (value pinned.repository.refs c.name) c.old other)
      by_case true good false once false moves true current = tt

  value_so : SoOf (by_new_value objects_with c)
  value_so = by_zero (same_id c.new zero_id) refl
    where
      by_found : same_id c.new zero_id ≡ false → (m : Option ObjectId) → missing objects_with c.new (kind_at c.name) ≡ m → (w : Option ObjectId) → wrong objects_with c.new (kind_at c.name) ≡ w → SoOf (by_walk m w)
      by_found new (Some id) lacks w p = (differ c.new zero_id new, lacks)
      by_found new None whole (Some id) is = (differ c.new zero_id new, is)
      by_found new None whole None right = tt

      by_zero : (b : Bool) → same_id c.new zero_id ≡ b → SoOf (cond b None (by_walk (missing objects_with c.new (kind_at c.name)) (wrong objects_with c.new (kind_at c.name))))
      by_zero true deletes = tt
      by_zero false new = by_found new (missing objects_with c.new (kind_at c.name)) refl (wrong objects_with c.new (kind_at c.name)) refl

  rules_so : (r : Option Refusal) → SoOf (outcome_of r)
  rules_so None = tt
  rules_so (Some (refusal.Denied verdict letter name)) = tt
  rules_so (Some refusal.ManyPaths) = tt

  rules_now_so : (r : Option Refusal) → SoOf (outcome_now r)
  rules_now_so None = tt
  rules_now_so (Some (refusal.Denied verdict letter name)) = tt
  rules_now_so (Some refusal.ManyPaths) = tt

  conf_so : (b : Bool) → is_of_conf pinned.repo c.name ≡ b → (said : Option Outcome) → ByConfIf b ps objects_with c said → SoOf said
  conf_so false other said is = subst SoOf (sym is) tt
  conf_so true of said by = subst SoOf (sym by.2) (of_result by.0 by.1)
    where
      named : (same_name conf_repository pinned.repo ≡ true) × (same_name conf_branch c.name ≡ true)
      named = both_true (same_name conf_repository pinned.repo) (same_name conf_branch c.name) of

      of_result : (comes : Result Flat PolicyFault) → ComesTo ps objects_with c.new comes → SoOf (by_conf comes)
      of_result (Ok rules) comes = tt
      of_result (Err fault) comes = (sym (same_bytes conf_repository pinned.repo named.0), sym (same_bytes conf_branch c.name named.1), comes)

  -- a table of such rows has what is so
  first_so : {Row Behind : Option Outcome → Type 0} → ((o : Option Outcome) → Row o → SoOf o) → ((o : Option Outcome) → Behind o → SoOf o) → (found : Option Outcome) → First Row Behind found → SoOf found
  first_so rows behinds found (Counts outcome row) = rows (Some outcome) row
  first_so rows behinds found (Passes f row behind) = behinds f behind

  opening_so : (found : Option Outcome) → Judges ps pinned pack cs c found → SoOf found
  opening_so =
      first_so (λ o is. subst SoOf (sym is) command_so)
      (first_so (λ o is. subst SoOf (sym is) value_so)
      (first_so (λ o by. subst SoOf (sym by.4) (rules_so by.1))
      (first_so (conf_so (is_of_conf pinned.repo c.name) refl)
      (λ o is. subst SoOf (sym is) tt))))

  judged_so : (found : Option Outcome) → JudgesAtPush ps force pinned pack cs c found → SoOf found
  judged_so = first_so opening_so (first_so (λ o by. subst SoOf (sym by.4) (rules_now_so by.1)) (λ o is. subst SoOf (sym is) tt))

  -- ---- the whole push

  module _ (atomic : Bool) (js : List (Option Outcome)) (judges : JudgesAllAtPush ps force pinned pack cs js) (k : ℕ) (o : Outcome) (is : slice_get cs k ≡ Some c) where
    abbrev run : List Outcome
    run = in_order now.refs cs js

    run_so : slice_get run k ≡ Some o → So o
    run_so ran = by_said at.said at.said_is at.told_is
      where
        at : IsRun cs js k o
        at = run_at now.refs cs js k o ran

        by_said : (j : Option Outcome) → slice_get js k ≡ Some j → o ≡ by_refs at.refs at.command j → So o
        by_said None e same = by_refs_so o (ap is_by_refs same ∙ refs_tell at.refs at.command)
        by_said (Some x) e same = subst So (sym same) (judged_so (Some x) (judged_at (JudgesAtPush ps force pinned pack cs) cs js judges k c (Some x) is e))

    together_so : slice_get (together atomic run) k ≡ Some o → So o
    together_so told = elim (was_alone atomic run k o told) [
      | inl same ↦ run_so same
      | inr w ↦ subst So (sym w.2) tt
    ]

    alike : (a : Outcome) (ds : List Command) (i : ℕ) → slice_get (map (λ (d : Command). a) ds) i ≡ Some o → a ≡ o
    alike a [] i told = cc
    alike a (d ∷ ds) zero told = some_same told
    alike a (d ∷ ds) (suc i) told = alike a ds i told

    abbrev count : ℕ
    count = length (with_pack now.objects pack)

    above : nat_lt 4294967295 count ≡ true → 4294967295 < count
    above is = grind (arith, nat_tests)

    full_so : (b : Bool) → nat_lt 4294967295 count ≡ b → slice_get (if b then map (λ c. Full count) cs else together atomic run) k ≡ Some o → So o
    full_so true full told = subst So (alike (Full count) cs k told) (refl, above full)
    full_so false fits told = together_so told

    collided_so : (x : Option ObjectId) → collision now.objects pack ≡ x → slice_get (unless_collided x cs (unless_full count cs (together atomic run))) k ≡ Some o → So o
    collided_so (Some id) collides told = subst So (alike (Collided id) cs k told) collides
    collided_so None apart told = full_so (nat_lt 4294967295 count) refl told

    pub told_so : slice_get (outcomes_in now pack cs atomic js) k ≡ Some o → So o
    told_so told = collided_so (collision now.objects pack) refl told

pub refusals_are_so : RefusalsAreSo
refusals_are_so = λ admin before entry pinned command outcome legal t ps ok.
    let due = due_here ps ok admin before entry legal t.place t.pack t.commands t.atomic t.outcomes t.made pinned t.is_push t.opening in
    told_so ps (in_force (replay admin before) pinned.repo) (repository_at (replay admin before) pinned.repo) pinned t.pack t.commands command t.atomic due.judged due.judges t.index outcome t.command_is
    (ap (λ (os : List Outcome). slice_get os t.index) (sym due.told) ∙ t.outcome_is)
