-- What a command is told in order, before the outcomes of an atomic push are taken together.
use Rattle.std.proofs.Common.{◌≡◌, inl, inr, ℕ, zero, suc, Bool, true, false, not, cond, List, [], ◌∷◌, map, length, refl, sym, ◌∙◌, ap, subst}
use Rattle.std.specs.Prelude.{Option, Some, None, nat_lt, if◌then◌else◌}
use Rattle.std.specs.List.{slice_get}
use Rattle.git_object.specs.Content.{Content}
use Rattle.git_object.specs.declared.object_id.ObjectId.{ObjectId}
use Rattle.ref_store.specs.Objects.{same_id, with_pack}
use Rattle.ref_store.specs.Refs.{Name, Refs, first_at_odds, value, zero_id}
use Rattle.ref_store.specs.declared.command.Command.{Command}
use Rattle.rule_compile.specs.Patterns.{Patterns}
use Rattle.hub_history.specs.declared.outcome.Outcome.{Outcome}
use Rattle.hub_history.specs.declared.outcome.Outcome.TheVariants.{Done, BadName, Twice, NoChange, NotAdvertised, Missing, WrongKind, Denied, ManyPaths, ConfRefused, DeniedNow, ManyPathsNow, Stale, DirFile, AtomicOther, Collided, Full}
use Rattle.hub_history.specs.Collision.{collision}
use Rattle.hub_history.specs.Opening.{Pinned}
use Rattle.hub_history.specs.Push.{JudgesAllAtPush, JudgesAtPush, by_directory, by_refs, in_order, outcomes_in, refs_after, together, unless_collided, unless_full}
use Rattle.hub_history.specs.State.{InForce, Repository}
use Rattle.hub_history.proofs.HistoryLemmas.{some_same}
use Rattle.hub_history.proofs.JudgeLemmas.{before_refs, is_by_refs, judged_at}
use Rattle.hub_history.proofs.MovedRefs.{was_alone}

-- ---- by the refs

-- where nothing is said of a command before, it is told by the refs
pub refs_tell : (refs : Refs) (c : Command) → is_by_refs (by_refs refs c None) ≡ true
refs_tell refs c = by_case (same_id (value refs c.name) c.old) (same_id c.old zero_id) (first_at_odds refs c.name)
  where
    by_case : (b z : Bool) (o : Option Name) → is_by_refs (cond (not b) (Stale (value refs c.name)) (if z then by_directory o else Done)) ≡ true
    by_case false z o = refl
    by_case true false o = refl
    by_case true true None = refl
    by_case true true (Some q) = refl

-- and never of another
no_other : (refs : Refs) (c : Command) (first : ℕ) → AtomicOther first ≡ by_refs refs c None → ⊥
no_other refs c first is = by_case (same_id (value refs c.name) c.old) (same_id c.old zero_id) (first_at_odds refs c.name) is
  where
    by_case : (b z : Bool) (o : Option Name) → AtomicOther first ≡ cond (not b) (Stale (value refs c.name)) (if z then by_directory o else Done) → ⊥
    by_case false z o is = cc
    by_case true false o is = cc
    by_case true true None is = cc
    by_case true true (Some q) is = cc

-- what a command is told at a place, by the refs there and by what is said of it before
pub record IsRun (cs : List Command) (js : List (Option Outcome)) (k : ℕ) (o : Outcome) : Type 0 where
  pub refs : Refs
  pub command : Command
  pub said : Option Outcome
  pub command_is : slice_get cs k ≡ Some command
  pub said_is : slice_get js k ≡ Some said
  pub told_is : o ≡ by_refs refs command said

pub run_at : (refs : Refs) (cs : List Command) (js : List (Option Outcome)) (k : ℕ) (o : Outcome) → slice_get (in_order refs cs js) k ≡ Some o → IsRun cs js k o
run_at refs [] js k o is = cc
run_at refs (c ∷ cs) [] k o is = cc
run_at refs (c ∷ cs) (j ∷ js) zero o is = record { refs = refs; command = c; said = j; command_is = refl; said_is = refl; told_is = sym (some_same is) }
run_at refs (c ∷ cs) (j ∷ js) (suc k) o is =
    let later = run_at (refs_after refs c (by_refs refs c j)) cs js k o is in
    record { refs = later.refs; command = later.command; said = later.said; command_is = later.command_is; said_is = later.said_is; told_is = later.told_is }

-- ---- by the rules and the conf

-- what the rules, at the opening and just before the push, or the conf at the new value say against a command
abbrev pub is_late : Outcome → Bool
is_late (Denied verdict letter name) = true
is_late ManyPaths = true
is_late (ConfRefused fault) = true
is_late (DeniedNow verdict letter name) = true
is_late ManyPathsNow = true
is_late other = false

late_first : (o : Outcome) → is_late o ≡ true → is_by_refs o ≡ false
late_first Done late = absurd cc
late_first BadName late = refl
late_first Twice late = refl
late_first NoChange late = refl
late_first (NotAdvertised id) late = refl
late_first (Missing id) late = refl
late_first (WrongKind id) late = refl
late_first (Denied verdict letter name) late = refl
late_first ManyPaths late = refl
late_first (ConfRefused fault) late = refl
late_first (DeniedNow verdict letter name) late = refl
late_first ManyPathsNow late = refl
late_first (Stale id) late = absurd cc
late_first (DirFile r) late = absurd cc
late_first (AtomicOther place) late = absurd cc
late_first (Collided id) late = refl
late_first (Full count) late = refl

-- ---- a push

module _ (ps : Patterns) (force : InForce) (now : Repository) (pinned : Pinned) (pack : List Content) (cs : List Command) (atomic : Bool) (js : List (Option Outcome)) (judges : JudgesAllAtPush ps force pinned pack cs js) where
  abbrev told : List Outcome
  told = outcomes_in now pack cs atomic js

  abbrev run : List Outcome
  run = in_order now.refs cs js

  -- in order no command is told of another
  pub never_other : (k first : ℕ) → slice_get run k ≡ Some (AtomicOther first) → ⊥
  never_other k first is = by_said at.said at.said_is at.told_is
    where
      at : IsRun cs js k (AtomicOther first)
      at = run_at now.refs cs js k (AtomicOther first) is

      by_said : (j : Option Outcome) → slice_get js k ≡ Some j → AtomicOther first ≡ by_refs at.refs at.command j → ⊥
      by_said None e same = no_other at.refs at.command first same
      by_said (Some x) e same =
          let fails : is_by_refs x ≡ false = before_refs ps force pinned pack cs at.command (Some x) (judged_at (JudgesAtPush ps force pinned pack cs) cs js judges k at.command (Some x) at.command_is e) in
          let bad : true ≡ false = ap is_by_refs same ∙ fails in cc

  -- what isn't told by the refs is what is said before
  said_run : (k : ℕ) (c : Command) (o : Outcome) → slice_get cs k ≡ Some c → slice_get run k ≡ Some o → is_by_refs o ≡ false → JudgesAtPush ps force pinned pack cs c (Some o)
  said_run k c o is ran own = by_said at.said at.said_is at.told_is
    where
      at : IsRun cs js k o
      at = run_at now.refs cs js k o ran

      by_said : (j : Option Outcome) → slice_get js k ≡ Some j → o ≡ by_refs at.refs at.command j → JudgesAtPush ps force pinned pack cs c (Some o)
      by_said None e same = absurd (let bad : true ≡ false = sym (refs_tell at.refs at.command) ∙ ap is_by_refs (sym same) ∙ own in cc)
      by_said (Some x) e same = subst (λ (y : Outcome). JudgesAtPush ps force pinned pack cs c (Some y)) (sym same) (judged_at (JudgesAtPush ps force pinned pack cs) cs js judges k c (Some x) is e)

  -- what they say was told in order
  late_run : (k : ℕ) (o : Outcome) → is_late o ≡ true → slice_get told k ≡ Some o → slice_get run k ≡ Some o
  late_run k o late is = by_collision (collision now.objects pack) is
    where
      alike : (a : Outcome) → is_late a ≡ false → (ds : List Command) (i : ℕ) → slice_get (map (λ (d : Command). a) ds) i ≡ Some o → ⊥
      alike a fails [] i is = cc
      alike a fails (d ∷ ds) zero is = let bad : false ≡ true = sym fails ∙ ap is_late (some_same is) ∙ late in cc
      alike a fails (d ∷ ds) (suc i) is = alike a fails ds i is

      alone : slice_get (together atomic run) k ≡ Some o → slice_get run k ≡ Some o
      alone is = elim (was_alone atomic run k o is) [
        | inl same ↦ same
        | inr w ↦ absurd (let bad : true ≡ false = sym late ∙ ap is_late w.2 in cc)
      ]

      by_full : (b : Bool) → slice_get (if b then map (λ c. Full (length (with_pack now.objects pack))) cs else together atomic run) k ≡ Some o → slice_get run k ≡ Some o
      by_full true is = absurd (alike (Full (length (with_pack now.objects pack))) refl cs k is)
      by_full false is = alone is

      by_collision : (x : Option ObjectId) → slice_get (unless_collided x cs (unless_full (length (with_pack now.objects pack)) cs (together atomic run))) k ≡ Some o → slice_get run k ≡ Some o
      by_collision (Some id) is = absurd (alike (Collided id) refl cs k is)
      by_collision None is = by_full (nat_lt 4294967295 (length (with_pack now.objects pack))) is

  -- and is what is said before
  pub late_judge : (k : ℕ) (c : Command) (o : Outcome) → slice_get cs k ≡ Some c → slice_get told k ≡ Some o → is_late o ≡ true → JudgesAtPush ps force pinned pack cs c (Some o)
  late_judge k c o is told_is late = said_run k c o is (late_run k o late told_is) (late_first o late)
