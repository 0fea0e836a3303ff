-- What a judgement of a command says of it.
use Rattle.std.proofs.Common.{◌≡◌, ◌≤◌, ℕ, zero, suc, Bool, true, false, not, cond, List, [], ◌∷◌, ◌++◌, length, refl, sym, ap, subst, arith}
use Rattle.std.proofs.lemmas.Bool.Decides.{nat_tests}
use Rattle.std.specs.Prelude.{Option, Some, None, nat_le, Result, Ok, Err}
use Rattle.std.specs.List.{AllZip, count_by, slice_get}
use Rattle.git_object.specs.Content.{Content}
use Rattle.git_object.specs.declared.object_id.ObjectId.{ObjectId}
use Rattle.ancestry.specs.Wholeness.{missing, wrong}
use Rattle.ref_store.specs.Objects.{same_id}
use Rattle.ref_store.specs.RefName.{is_ref_name}
use Rattle.ref_store.specs.Refs.{value, zero_id}
use Rattle.ref_store.specs.declared.command.Command.{Command}
use Rattle.rule_compile.specs.Flat.{Flat}
use Rattle.rule_compile.specs.Patterns.{Patterns}
use Rattle.rule_compile.specs.declared.fault.PolicyFault.{PolicyFault}
use Rattle.update_check.specs.Table.{Counts, First, Passes}
use Rattle.update_check.specs.declared.refusal.Refusal.{Refusal}
use Rattle.update_check.specs.declared.refusal.Refusal.TheVariants as refusal
use Rattle.hub_history.specs.declared.outcome.Outcome.{Outcome}
use Rattle.hub_history.specs.declared.outcome.Outcome.TheVariants.{Done, BadName, Twice, NoChange, NotAdvertised, Missing, WrongKind, Denied, ManyPaths, ConfRefused, DeniedNow, ManyPathsNow, Stale, DirFile, AtomicOther, Collided, Full}
use Rattle.hub_history.specs.Opening.{Pinned, pinned_in_force}
use Rattle.hub_history.specs.Push.{ByConf, ByConfIf, ByRules, ByRulesNow, Judges, JudgesAll, JudgesAllAtPush, JudgesAtPush, by_command, by_conf, by_new_value, by_walk, is_done, is_named_twice, is_of_conf, kind_at, outcome_now, outcome_of}
use Rattle.hub_history.specs.State.{InForce, same_name}
use Rattle.hub_history.proofs.HistoryLemmas.{some_same}

-- what is told by the refs just before, or beside another's refusal
abbrev pub is_by_refs : Outcome → Bool
is_by_refs Done = true
is_by_refs (Stale id) = true
is_by_refs (DirFile r) = true
is_by_refs (AtomicOther first) = true
is_by_refs other = false

-- an outcome that is told before the refs are asked is none of these
abbrev pub IsBeforeRefs : Option Outcome → Type 0
IsBeforeRefs None = Unit {0}
IsBeforeRefs (Some o) = is_by_refs o ≡ false

-- ---- each row

command_before : (p : Pinned) (twice : Bool) (c : Command) → IsBeforeRefs (by_command p twice c)
command_before p twice c = by_case (not (is_ref_name c.name)) twice (same_id c.old c.new) (not (same_id (value p.repository.refs c.name) c.old))
  where
    by_case : (a b d e : Bool) → IsBeforeRefs (cond a (Some BadName) (cond b (Some Twice) (cond d (Some NoChange) (cond e (Some (NotAdvertised (value p.repository.refs c.name))) None))))
    by_case true b d e = refl
    by_case false true d e = refl
    by_case false false true e = refl
    by_case false false false true = refl
    by_case false false false false = tt

value_before : (objects : List Content) (c : Command) → IsBeforeRefs (by_new_value objects c)
value_before objects c = by_zero (same_id c.new zero_id) (missing objects c.new (kind_at c.name)) (wrong objects c.new (kind_at c.name))
  where
    by_zero : (b : Bool) (m w : Option ObjectId) → IsBeforeRefs (cond b None (by_walk m w))
    by_zero true m w = tt
    by_zero false (Some id) w = refl
    by_zero false None (Some id) = refl
    by_zero false None None = tt

rules_before : (refused : Option Refusal) → IsBeforeRefs (outcome_of refused)
rules_before None = tt
rules_before (Some (refusal.Denied verdict letter name)) = refl
rules_before (Some refusal.ManyPaths) = refl

now_before : (refused : Option Refusal) → IsBeforeRefs (outcome_now refused)
now_before None = tt
now_before (Some (refusal.Denied verdict letter name)) = refl
now_before (Some refusal.ManyPaths) = refl

conf_before : (comes : Result Flat PolicyFault) → IsBeforeRefs (by_conf comes)
conf_before (Ok rules) = tt
conf_before (Err fault) = refl

conf_if_before : (b : Bool) (ps : Patterns) (objects : List Content) (c : Command) (said : Option Outcome) → ByConfIf b ps objects c said → IsBeforeRefs said
conf_if_before false ps objects c said is = subst IsBeforeRefs (sym is) tt
conf_if_before true ps objects c said by = subst IsBeforeRefs (sym by.2) (conf_before by.0)

-- a table of such rows has such an outcome
first_before : {Row Behind : Option Outcome → Type 0} → ((o : Option Outcome) → Row o → IsBeforeRefs o) → ((o : Option Outcome) → Behind o → IsBeforeRefs o) → (found : Option Outcome) → First Row Behind found → IsBeforeRefs found
first_before rows behinds found (Counts outcome row) = rows (Some outcome) row
first_before rows behinds found (Passes f row behind) = behinds f behind

pub first_none : {Row Behind : Option Outcome → Type 0} → First Row Behind None → Row None × Behind None
first_none (Passes found row behind) = (row, behind)

module _ (ps : Patterns) (force : InForce) (pinned : Pinned) (pack : List Content) (commands : List Command) where
  abbrev all_objects : List Content
  all_objects = pinned.repository.objects ++ pack

  by_opening : (c : Command) (found : Option Outcome) → Judges ps pinned pack commands c found → IsBeforeRefs found
  by_opening c =
      first_before (λ o is. subst IsBeforeRefs (sym is) (command_before pinned (is_named_twice commands c.name) c))
      (first_before (λ o is. subst IsBeforeRefs (sym is) (value_before all_objects c))
      (first_before (λ o by. subst IsBeforeRefs (sym by.4) (rules_before by.1))
      (first_before (conf_if_before (is_of_conf pinned.repo c.name) ps all_objects c)
      (λ o is. subst IsBeforeRefs (sym is) tt))))

  pub before_refs : (c : Command) (found : Option Outcome) → JudgesAtPush ps force pinned pack commands c found → IsBeforeRefs found
  before_refs c = first_before (by_opening c) (first_before (λ o by. subst IsBeforeRefs (sym by.4) (now_before by.1)) (λ o is. subst IsBeforeRefs (sym is) tt))

  -- ---- a command of which neither the opening says anything nor the rules just before the push

  pub record IsUntold (c : Command) : Type 0 where
    pub command : None ≡ by_command pinned (is_named_twice commands c.name) c
    pub value : None ≡ by_new_value all_objects c
    pub rules : ByRules ps pinned all_objects c None
    pub conf : ByConf ps pinned all_objects c None
    pub now : ByRulesNow ps force pinned all_objects c None

  pub untold : (c : Command) → JudgesAtPush ps force pinned pack commands c None → IsUntold c
  untold c judges =
      let both = first_none judges in
      let first = first_none both.0 in
      let second = first_none first.1 in
      let third = first_none second.1 in
      let fourth = first_none third.1 in
      record { command = first.0; value = second.0; rules = third.0; conf = fourth.0; now = (first_none both.1).0 }

  pub record FitsUntold (c : Command) : Type 0 where
    pub good : is_ref_name c.name ≡ true
    pub once : is_named_twice commands c.name ≡ false
    pub current : same_id (value pinned.repository.refs c.name) c.old ≡ true

  pub fits_untold : (c : Command) → None ≡ by_command pinned (is_named_twice commands c.name) c → FitsUntold c
  fits_untold c none = by_case (is_ref_name c.name) (is_named_twice commands c.name) (same_id c.old c.new) (same_id (value pinned.repository.refs c.name) c.old) refl refl refl none
    where
      by_case : (a b d e : Bool) → is_ref_name c.name ≡ a → is_named_twice commands c.name ≡ b → same_id (value pinned.repository.refs c.name) c.old ≡ e
          → None ≡ cond (not a) (Some BadName) (cond b (Some Twice) (cond d (Some NoChange) (cond (not e) (Some (NotAdvertised (value pinned.repository.refs c.name))) None))) → FitsUntold c
      by_case false b d e p q r is = absurd cc
      by_case true true d e p q r is = absurd cc
      by_case true false true e p q r is = absurd cc
      by_case true false false false p q r is = absurd cc
      by_case true false false true p q r is = record { good = p; once = q; current = r }

  -- it is the only one for its ref
  pub once_untold : (c : Command) → JudgesAtPush ps force pinned pack commands c None → count_by (λ (d : Command). same_name c.name d.name) commands ≤ 1
  once_untold c judges =
      let few : nat_le 2 (count_by (λ (d : Command). same_name c.name d.name) commands) ≡ false = (fits_untold c (untold c judges).command).once in
      grind (arith, nat_tests)

-- what is told before the refs are asked isn't done
pub not_done : (o : Outcome) → is_by_refs o ≡ false → is_done o ≡ false
not_done Done is = absurd cc
not_done BadName is = refl
not_done Twice is = refl
not_done NoChange is = refl
not_done (NotAdvertised id) is = refl
not_done (Missing id) is = refl
not_done (WrongKind id) is = refl
not_done (Denied verdict letter name) is = refl
not_done ManyPaths is = refl
not_done (ConfRefused fault) is = refl
not_done (DeniedNow verdict letter name) is = refl
not_done ManyPathsNow is = refl
not_done (Stale id) is = absurd cc
not_done (DirFile r) is = absurd cc
not_done (AtomicOther i) is = absurd cc
not_done (Collided id) is = refl
not_done (Full n) is = refl

-- a command that is refused before the refs are asked isn't done
abbrev pub IsRefused : Option Outcome → Type 0
IsRefused None = Unit {0}
IsRefused (Some o) = is_done o ≡ false

pub refused : (found : Option Outcome) → IsBeforeRefs found → IsRefused found
refused None by = tt
refused (Some o) by = not_done o by

-- ---- all commands

none_now : (refused : Option Refusal) → None ≡ outcome_of refused → None ≡ outcome_now refused
none_now None is = refl
none_now (Some (refusal.Denied verdict letter name)) is = absurd cc
none_now (Some refusal.ManyPaths) is = absurd cc

-- by what was in force at the opening nothing more is refused
opening_again : (ps : Patterns) (pinned : Pinned) (pack : List Content) (commands : List Command) (c : Command) (found : Option Outcome) → Judges ps pinned pack commands c found
    → JudgesAtPush ps (pinned_in_force pinned) pinned pack commands c found
opening_again ps pinned pack commands c (Some o) judges = Counts o judges
opening_again ps pinned pack commands c None judges =
    let rules = (first_none (first_none (first_none judges).1).1).0 in
    Passes None judges (Passes None (rules.0, rules.1, rules.2, rules.3, none_now rules.1 rules.4) refl)

-- what holds of each command and its judgement
abbrev pub AllJudged : (Command → Option Outcome → Type 0) → List Command → List (Option Outcome) → Type 0
AllJudged P commands found = AllZip P commands found

pub all_along : {P Q : Command → Option Outcome → Type 0} → ((c : Command) (o : Option Outcome) → P c o → Q c o) → (commands : List Command) (found : List (Option Outcome)) → AllJudged P commands found → AllJudged Q commands found
all_along f [] [] all = tt
all_along f [] (o ∷ os) all = absurd all
all_along f (c ∷ cs) [] all = absurd all
all_along f (c ∷ cs) (o ∷ os) all = (f c o all.0, all_along f cs os all.1)

-- so where nothing of it has changed, the outcomes by the opening are those at the push
pub unchanged : (ps : Patterns) (force : InForce) (pinned : Pinned) (pack : List Content) (commands : List Command) (found : List (Option Outcome)) → pinned_in_force pinned ≡ force → JudgesAll ps pinned pack commands found
    → JudgesAllAtPush ps force pinned pack commands found
unchanged ps force pinned pack commands found same all =
    subst (λ (f : InForce). JudgesAllAtPush ps f pinned pack commands found) same (all_along (opening_again ps pinned pack commands) commands found all)

pub judged_at : (P : Command → Option Outcome → Type 0) (commands : List Command) (found : List (Option Outcome)) → AllJudged P commands found
    → (k : ℕ) (c : Command) (o : Option Outcome) → slice_get commands k ≡ Some c → slice_get found k ≡ Some o → P c o
judged_at P [] [] all k c o is said = absurd cc
judged_at P [] (p ∷ ps) all k c o is said = absurd all
judged_at P (d ∷ cs) [] all k c o is said = absurd all
judged_at P (d ∷ cs) (p ∷ ps) all zero c o is said = subst (λ (x : Command). P x o) (some_same is) (subst (λ (x : Option Outcome). P d x) (some_same said) all.0)
judged_at P (d ∷ cs) (p ∷ ps) all (suc k) c o is said = judged_at P cs ps all.1 k c o is said

pub as_many : (P : Command → Option Outcome → Type 0) (commands : List Command) (found : List (Option Outcome)) → AllJudged P commands found → length found ≡ length commands
as_many P [] [] all = refl
as_many P [] (o ∷ os) all = absurd all
as_many P (c ∷ cs) [] all = absurd all
as_many P (c ∷ cs) (o ∷ os) all = ap suc (as_many P cs os all.1)
