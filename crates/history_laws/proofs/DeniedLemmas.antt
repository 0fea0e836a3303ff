-- What the rules say against a command.
use Rattle.std.proofs.Common.{◌≡◌, ◌⊎◌, inl, inr, ℕ, Bool, true, false, ◌&&◌, not, cond, List, [], ◌∷◌, ◌++◌, refl, sym, ◌∙◌, ap, subst}
use Rattle.std.specs.Prelude.{Option, Some, None, IsTrue, Result, Ok, Err, if◌then◌else◌}
use Rattle.std.specs.List.{Contains, slice_get}
use Rattle.std.specs.Option.{option_or}
use Rattle.git_object.specs.Content.{Content}
use Rattle.git_object.specs.declared.object_id.ObjectId.{ObjectId}
use Rattle.ancestry.specs.Wholeness.{missing, wrong}
use Rattle.ancestry.specs.declared.facts.Facts.{Facts}
use Rattle.ancestry.proofs.ListLemmas.{contains_here, contains_there}
use Rattle.ref_store.specs.Objects.{same_id}
use Rattle.ref_store.specs.RefName.{is_ref_name}
use Rattle.ref_store.specs.Refs.{Name, value, zero_id}
use Rattle.ref_store.specs.declared.command.Command.{Command}
use Rattle.rule_compile.specs.Flat.{Flat}
use Rattle.rule_compile.specs.Patterns.{AreTrue, Patterns}
use Rattle.rule_compile.specs.declared.fault.PolicyFault.{PolicyFault}
use Rattle.rule_compile.specs.declared.rule.Rule.{Rule}
use Rattle.access_check.specs.Users.{Asked}
use Rattle.access_check.specs.Verdicts.{decide, holds_vref}
use Rattle.access_check.specs.declared.letters.Letter.{Letter}
use Rattle.access_check.specs.declared.verdicts.Verdict.{Verdict}
use Rattle.access_check.specs.declared.verdicts.Verdict.TheVariants.{Allowed, DeniedBy, Fallthru}
use Rattle.access_check.specs.declared.verdicts.Vref.TheVariants as vref
use Rattle.vref.specs.Paths.{DifferTooMuch, IsChanged}
use Rattle.vref.specs.Root.{root_of}
use Rattle.vref.specs.Rows.{Path}
use Rattle.update_check.specs.Laws.{DenialsAreVerdicts, ExactlyWhereLet, IsAllowed, LetsBeMade}
use Rattle.update_check.specs.Rules.{RulesSay, Says, SaysIf, by_ref, by_virtual, letter_for, merge_check_name, path_name, said_of_merge, said_of_paths, said_of_ref, said_of_virtual}
use Rattle.update_check.specs.Table.{Counts, End, First, Passes}
use Rattle.update_check.specs.declared.refusal.Refusal.{Refusal}
use Rattle.update_check.specs.declared.refusal.Refusal.TheVariants as refusal
use Rattle.hub_history.specs.declared.entry.Entry.{Entry}
use Rattle.hub_history.specs.declared.outcome.Outcome.{Outcome}
use Rattle.hub_history.specs.declared.outcome.Outcome.TheVariants.{BadName, Twice, NoChange, NotAdvertised, Denied, DeniedNow, ManyPaths, ManyPathsNow}
use Rattle.hub_history.specs.Conf.{AreInForce}
use Rattle.hub_history.specs.History.{IsLegal, replay}
use Rattle.hub_history.specs.Laws.{TellsCommand}
use Rattle.hub_history.specs.Opening.{Pinned, pinned_in_force}
use Rattle.hub_history.specs.Push.{ByConf, ByConfIf, ByRules, ByRulesNow, Judges, JudgesAtPush, by_command, by_conf, by_new_value, by_walk, is_named_twice, is_of_conf, kind_at, outcome_now, outcome_of}
use Rattle.hub_history.specs.State.{InForce, in_force, repository_at}
use Rattle.hub_history.proofs.MovedLogs.{due_here}
use Rattle.history_laws.specs.Laws.{DeniedIsNotLet, DeniedNowIsNotLet, DeniesMerge, DeniesPath, DeniesRef, HasManyPathsBy, IsDenied, IsDeniedBy, ManyPathsIsNotLet, ManyPathsNowIsNotLet, asked_by}
use Rattle.history_laws.proofs.OutcomeLemmas.{is_late, late_judge}

-- ---- what the opening says is of the rules

-- what the rules say against a command
abbrev is_by_rules : Outcome → Bool
is_by_rules (Denied verdict letter name) = true
is_by_rules ManyPaths = true
is_by_rules other = false

-- what the rules just before the push say against a command
abbrev pub is_now : Outcome → Bool
is_now (DeniedNow verdict letter name) = true
is_now ManyPathsNow = true
is_now other = false

-- a row says nothing that passes the test
abbrev IsOther : (Outcome → Bool) → Option Outcome → Type 0
IsOther test None = Unit {0}
IsOther test (Some o) = test o ≡ false

command_other : (p : Pinned) (twice : Bool) (c : Command) → IsOther is_late (by_command p twice c)
command_other p twice c = by_case (not (is_ref_name c.name)) twice (same_id c.old c.new) (not (same_id (value p.repository.refs c.name) c.old))
  where
    by_case : (a b d e : Bool) → IsOther is_late (cond a (Some BadName) (cond b (Some Twice) (cond d (Some NoChange) (cond e (Some (NotAdvertised (value p.repository.refs c.name))) None))))
    by_case true b d e = refl
    by_case false true d e = refl
    by_case false false true e = refl
    by_case false false false true = refl
    by_case false false false false = tt

value_other : (objects : List Content) (c : Command) → IsOther is_late (by_new_value objects c)
value_other objects c = by_zero (same_id c.new zero_id) (missing objects c.new (kind_at c.name)) (wrong objects c.new (kind_at c.name))
  where
    by_zero : (b : Bool) (m w : Option ObjectId) → IsOther is_late (cond b None (by_walk m w))
    by_zero true m w = tt
    by_zero false (Some id) w = refl
    by_zero false None (Some id) = refl
    by_zero false None None = tt

conf_other : (comes : Result Flat PolicyFault) → IsOther is_by_rules (by_conf comes)
conf_other (Ok rules) = tt
conf_other (Err fault) = refl

conf_if_other : (b : Bool) (ps : Patterns) (objects : List Content) (c : Command) (said : Option Outcome) → ByConfIf b ps objects c said → IsOther is_by_rules said
conf_if_other false ps objects c said is = subst (IsOther is_by_rules) (sym is) tt
conf_if_other true ps objects c said by = subst (IsOther is_by_rules) (sym by.2) (conf_other by.0)

-- what the opening says is not of the rules just before the push, and the other way round
command_then : (p : Pinned) (twice : Bool) (c : Command) → IsOther is_now (by_command p twice c)
command_then p twice c = by_case (not (is_ref_name c.name)) twice (same_id c.old c.new) (not (same_id (value p.repository.refs c.name) c.old))
  where
    by_case : (a b d e : Bool) → IsOther is_now (cond a (Some BadName) (cond b (Some Twice) (cond d (Some NoChange) (cond e (Some (NotAdvertised (value p.repository.refs c.name))) None))))
    by_case true b d e = refl
    by_case false true d e = refl
    by_case false false true e = refl
    by_case false false false true = refl
    by_case false false false false = tt

value_then : (objects : List Content) (c : Command) → IsOther is_now (by_new_value objects c)
value_then objects c = by_zero (same_id c.new zero_id) (missing objects c.new (kind_at c.name)) (wrong objects c.new (kind_at c.name))
  where
    by_zero : (b : Bool) (m w : Option ObjectId) → IsOther is_now (cond b None (by_walk m w))
    by_zero true m w = tt
    by_zero false (Some id) w = refl
    by_zero false None (Some id) = refl
    by_zero false None None = tt

rules_then : (r : Option Refusal) → IsOther is_now (outcome_of r)
rules_then None = tt
rules_then (Some (refusal.Denied v letter name)) = refl
rules_then (Some refusal.ManyPaths) = refl

conf_then : (comes : Result Flat PolicyFault) → IsOther is_now (by_conf comes)
conf_then (Ok rules) = tt
conf_then (Err fault) = refl

conf_if_then : (b : Bool) (ps : Patterns) (objects : List Content) (c : Command) (said : Option Outcome) → ByConfIf b ps objects c said → IsOther is_now said
conf_if_then false ps objects c said is = subst (IsOther is_now) (sym is) tt
conf_if_then true ps objects c said by = subst (IsOther is_now) (sym by.2) (conf_then by.0)

rules_now : (r : Option Refusal) → IsOther (λ o. not (is_now o)) (outcome_now r)
rules_now None = tt
rules_now (Some (refusal.Denied v letter name)) = refl
rules_now (Some refusal.ManyPaths) = refl

-- a table of such rows has nothing else
first_other : {test : Outcome → Bool} {Row Behind : Option Outcome → Type 0} → ((o : Option Outcome) → Row o → IsOther test o) → ((o : Option Outcome) → Behind o → IsOther test o) → (found : Option Outcome) → First Row Behind found → IsOther test found
first_other rows behinds found (Counts outcome row) = rows (Some outcome) row
first_other rows behinds found (Passes f row behind) = behinds f behind

-- what a table has is of its first row or behind it
first_some : {O : Type 0} {Row Behind : Option O → Type 0} (outcome : O) → First Row Behind (Some outcome) → Row (Some outcome) ⊎ Behind (Some outcome)
first_some outcome (Counts o row) = inl row
first_some outcome (Passes f row behind) = inr behind

-- what passes a test is behind a row of which nothing does
behind_other : (test : Outcome → Bool) {Row Behind : Option Outcome → Type 0} → ((o : Option Outcome) → Row o → IsOther test o) → (o : Outcome) → test o ≡ true → First Row Behind (Some o) → Behind (Some o)
behind_other test other o by table = elim (first_some o table) [
  | inl row ↦ absurd (let fails : test o ≡ false = other (Some o) row in let bad : true ≡ false = sym by ∙ fails in cc)
  | inr behind ↦ behind
]

module _ (ps : Patterns) (pinned : Pinned) (pack : List Content) (cs : List Command) (c : Command) (o : Outcome) where
  abbrev objects_with : List Content
  objects_with = pinned.repository.objects ++ pack

  opening_then : (found : Option Outcome) → Judges ps pinned pack cs c found → IsOther is_now found
  opening_then =
      first_other (λ said is. subst (IsOther is_now) (sym is) (command_then pinned (is_named_twice cs c.name) c))
      (first_other (λ said is. subst (IsOther is_now) (sym is) (value_then objects_with c))
      (first_other (λ said by. subst (IsOther is_now) (sym by.4) (rules_then by.1))
      (first_other (conf_if_then (is_of_conf pinned.repo c.name) ps objects_with c)
      (λ said is. subst (IsOther is_now) (sym is) tt))))

  -- what isn't of the rules just before the push is what the opening says
  pub opening_judged : (force : InForce) → is_now o ≡ false → JudgesAtPush ps force pinned pack cs c (Some o) → Judges ps pinned pack cs c (Some o)
  opening_judged force other judges = elim (first_some o judges) [
    | inl row ↦ row
    | inr behind ↦ elim (first_some o behind) [
      | inl by ↦ absurd (let fails : not (is_now o) ≡ false = subst (IsOther (λ x. not (is_now x))) (sym by.4) (rules_now by.1) in let bad : true ≡ false = ap not (sym other) ∙ fails in cc)
      | inr end ↦ absurd (let none : Some o ≡ None = end in cc)
    ]
  ]

  -- what is of them is said where the opening says nothing
  pub now_judged : (force : InForce) → is_now o ≡ true → JudgesAtPush ps force pinned pack cs c (Some o) → Judges ps pinned pack cs c None × ByRulesNow ps force pinned objects_with c (Some o)
  now_judged force now (Counts x row) = absurd (let fails : is_now o ≡ false = opening_then (Some o) row in let bad : true ≡ false = sym now ∙ fails in cc)
  now_judged force now (Passes f row behind) = elim (first_some o behind) [
    | inl by ↦ (row, by)
    | inr end ↦ absurd (let none : Some o ≡ None = end in cc)
  ]

  -- what the rules or the conf say against a command is behind what the command and its new value say
  pub late_judged : is_late o ≡ true → Judges ps pinned pack cs c (Some o) → First (ByRules ps pinned objects_with c) (First (ByConf ps pinned objects_with c) End) (Some o)
  late_judged late judges =
      let second = behind_other is_late (λ said is. subst (IsOther is_late) (sym is) (command_other pinned (is_named_twice cs c.name) c)) o late judges in
      behind_other is_late (λ said is. subst (IsOther is_late) (sym is) (value_other objects_with c)) o late second

  judged_by_rules : is_late o ≡ true → is_by_rules o ≡ true → Judges ps pinned pack cs c (Some o) → ByRules ps pinned objects_with c (Some o)
  judged_by_rules late by judges = elim (first_some o (late_judged late judges)) [
    | inl row ↦ row
    | inr conf ↦ (let end : Some o ≡ None = behind_other is_by_rules (conf_if_other (is_of_conf pinned.repo c.name) ps objects_with c) o by conf in absurd cc)
  ]

-- ---- refusals

-- what the rules say where the outcome is a denial
denied_refusal : (v : Verdict) (letter : Letter) (name : List ℕ) (r : Option Refusal) → Some (Denied v letter name) ≡ outcome_of r → r ≡ Some (refusal.Denied v letter name)
denied_refusal v letter name None is = absurd cc
denied_refusal v letter name (Some (refusal.Denied w l n)) is = cc
denied_refusal v letter name (Some refusal.ManyPaths) is = absurd cc

many_refusal : (r : Option Refusal) → Some ManyPaths ≡ outcome_of r → r ≡ Some refusal.ManyPaths
many_refusal None is = absurd cc
many_refusal (Some (refusal.Denied w l n)) is = absurd cc
many_refusal (Some refusal.ManyPaths) is = refl

denied_refusal_now : (v : Verdict) (letter : Letter) (name : List ℕ) (r : Option Refusal) → Some (DeniedNow v letter name) ≡ outcome_now r → r ≡ Some (refusal.Denied v letter name)
denied_refusal_now v letter name None is = absurd cc
denied_refusal_now v letter name (Some (refusal.Denied w l n)) is = cc
denied_refusal_now v letter name (Some refusal.ManyPaths) is = absurd cc

many_refusal_now : (r : Option Refusal) → Some ManyPathsNow ≡ outcome_now r → r ≡ Some refusal.ManyPaths
many_refusal_now None is = absurd cc
many_refusal_now (Some (refusal.Denied w l n)) is = absurd cc
many_refusal_now (Some refusal.ManyPaths) is = refl

-- ---- rows of the rules

-- the verdict and the name of a denial
record IsOf (v : Verdict) (name : List ℕ) (verdict : Verdict) (asked : List ℕ) : Type 0 where
  verdict_is : v ≡ verdict
  name_is : name ≡ asked

denial_is : (v verdict : Verdict) (letter needed : Letter) (name asked : List ℕ) → Some (refusal.Denied v letter name) ≡ Some (refusal.Denied verdict needed asked) → IsOf v name verdict asked
denial_is v verdict letter needed name asked is = record { verdict_is = cc; name_is = cc }

denied_unallowed : (v : Verdict) (seq : ℕ) → v ≡ DeniedBy seq → ¬ IsAllowed v
denied_unallowed v seq is a = let bad : DeniedBy seq ≡ Allowed a.0 = sym is ∙ a.1 in cc

fallen_unallowed : (v : Verdict) → v ≡ Fallthru → ¬ IsAllowed v
fallen_unallowed v is a = let bad : Fallthru ≡ Allowed a.0 = sym is ∙ a.1 in cc

ref_denies : (v : Verdict) (letter needed : Letter) (name asked : List ℕ) (verdict : Verdict) → Some (refusal.Denied v letter name) ≡ by_ref needed asked verdict → (name ≡ asked) × ¬ IsAllowed v
ref_denies v letter needed name asked (Allowed seq) is = absurd cc
ref_denies v letter needed name asked (DeniedBy seq) is = let of = denial_is v (DeniedBy seq) letter needed name asked is in (of.name_is, denied_unallowed v seq of.verdict_is)
ref_denies v letter needed name asked Fallthru is = let of = denial_is v Fallthru letter needed name asked is in (of.name_is, fallen_unallowed v of.verdict_is)

virtual_denies : (v : Verdict) (letter needed : Letter) (name asked : List ℕ) (verdict : Verdict) → Some (refusal.Denied v letter name) ≡ by_virtual needed asked verdict → (name ≡ asked) × IsDenied v
virtual_denies v letter needed name asked (Allowed seq) is = absurd cc
virtual_denies v letter needed name asked (DeniedBy seq) is = let of = denial_is v (DeniedBy seq) letter needed name asked is in (of.name_is, (seq, of.verdict_is))
virtual_denies v letter needed name asked Fallthru is = absurd cc

-- a ref and virtual refs are never told of too many paths
ref_many : (needed : Letter) (asked : List ℕ) (verdict : Verdict) → Some refusal.ManyPaths ≡ by_ref needed asked verdict → ⊥
ref_many needed asked (Allowed seq) is = cc
ref_many needed asked (DeniedBy seq) is = cc
ref_many needed asked Fallthru is = cc

virtual_many : (needed : Letter) (asked : List ℕ) (verdict : Verdict) → Some refusal.ManyPaths ≡ by_virtual needed asked verdict → ⊥
virtual_many needed asked (Allowed seq) is = cc
virtual_many needed asked (DeniedBy seq) is = cc
virtual_many needed asked Fallthru is = cc

-- what is said under two conditions
said_where : (holds merge : Bool) (said : Option Refusal) (r : Refusal) → Some r ≡ (if holds && merge then said else None) → (holds ≡ true) × (merge ≡ true) × (Some r ≡ said)
said_where true true said r is = (refl, refl, is)
said_where true false said r is = absurd cc
said_where false merge said r is = absurd cc

or_cases : (first rest : Option Refusal) (r : Refusal) → Some r ≡ option_or first rest → (Some r ≡ first) ⊎ (Some r ≡ rest)
or_cases None rest r is = inr is
or_cases (Some x) rest r is = inl is

module _ (ps : Patterns) (rules : List Rule) (a : Asked) (objects : List Content) (change : Command) (facts : Facts) where
  abbrev needed : Letter
  needed = letter_for ps rules a facts

  abbrev Changed : Path → Type 0
  Changed = IsChanged objects (root_of objects change.old) (root_of objects change.new)

  -- ---- denials

  module _ (v : Verdict) (letter : Letter) (name : List ℕ) where
    abbrev denial : Refusal
    denial = refusal.Denied v letter name

    -- what it denies
    abbrev Denies : Type 0
    Denies = DeniesRef ps rules a objects change v name ⊎ DeniesMerge ps rules a objects change facts v name ⊎ DeniesPath ps rules a objects change v name

    on_path : IsTrue (holds_vref ps rules a vref.Name) → (paths : List Path) → ((path : Path) → Contains paths path → Changed path) → Some denial ≡ said_of_paths ps rules a needed paths → Denies
    on_path asks [] changed is = absurd cc
    on_path asks (p ∷ paths) changed is = elim (or_cases (said_of_virtual ps rules a needed (path_name p)) (said_of_paths ps rules a needed paths) denial is) [
      | inl first ↦ (let by = virtual_denies v letter needed name (path_name p) (decide ps rules a needed (path_name p)) first in inr (inr (p, by.0, asks, changed p (contains_here p paths), by.1)))
      | inr rest ↦ on_path asks paths (λ path c. changed path (contains_there p paths path c)) rest
    ]

    on_paths : (b : Bool) → holds_vref ps rules a vref.Name ≡ b → SaysIf ps rules a b objects needed change (Some denial) → Denies
    on_paths false asks says = absurd cc
    on_paths true asks (None, are, is) = absurd cc
    on_paths true asks (Some paths, are, is) = on_path asks paths (λ path c. (are.1.are_those path).0 c) is

    on_merge : Some denial ≡ said_of_merge ps rules a needed facts.merge change.name → Denies
    on_merge is =
        let where_is = said_where (holds_vref ps rules a vref.MergeCheck) facts.merge (said_of_virtual ps rules a needed (merge_check_name change.name)) denial is in
        let by = virtual_denies v letter needed name (merge_check_name change.name) (decide ps rules a needed (merge_check_name change.name)) where_is.2 in
        inr (inl (by.0, where_is.0, where_is.1, by.1))

    on_ref : Some denial ≡ said_of_ref ps rules a needed change.name → Denies
    on_ref is = let by = ref_denies v letter needed name change.name (decide ps rules a needed change.name) is in inl (by.0, by.1)

    pub denies_on : Says ps rules a objects facts change (Some denial) → Denies
    denies_on says = elim (first_some denial says) [
      | inl ref ↦ on_ref ref
      | inr second ↦ elim (first_some denial second) [
        | inl merge ↦ on_merge merge
        | inr third ↦ elim (first_some denial third) [
          | inl paths ↦ on_paths (holds_vref ps rules a vref.Name) refl paths
          | inr none ↦ (let clash : Some denial ≡ None = none in absurd cc)
        ]
      ]
    ]

  -- ---- too many paths

  abbrev AreMany : Type 0
  AreMany = IsTrue (holds_vref ps rules a vref.Name) × DifferTooMuch objects (root_of objects change.old) (root_of objects change.new)

  many_of : (paths : List Path) → Some refusal.ManyPaths ≡ said_of_paths ps rules a needed paths → ⊥
  many_of [] is = cc
  many_of (p ∷ paths) is = elim (or_cases (said_of_virtual ps rules a needed (path_name p)) (said_of_paths ps rules a needed paths) refusal.ManyPaths is) [
    | inl first ↦ virtual_many needed (path_name p) (decide ps rules a needed (path_name p)) first
    | inr rest ↦ many_of paths rest
  ]

  many_paths : (b : Bool) → holds_vref ps rules a vref.Name ≡ b → SaysIf ps rules a b objects needed change (Some refusal.ManyPaths) → AreMany
  many_paths false asks says = absurd cc
  many_paths true asks (None, are, is) = (asks, are)
  many_paths true asks (Some paths, are, is) = absurd (many_of paths is)

  pub are_many : Says ps rules a objects facts change (Some refusal.ManyPaths) → AreMany
  are_many says = elim (first_some refusal.ManyPaths says) [
    | inl ref ↦ absurd (ref_many needed change.name (decide ps rules a needed change.name) ref)
    | inr second ↦ elim (first_some refusal.ManyPaths second) [
      | inl merge ↦ (
          let where_is = said_where (holds_vref ps rules a vref.MergeCheck) facts.merge (said_of_virtual ps rules a needed (merge_check_name change.name)) refusal.ManyPaths merge in
          absurd (virtual_many needed (merge_check_name change.name) (decide ps rules a needed (merge_check_name change.name)) where_is.2)
          )
      | inr third ↦ elim (first_some refusal.ManyPaths third) [
        | inl paths ↦ many_paths (holds_vref ps rules a vref.Name) refl paths
        | inr none ↦ (let clash : Some refusal.ManyPaths ≡ None = none in absurd cc)
      ]
    ]
  ]

-- ---- the laws

abbrev Exactly : Type 0
Exactly = (ps : Patterns) (rules : List Rule) (a : Asked) (objects : List Content) (change : Command) → ExactlyWhereLet ps rules a objects change

abbrev Denials : Type 0
Denials = (ps : Patterns) (rules : List Rule) (a : Asked) (objects : List Content) (change : Command) → DenialsAreVerdicts ps rules a objects change

-- what the rules say something against they don't let be made
not_let_by : Exactly → (ps : Patterns) (rules : List Rule) (a : Asked) (objects : List Content) (change : Command) (r : Refusal) → (says : RulesSay ps rules a objects change (Some r)) → ¬ LetsBeMade ps rules a objects change says.0
not_let_by exactly ps rules a objects change r says lets = let clash : Some r ≡ None = (exactly ps rules a objects change).all says.0 says.1 lets (Some r) says in cc

-- what the rules in force say against a change
abbrev AreAgainst : Patterns → InForce → Pinned → List Content → Command → Refusal → Type 0
AreAgainst ps force pinned objects change r = (rules : Flat) × AreInForce ps force.conf rules × RulesSay ps rules.rules (asked_by ps rules force pinned) objects change (Some r)

denied_against : Exactly → Denials → (ps : Patterns) (force : InForce) (pinned : Pinned) (objects : List Content) (change : Command) (v : Verdict) (letter : Letter) (name : List ℕ)
    → AreAgainst ps force pinned objects change (refusal.Denied v letter name) → IsDeniedBy ps force pinned objects change v letter name
denied_against exactly denials ps force pinned objects change v letter name by =
    let says = by.2 in
    let of = denials ps by.0.rules (asked_by ps by.0 force pinned) objects change in
    record {
      rules = by.0;
      are_in_force = by.1;
      facts = says.0;
      are_facts = says.1;
      not_let = not_let_by exactly ps by.0.rules (asked_by ps by.0 force pinned) objects change (refusal.Denied v letter name) says;
      why = record {
        letter_is = of.letter_is v letter name says.0 says.1 says;
        verdict_is = of.verdict_is v letter name says;
        denies = denies_on ps by.0.rules (asked_by ps by.0 force pinned) objects change says.0 v letter name says.2;
      };
    }

many_against : Exactly → (ps : Patterns) (force : InForce) (pinned : Pinned) (objects : List Content) (change : Command) → AreAgainst ps force pinned objects change refusal.ManyPaths → HasManyPathsBy ps force pinned objects change
many_against exactly ps force pinned objects change by =
    let says = by.2 in
    record {
      rules = by.0;
      are_in_force = by.1;
      facts = says.0;
      are_facts = says.1;
      not_let = not_let_by exactly ps by.0.rules (asked_by ps by.0 force pinned) objects change refusal.ManyPaths says;
      why = are_many ps by.0.rules (asked_by ps by.0 force pinned) objects change says.0 says.2;
    }

module _ (ps : Patterns) (ok : AreTrue ps) (admin : Name) (before : List Entry) (entry : Entry) (legal : IsLegal admin (before ++ entry ∷ [])) (pinned : Pinned) (command : Command) where
  abbrev force : InForce
  force = in_force (replay admin before) pinned.repo

  judged_here : (o : Outcome) → is_late o ≡ true → (t : TellsCommand admin before entry pinned command o) → JudgesAtPush ps force pinned t.pack t.commands command (Some o)
  judged_here o late t =
      let due = due_here ps ok admin before entry legal t.place t.pack t.commands t.atomic t.outcomes t.made pinned t.is_push t.opening in
      late_judge ps force (repository_at (replay admin before) pinned.repo) pinned t.pack t.commands t.atomic due.judged due.judges t.index command o t.command_is (ap (λ (os : List Outcome). slice_get os t.index) (sym due.told) ∙ t.outcome_is) late

  -- what the rules at the opening say against a command
  says_of : (o : Outcome) (r : Refusal) → is_late o ≡ true → is_by_rules o ≡ true → is_now o ≡ false → ((x : Option Refusal) → Some o ≡ outcome_of x → x ≡ Some r) → (t : TellsCommand admin before entry pinned command o)
      → AreAgainst ps (pinned_in_force pinned) pinned (pinned.repository.objects ++ t.pack) command r
  says_of o r late by_rules other only t =
      let by = judged_by_rules ps pinned t.pack t.commands command o late by_rules (opening_judged ps pinned t.pack t.commands command o force other (judged_here o late t)) in
      (by.0, by.2, subst (λ (x : Option Refusal). RulesSay ps by.0.rules (asked_by ps by.0 (pinned_in_force pinned) pinned) (pinned.repository.objects ++ t.pack) command x) (only by.1 by.4) by.3)

  -- what those just before the push say against it
  says_now : (o : Outcome) (r : Refusal) → is_late o ≡ true → is_now o ≡ true → ((x : Option Refusal) → Some o ≡ outcome_now x → x ≡ Some r) → (t : TellsCommand admin before entry pinned command o)
      → AreAgainst ps force pinned (pinned.repository.objects ++ t.pack) command r
  says_now o r late now only t =
      let by = (now_judged ps pinned t.pack t.commands command o force now (judged_here o late t)).1 in
      (by.0, by.2, subst (λ (x : Option Refusal). RulesSay ps by.0.rules (asked_by ps by.0 force pinned) (pinned.repository.objects ++ t.pack) command x) (only by.1 by.4) by.3)

pub denied_is_not_let : Exactly → Denials → DeniedIsNotLet
denied_is_not_let exactly denials = λ admin before entry pinned command v letter name legal t ps ok.
    denied_against exactly denials ps (pinned_in_force pinned) pinned (pinned.repository.objects ++ t.pack) command v letter name
    (says_of ps ok admin before entry legal pinned command (Denied v letter name) (refusal.Denied v letter name) refl refl refl (denied_refusal v letter name) t)

pub many_is_not_let : Exactly → ManyPathsIsNotLet
many_is_not_let exactly = λ admin before entry pinned command legal t ps ok.
    many_against exactly ps (pinned_in_force pinned) pinned (pinned.repository.objects ++ t.pack) command (says_of ps ok admin before entry legal pinned command ManyPaths refusal.ManyPaths refl refl refl many_refusal t)

pub denied_now_is_not_let : Exactly → Denials → DeniedNowIsNotLet
denied_now_is_not_let exactly denials = λ admin before entry pinned command v letter name legal t ps ok.
    denied_against exactly denials ps (in_force (replay admin before) pinned.repo) pinned (pinned.repository.objects ++ t.pack) command v letter name
    (says_now ps ok admin before entry legal pinned command (DeniedNow v letter name) (refusal.Denied v letter name) refl refl (denied_refusal_now v letter name) t)

pub many_now_is_not_let : Exactly → ManyPathsNowIsNotLet
many_now_is_not_let exactly = λ admin before entry pinned command legal t ps ok.
    many_against exactly ps (in_force (replay admin before) pinned.repo) pinned (pinned.repository.objects ++ t.pack) command (says_now ps ok admin before entry legal pinned command ManyPathsNow refusal.ManyPaths refl refl many_refusal_now t)
