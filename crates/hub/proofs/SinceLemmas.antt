-- Since when what is in force is what it is.
use Rattle.std.proofs.Common.{◌≡◌, ◌⊎◌, ◌≤◌, ◌<◌, ◌+◌, ℕ, zero, suc, Bool, true, false, ◌&&◌, cond, List, [], ◌∷◌, ◌++◌, length, take, refl, sym, ◌∙◌, ap, subst, arith, inl, inr, length-append}
use Rattle.std.proofs.lemmas.Bool.{cases_lt}
use Rattle.std.proofs.lemmas.Bool.Decides.{nat_tests}
use Rattle.std.proofs.lemmas.List.{take-append-le, take_all}
use Rattle.std.specs.Prelude.{Option, Some, None, nat_le, if◌then◌else◌}
use Rattle.std.specs.List.{slice_get}
use Rattle.std.specs.Option.{unwrap_or}
use Rattle.std.specs.Ordering.{nat_cmp, eq_by_cmp}
use Rattle.std.specs.Cmp.Lexicographic.{slice_cmp, nat_list_cmp_total}
use Rattle.std.specs.FinMap.{empty, get, insert, get-insert}
use Rattle.base_types.specs.Names.{ByName}
use Rattle.ref_store.specs.Refs.{Name}
use Rattle.rule_compile.specs.Patterns.{AreTrue, Patterns}
use Rattle.wild_perms.specs.Roles.{WildView}
use Rattle.hub_history.specs.declared.entry.Entry.{Entry}
use Rattle.hub_history.specs.declared.entry.EnterKept.{EnterKept}
use Rattle.hub_history.specs.declared.entry.EnterKept.TheVariants as opened
use Rattle.hub_history.specs.declared.entry.Event.{Event}
use Rattle.hub_history.specs.declared.entry.Event.TheVariants.{Entered, Looked, Permitted, Pushed}
use Rattle.hub_history.specs.declared.entry.PermChange.{PermChange}
use Rattle.hub_history.specs.declared.entry.PermsKept.{PermsKept}
use Rattle.hub_history.specs.declared.entry.PermsKept.TheVariants as permitted
use Rattle.hub_history.specs.History.{History, IsDue, IsDueAfter, Stands, after_push, history, opening_at, replay, step}
use Rattle.hub_history.specs.Laws.{IsDueBehind, IsOpeningAt}
use Rattle.hub_history.specs.Opening.{Opening, Pinned, made_by, pinned_in_force}
use Rattle.hub_history.specs.Push.{conf_put}
use Rattle.hub_history.specs.Roles.{given_by}
use Rattle.hub_history.specs.State.{State, changed, empty_repository, in_force, repository_at, wild_of}
use Rattle.hub_history.proofs.GrowthLemmas.{makes_lacking}
use Rattle.hub_history.proofs.HistoryLemmas.{some_same}
use Rattle.hub_history.proofs.MovedLogs.{behind, insert_apart, key_itself, same_key}
use Rattle.hub_history.proofs.OpeningLemmas.{pinned_at}
use Rattle.hub_history.proofs.RoleLemmas.{given_apart, push_keeps}
use Rattle.hub.specs.Since.{IsSince, SinceView, changed_wild, given_at, has_stayed, made_at, noted, since_of, wilds_noted}

-- ---- what an event leaves of a repository's creator and roles

abbrev wild_at : State → Name → WildView
wild_at state name = wild_of (repository_at state name)

-- a test of names, where they aren't one
apart_by : (repo q : Name) → ¬ (Some repo ≡ Some q) → eq_by_cmp (slice_cmp nat_cmp) q repo ≡ false
apart_by repo q other = by_test (eq_by_cmp (slice_cmp nat_cmp) q repo) refl
  where
    by_test : (b : Bool) → eq_by_cmp (slice_cmp nat_cmp) q repo ≡ b → b ≡ false
    by_test true same = absurd (other (ap (λ (n : Name). Some n) (sym (same_key q repo same))))
    by_test false is = refl

opening_leaves : (state : State) (user repo : Name) (answer : EnterKept) (q : Name) → ¬ (made_at repo answer ≡ Some q) → wild_at (changed state (made_by user repo answer)) q ≡ wild_at state q
opening_leaves state user repo opened.Granted q other = refl
opening_leaves state user repo opened.Created q other = ap wild_of (insert_apart state.repositories repo q (empty_repository (Some user)) (apart_by repo q other))
opening_leaves state user repo (opened.Denied verdict) q other = refl
opening_leaves state user repo opened.NoRepo q other = refl

given_leaves : (state : State) (repo : Name) (asked : PermChange) (answer : PermsKept) (q : Name) → ¬ (given_at repo answer ≡ Some q) → wild_at (changed state (given_by state repo asked answer)) q ≡ wild_at state q
given_leaves state repo asked permitted.Changed q other = ap wild_of (given_apart state repo asked permitted.Changed q (apart_by repo q other))
given_leaves state repo asked permitted.AlreadySo q other = refl
given_leaves state repo asked permitted.NotWild q other = refl
given_leaves state repo asked permitted.NotCreator q other = refl
given_leaves state repo asked permitted.NoSuchRole q other = refl
given_leaves state repo asked permitted.Listed q other = refl

event_leaves : (ps : Patterns) (h : History) (event : Event) → IsDue ps h event → (q : Name) → ¬ (changed_wild event ≡ Some q) → wild_at (step h event) q ≡ wild_at h.state q
event_leaves ps h (Entered user repo want answer) due q other = opening_leaves h.state user repo answer q other
event_leaves ps h (Pushed place pack cs atomic os made) due q other = by_opening (opening_at h place) due
  where
    by_opening : (o : Option Pinned) → IsDueAfter ps h.state o pack cs atomic os made → wild_at (after_push h.state o pack cs os made) q ≡ wild_at h.state q
    by_opening None due = absurd due
    by_opening (Some pinned) due = push_keeps wild_of (λ r objects refs. refl) h.state pinned pack cs os made (makes_lacking ps h.state (conf_put pinned pack cs os) made due.makes) q
event_leaves ps h (Permitted user repo asked answer) due q other = given_leaves h.state repo asked answer q other
event_leaves ps h (Looked user) due q other = refl

-- ---- what a log had where it had so many entries

module _ {X : Type 0} (part : State → X) (admin : Name) (log : List Entry) (e : Entry) where
  abbrev longer : List Entry
  longer = log ++ e ∷ []

  many : length longer ≡ length log + 1
  many = length-append log (e ∷ [])

  whole : (n : ℕ) → length log < n → part (replay admin (take n longer)) ≡ part (replay admin longer)
  whole n all = ap (λ (l : List Entry). part (replay admin l)) (take_all n longer (omega (arith, many, all)))

  -- where the entry leaves it, it has been so since then still
  stays : (since : ℕ) → ((n : ℕ) → since < n → n ≤ length log → part (replay admin (take n log)) ≡ part (replay admin log)) → part (replay admin longer) ≡ part (replay admin log)
      → (n : ℕ) → since < n → n ≤ length longer → part (replay admin (take n longer)) ≡ part (replay admin longer)
  stays since held leaves n from within = elim (cases_lt (length log) n) [
    | inl above ↦ whole n above
    | inr below ↦ ap (λ (l : List Entry). part (replay admin l)) (take-append-le n log (e ∷ []) below) ∙ held n from below ∙ sym leaves
  ]

-- ---- notes

-- what is noted of a name is the count, or what was known of it
noted_either : (wilds : ByName ℕ) (changed : Option Name) (count : ℕ) (q : Name)
    → (unwrap_or (get (wilds_noted wilds changed count) q) 0 ≡ count) ⊎ (¬ (changed ≡ Some q) × (unwrap_or (get (wilds_noted wilds changed count) q) 0 ≡ unwrap_or (get wilds q) 0))
noted_either wilds None count q = inr (λ is. cc, refl)
noted_either wilds (Some name) count q = by_test (eq_by_cmp (slice_cmp nat_cmp) q name) refl
  where
    got : (b : Bool) → eq_by_cmp (slice_cmp nat_cmp) q name ≡ b → get (insert wilds name count) q ≡ cond b (Some count) (get wilds q)
    got b is = get-insert nat_list_cmp_total wilds name count q ∙ ap (λ (x : Bool). cond x (Some count) (get wilds q)) is

    other : eq_by_cmp (slice_cmp nat_cmp) q name ≡ false → ¬ (Some name ≡ Some q)
    other is same =
        let itself : eq_by_cmp (slice_cmp nat_cmp) q name ≡ true = subst (λ (n : Name). eq_by_cmp (slice_cmp nat_cmp) q n ≡ true) (sym (some_same same)) (key_itself q) in
        let bad : true ≡ false = sym itself ∙ is in cc

    by_test : (b : Bool) → eq_by_cmp (slice_cmp nat_cmp) q name ≡ b
        → (unwrap_or (get (insert wilds name count) q) 0 ≡ count) ⊎ (¬ (Some name ≡ Some q) × (unwrap_or (get (insert wilds name count) q) 0 ≡ unwrap_or (get wilds q) 0))
    by_test true is = inl (ap (λ (o : Option ℕ). unwrap_or o 0) (got true is))
    by_test false is = inr (other is, ap (λ (o : Option ℕ). unwrap_or o 0) (got false is))

both_le : (a b n : ℕ) → (nat_le a n && nat_le b n) ≡ true → (a ≤ n) × (b ≤ n)
both_le a b n is = by_tests (nat_le a n) (nat_le b n) refl refl is
  where
    by_tests : (c d : Bool) → nat_le a n ≡ c → nat_le b n ≡ d → (c && d) ≡ true → (a ≤ n) × (b ≤ n)
    by_tests true true first second both = (grind (arith, nat_tests), grind (arith, nat_tests))
    by_tests true false first second both = absurd cc
    by_tests false d first second both = absurd cc

module _ (since : SinceView) (admin : Name) (log : List Entry) (held : IsSince since admin log) where
  -- a note before the entry is there says nothing wrong
  pub noted_before : (event : Event) (puts : Bool) → IsSince (noted since event puts (length log)) admin log
  noted_before event puts = record {
    conf = by_puts puts;
    wilds = λ name n from within. elim (noted_either since.wilds (changed_wild event) (length log) name) [
      | inl is ↦ absurd (omega (arith, is, from, within))
      | inr same ↦ held.wilds name n (omega (arith, same.1, from)) within
    ];
  }
    where
      by_puts : (b : Bool) (n : ℕ) → (if b then length log else since.conf) < n → n ≤ length log → (replay admin (take n log)).conf ≡ (replay admin log).conf
      by_puts true n from within = absurd (omega (arith, from, within))
      by_puts false n from within = held.conf n from within

  -- and with the entry behind it is right
  pub noted_behind : (ps : Patterns) (ok : AreTrue ps) (e : Entry) → IsDueBehind admin log e.event → (puts : Bool) → (puts ≡ false → (step (history admin log) e.event).conf ≡ (replay admin log).conf)
      → IsSince (noted since e.event puts (length log)) admin (log ++ e ∷ [])
  noted_behind ps ok e due puts leaves = record {
    conf = by_puts puts leaves;
    wilds = λ name n from within. elim (noted_either since.wilds (changed_wild e.event) (length log) name) [
      | inl is ↦ whole (λ (s : State). wild_at s name) admin log e n (omega (arith, is, from))
      | inr same ↦ stays (λ (s : State). wild_at s name) admin log e (since_of since name) (held.wilds name)
          (ap (λ (s : State). wild_at s name) (behind admin log e) ∙ event_leaves ps (history admin log) e.event (due ps ok) name same.0) n (omega (arith, same.1, from)) within
    ];
  }
    where
      by_puts : (b : Bool) → (b ≡ false → (step (history admin log) e.event).conf ≡ (replay admin log).conf) → (n : ℕ) → (if b then length log else since.conf) < n → n ≤ length (log ++ e ∷ [])
          → (replay admin (take n (log ++ e ∷ []))).conf ≡ (replay admin (log ++ e ∷ [])).conf
      by_puts true leaves n from within = whole (λ (s : State). s.conf) admin log e n from
      by_puts false leaves n from within = stays (λ (s : State). s.conf) admin log e since.conf held.conf (ap (λ (s : State). s.conf) (behind admin log e) ∙ leaves refl) n from within

  -- what has stayed is in force
  pub conf_in_force : (place : ℕ) → nat_le since.conf place ≡ true → place < length log → (replay admin (take (place + 1) log)).conf ≡ (replay admin log).conf
  conf_in_force place stayed within = held.conf (place + 1) (grind (arith, nat_tests, stayed)) (omega (arith, within))

  pub still_in_force : (name : Name) (place : ℕ) → has_stayed since name place ≡ true → place < length log → in_force (replay admin (take (place + 1) log)) name ≡ in_force (replay admin log) name
  still_in_force name place stayed within =
      let both = both_le since.conf (since_of since name) place stayed in
      λ i. record { conf = held.conf (place + 1) (omega (arith, both.0)) (omega (arith, within)) i; wild = held.wilds name (place + 1) (omega (arith, both.1)) (omega (arith, within)) i }

pub since_start : (admin : Name) → IsSince (record { conf = 0; wilds = empty }) admin []
since_start admin = record {
  conf = λ n from within. ap (λ (l : List Entry). (replay admin l).conf) (take_all n [] (omega arith));
  wilds = λ name n from within. ap (λ (l : List Entry). wild_at (replay admin l) name) (take_all n [] (omega arith));
}

-- ---- pins

there : {X : Type 0} (xs : List X) (i : ℕ) (x : X) → slice_get xs i ≡ Some x → i < length xs
there [] i x is = cc
there (y ∷ xs) zero x is = omega arith
there (y ∷ xs) (suc i) x is = omega (arith, there xs i x is)

module _ (admin : Name) (log : List Entry) (pin : Opening) (stands : Stands pin admin log) where
  at : IsOpeningAt admin log pin.place pin.pinned
  at = pinned_at admin log pin.place pin.pinned stands

  -- a pin has what was in force where its opening was the last entry
  pub opened_in_force : pinned_in_force pin.pinned ≡ in_force (replay admin (take (pin.place + 1) log)) pin.pinned.repo
  opened_in_force = ap pinned_in_force at.pinned_is

  pub opened_within : pin.place < length log
  opened_within = there log pin.place _ at.stands
