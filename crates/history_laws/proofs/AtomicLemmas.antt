-- Of which command those of an atomic push are told.
use Rattle.std.proofs.Common.{◌≡◌, inl, inr, ◌<◌, ◌+◌, ℕ, zero, suc, Bool, true, false, not, cond, List, [], ◌∷◌, ◌++◌, map, refl, sym, ◌∙◌, ap, subst, arith}
use Rattle.std.specs.Prelude.{Option, Some, None, if◌then◌else◌}
use Rattle.std.specs.List.{list_any, position, position_from, slice_get}
use Rattle.std.proofs.lemmas.Bool.{cases_lt}
use Rattle.std.proofs.lemmas.Iterator.Adapters.{position_from-zero}
use Rattle.git_object.specs.Content.{Content}
use Rattle.ref_store.specs.Refs.{Name}
use Rattle.ref_store.specs.declared.command.Command.{Command}
use Rattle.rule_compile.specs.Patterns.{AreTrue, Patterns}
use Rattle.hub_history.specs.declared.outcome.Outcome.{Outcome}
use Rattle.hub_history.specs.declared.outcome.Outcome.TheVariants.{AtomicOther}
use Rattle.hub_history.specs.declared.entry.Entry.{Entry}
use Rattle.hub_history.specs.History.{IsLegal, replay}
use Rattle.hub_history.specs.Laws.{HasNoRefusal, TellsCommand}
use Rattle.hub_history.specs.Opening.{Pinned}
use Rattle.hub_history.specs.Push.{JudgesAllAtPush, beside, beside_first, in_order, is_done, outcomes_in, together}
use Rattle.hub_history.specs.State.{InForce, Repository, in_force, repository_at}
use Rattle.hub_history.proofs.HistoryLemmas.{some_same}
use Rattle.hub_history.proofs.MovedLogs.{due_here}
use Rattle.hub_history.proofs.MovedRefs.{done_among, done_is, none_done, told_together}
use Rattle.history_laws.specs.Laws.{AtomicOtherNamesTheFirst, IsFirstRefused}
use Rattle.history_laws.proofs.OutcomeLemmas.{never_other}

-- ---- the first that passes a test

record IsFirst {X : Type 0} (test : X → Bool) (xs : List X) (k : ℕ) : Type 0 where
  item : X
  item_is : slice_get xs k ≡ Some item
  passes : test item ≡ true
  before : (j : ℕ) (y : X) → j < k → slice_get xs j ≡ Some y → test y ≡ false

abbrev IsFirstFrom : {X : Type 0} → (X → Bool) → List X → ℕ → ℕ → Type 0
IsFirstFrom test xs from first = (k : ℕ) × (first ≡ from + k) × IsFirst test xs k

first_from : {X : Type 0} (test : X → Bool) (xs : List X) (from first : ℕ) → position_from test from xs ≡ Some first → IsFirstFrom test xs from first
first_from {X = X} test [] from first is = cc
first_from {X = X} test (x ∷ xs) from first is = by_test (test x) refl is (λ later. first_from test xs (from + 1) first later)
  where
    behind : (k : ℕ) → test x ≡ false → IsFirst test xs k → (j : ℕ) (y : X) → j < suc k → slice_get (x ∷ xs) j ≡ Some y → test y ≡ false
    behind k fails rest zero y below there = ap test (sym (some_same there)) ∙ fails
    behind k fails rest (suc j) y below there = rest.before j y (omega (arith, below)) there

    by_test : (b : Bool) → test x ≡ b → cond b (Some from) (position_from test (from + 1) xs) ≡ Some first
        → (position_from test (from + 1) xs ≡ Some first → IsFirstFrom test xs (from + 1) first) → IsFirstFrom test (x ∷ xs) from first
    by_test true passes is rest = (0, omega (arith, some_same is), record { item = x; item_is = refl; passes = passes; before = λ j y below there. absurd (omega (arith, below)) })
    by_test false fails is rest =
        let found = rest is in
        (suc found.0, omega (arith, found.1), record { item = found.2.item; item_is = found.2.item_is; passes = found.2.passes; before = behind found.0 fails found.2 })

first_at : {X : Type 0} (test : X → Bool) (xs : List X) (first : ℕ) → position test xs ≡ Some first → IsFirst test xs first
first_at test xs first is =
    let found = first_from test xs 0 first (sym (position_from-zero test xs) ∙ is) in
    let same : found.0 ≡ first = omega (arith, found.1) in
    subst (IsFirst test xs) same found.2

-- ---- what becomes of each item

mapped : {X Y : Type 0} (f : X → Y) (xs : List X) (k : ℕ) (x : X) → slice_get xs k ≡ Some x → slice_get (map f xs) k ≡ Some (f x)
mapped f [] k x is = cc
mapped f (y ∷ xs) zero x is = ap (λ z. Some (f z)) (some_same is)
mapped f (y ∷ xs) (suc k) x is = mapped f xs k x is

was_mapped : {X Y : Type 0} (f : X → Y) (xs : List X) (k : ℕ) (y : Y) → slice_get (map f xs) k ≡ Some y → (x : X) × (slice_get xs k ≡ Some x) × (f x ≡ y)
was_mapped f [] k y is = cc
was_mapped f (x ∷ xs) zero y is = (x, refl, some_same is)
was_mapped f (x ∷ xs) (suc k) y is = was_mapped f xs k y is

-- ---- together

undone : (b : Bool) → not b ≡ true → b ≡ false
undone true is = sym is
undone false is = refl

still_done : (b : Bool) → not b ≡ false → b ≡ true
still_done true is = refl
still_done false is = sym is

module _ (ps : Patterns) (force : InForce) (now : Repository) (pinned : Pinned) (pack : List Content) (cs : List Command) (atomic : Bool) (js : List (Option Outcome)) (judges : JudgesAllAtPush ps force pinned pack cs js) where
  abbrev told : List Outcome
  told = outcomes_in now pack cs atomic js

  abbrev run : List Outcome
  run = in_order now.refs cs js

  -- beside the first refusal
  beside_kept : (first : ℕ) (o : Outcome) → is_done o ≡ false → beside first o ≡ o
  beside_kept first o undone = ap (λ (b : Bool). if b then AtomicOther first else o) undone

  beside_done : (first : ℕ) (o : Outcome) → is_done o ≡ true → beside first o ≡ AtomicOther first
  beside_done first o done = ap (λ (b : Bool). if b then AtomicOther first else o) done

  -- what is told of another names the first refusal
  names : (k first place : ℕ) → slice_get (map (beside first) run) k ≡ Some (AtomicOther place) → first ≡ place
  names k first place is = by_done (is_done was.0) refl
    where
      was : (x : Outcome) × (slice_get run k ≡ Some x) × (beside first x ≡ AtomicOther place)
      was = was_mapped (beside first) run k (AtomicOther place) is

      by_done : (b : Bool) → is_done was.0 ≡ b → first ≡ place
      by_done true done = let same : AtomicOther first ≡ AtomicOther place = sym (beside_done first was.0 done) ∙ was.2 in cc
      by_done false other = absurd (never_other ps force now pinned pack cs atomic js judges k place (was.1 ∙ ap (λ (x : Outcome). Some x) (sym (beside_kept first was.0 other) ∙ was.2)))

  -- that is the first refused
  first_refused : (first : ℕ) → position (λ o. not (is_done o)) run ≡ Some first → IsFirstRefused (map (beside first) run) first
  first_refused first is = record {
    outcome = at.item;
    outcome_is = mapped (beside first) run first at.item at.item_is ∙ ap (λ (x : Outcome). Some x) (beside_kept first at.item refused);
    refused = is_refused;
    before = λ earlier other below there. inr (first, before earlier other below there);
  }
    where
      at : IsFirst (λ o. not (is_done o)) run first
      at = first_at (λ o. not (is_done o)) run first is

      refused : is_done at.item ≡ false
      refused = undone (is_done at.item) at.passes

      is_refused : ¬ HasNoRefusal at.item
      is_refused (inl done) = let bad : true ≡ false = ap is_done (sym done) ∙ refused in cc
      is_refused (inr other) = never_other ps force now pinned pack cs atomic js judges first other.0 (at.item_is ∙ ap (λ (x : Outcome). Some x) other.1)

      before : (earlier : ℕ) (other : Outcome) → earlier < first → slice_get (map (beside first) run) earlier ≡ Some other → other ≡ AtomicOther first
      before earlier other below there =
          let was = was_mapped (beside first) run earlier other there in
          sym was.2 ∙ beside_done first was.0 (still_done (is_done was.0) (at.before earlier was.0 below was.1))

  other_together : (b : Bool) (k place : ℕ) → slice_get (together b run) k ≡ Some (AtomicOther place) → (b ≡ true) × IsFirstRefused (together b run) place
  other_together false k place is = absurd (never_other ps force now pinned pack cs atomic js judges k place is)
  other_together true k place is = by_first (position (λ o. not (is_done o)) run) refl is
    where
      by_first : (p : Option ℕ) → position (λ o. not (is_done o)) run ≡ p → slice_get (beside_first p run) k ≡ Some (AtomicOther place) → (true ≡ true) × IsFirstRefused (beside_first p run) place
      by_first None e is = absurd (never_other ps force now pinned pack cs atomic js judges k place is)
      by_first (Some first) e is = (refl, subst (IsFirstRefused (map (beside first) run)) (names k first place is) (first_refused first e))

  pub other_told : (k place : ℕ) → slice_get told k ≡ Some (AtomicOther place) → (atomic ≡ true) × IsFirstRefused told place
  other_told k place is =
      let same : told ≡ together atomic run = told_together ps force now pinned pack cs atomic js judges k (AtomicOther place) is refl in
      let found = other_together atomic k place (ap (λ (os : List Outcome). slice_get os k) (sym same) ∙ is) in
      (found.0, subst (λ (os : List Outcome). IsFirstRefused os place) (sym same) found.1)

-- ---- and all that have no refusal are told so

-- there is one first refusal
one_first : (os : List Outcome) (a b : ℕ) → IsFirstRefused os a → IsFirstRefused os b → a ≡ b
one_first os a b p q = elim (cases_lt a b) [
  | inl below ↦ absurd (p.refused (q.before a p.outcome below p.outcome_is))
  | inr above ↦ elim (cases_lt b a) [
    | inl below ↦ absurd (q.refused (p.before b q.outcome below q.outcome_is))
    | inr over ↦ omega (arith, above, over)
  ]
]

-- what has a refusal of its own isn't done
refused_undone : (o : Outcome) → ¬ HasNoRefusal o → is_done o ≡ false
refused_undone o refused = by_done (is_done o) refl
  where
    by_done : (b : Bool) → is_done o ≡ b → b ≡ false
    by_done true done = absurd (refused (inl (done_is o done)))
    by_done false other = refl

module _ (ps : Patterns) (ok : AreTrue ps) (admin : Name) (before : List Entry) (entry : Entry) (legal : IsLegal admin (before ++ entry ∷ [])) (pinned : Pinned) (command : Command) where
  abbrev now_at : Repository
  now_at = repository_at (replay admin before) pinned.repo

  abbrev force_at : InForce
  force_at = in_force (replay admin before) pinned.repo

  pub other_names : (place : ℕ) (t : TellsCommand admin before entry pinned command (AtomicOther place)) → (t.atomic ≡ true) × IsFirstRefused t.outcomes place
  other_names place t =
      let due = due_here ps ok admin before entry legal t.place t.pack t.commands t.atomic t.outcomes t.made pinned t.is_push t.opening in
      let found = other_told ps force_at now_at pinned t.pack t.commands t.atomic due.judged due.judges t.index place (ap (λ (os : List Outcome). slice_get os t.index) (sym due.told) ∙ t.outcome_is) in
      (found.0, subst (λ (os : List Outcome). IsFirstRefused os place) (sym due.told) found.1)

  -- where one is refused none is done
  none_here : (o : Outcome) (t : TellsCommand admin before entry pinned command o) → t.atomic ≡ true → (place : ℕ) → IsFirstRefused t.outcomes place → list_any is_done t.outcomes ≡ false
  none_here o t together_is place first =
      let due = due_here ps ok admin before entry legal t.place t.pack t.commands t.atomic t.outcomes t.made pinned t.is_push t.opening in
      let told_is : t.outcomes ≡ outcomes_in now_at t.pack t.commands true due.judged = due.told ∙ ap (λ (b : Bool). outcomes_in now_at t.pack t.commands b due.judged) together_is in
      ap (list_any is_done) told_is
      ∙ none_done now_at t.pack t.commands due.judged place first.outcome (ap (λ (os : List Outcome). slice_get os place) (sym told_is) ∙ first.outcome_is) (refused_undone first.outcome first.refused)

  pub all_name : (o : Outcome) (place : ℕ) (t : TellsCommand admin before entry pinned command o) → t.atomic ≡ true → IsFirstRefused t.outcomes place → HasNoRefusal o → o ≡ AtomicOther place
  all_name o place t together_is first (inl done) =
      let some : list_any is_done t.outcomes ≡ true = done_among t.outcomes t.index (t.outcome_is ∙ ap (λ (x : Outcome). Some x) done) in
      absurd (let bad : true ≡ false = sym some ∙ none_here o t together_is place first in cc)
  all_name o place t together_is first (inr other) =
      let due = due_here ps ok admin before entry legal t.place t.pack t.commands t.atomic t.outcomes t.made pinned t.is_push t.opening in
      let told_is : slice_get (outcomes_in now_at t.pack t.commands t.atomic due.judged) t.index ≡ Some (AtomicOther other.0) =
      ap (λ (os : List Outcome). slice_get os t.index) (sym due.told) ∙ t.outcome_is ∙ ap (λ (x : Outcome). Some x) other.1 in
      let found = other_told ps force_at now_at pinned t.pack t.commands t.atomic due.judged due.judges t.index other.0 told_is in
      let here : IsFirstRefused t.outcomes other.0 = subst (λ (os : List Outcome). IsFirstRefused os other.0) (sym due.told) found.1 in
      other.1 ∙ ap (λ (n : ℕ). AtomicOther n) (one_first t.outcomes other.0 place here first)

pub names_the_first : (ps : Patterns) → AreTrue ps → AtomicOtherNamesTheFirst
names_the_first ps ok = record {
  only = λ admin before entry pinned command place legal tells. other_names ps ok admin before entry legal pinned command place tells;
  all = λ admin before entry pinned command outcome place legal tells together_is first free. all_name ps ok admin before entry legal pinned command outcome place tells together_is first free;
}
