-- Runs in order, and the places that they have.
use Rattle.std.proofs.Common.{◌≡◌, ℕ, ◌+◌, ◌-◌, ◌<◌, ◌≤◌, ◌⊎◌, inl, inr, Bool, true, false, ◌&&◌, ◌||◌, nat_le, nat_lt, List, [], ◌∷◌, ◌++◌, length, get_or, Contains, refl, sym, ◌∙◌, ap, subst, arith, true≢false, length-append}
use Rattle.std.proofs.lemmas.Bool.{cases_lt}
use Rattle.std.proofs.lemmas.Bool.Decides.{nat_tests}
use Rattle.std.proofs.lemmas.List.{get_or_append_left, get_or_at, get_or_default, get_or_read}
use Rattle.std.proofs.lemmas.List.Elements.{All-push, Contains-get_or}
use Rattle.std.proofs.lemmas.List.Folds.{list_any-append}
use Rattle.std.proofs.lemmas.List.Quantifiers.{all_pairs_push}
use Rattle.ref_store.proofs.ObjectLemmas.{both_true}
use Rattle.ancestry.proofs.ListLemmas.{any_contains, contains_any}
use Rattle.ancestry.specs.declared.runs.Run.{Run}
use Rattle.ancestry.specs.Runs.{AreRuns, HasNoneFrom, IsFirstRun, is_in, is_within}

-- ---- one run

pub within_is : (run : Run) (place : ℕ) → run.from ≤ place → place < run.to → is_within run place ≡ true
within_is run place from to =
    let one : nat_le run.from place ≡ true = grind (arith, nat_tests, from) in
    let two : nat_lt place run.to ≡ true = grind (arith, nat_tests, to) in
    ap (λ (b : Bool). b && nat_lt place run.to) one ∙ two

pub within_numbers : (run : Run) (place : ℕ) → is_within run place ≡ true → (run.from ≤ place) × (place < run.to)
within_numbers run place is =
    let parts = both_true (nat_le run.from place) (nat_lt place run.to) is in
    let one : run.from ≤ place = grind (arith, nat_tests, parts.0) in
    let two : place < run.to = grind (arith, nat_tests, parts.1) in
    (one, two)

false_from : (b : Bool) → (b ≡ true → ⊥) → b ≡ false
false_from true isnt = absurd (isnt refl)
false_from false isnt = refl

pub not_true : (b : Bool) → (b ≡ true → ⊥) → b ≡ false
not_true b isnt = false_from b isnt

-- ---- the runs

pub in_one : (runs : List Run) (run : Run) (place : ℕ) → Contains runs run → run.from ≤ place → place < run.to → is_in runs place ≡ true
in_one runs run place c from to = contains_any (λ (r : Run). is_within r place) runs run c (within_is run place from to)

pub one_in : (runs : List Run) (place : ℕ) → is_in runs place ≡ true → (run : Run) × Contains runs run × (run.from ≤ place) × (place < run.to)
one_in runs place is = let found = any_contains (λ (r : Run). is_within r place) runs is in let numbers = within_numbers found.0 place found.2 in (found.0, found.1, numbers.0, numbers.1)

-- a later run ends later
pub ends_ascend : (runs : List Run) (i j : ℕ) (d : Run) → AreRuns runs → i ≤ j → j < length runs → (get_or runs i d).to ≤ (get_or runs j d).to
ends_ascend runs i j d are le below = elim (cases_lt i j) [
  | inl less ↦ let apart = are.apart i j d less below in let full = are.full j d below in omega (arith, apart, full)
  | inr same ↦ let is : i ≡ j = omega (arith, le, same) in subst (λ (n : ℕ). (get_or runs n d).to ≤ (get_or runs j d).to) (sym is) (omega arith)
]

-- all up to one that ended before a place ended before it, and all from one on that ends behind it end behind
-- it
pub ended_up_to : (runs : List Run) (middle at : ℕ) (run : Run) → AreRuns runs → middle < length runs → run ≡ get_or runs middle run → run.to ≤ at → (k : ℕ) (d : Run) → k < middle + 1 → (get_or runs k d).to ≤ at
ended_up_to runs middle at run are below is le k d less =
    let last : (get_or runs middle d).to ≤ at = subst (λ (r : Run). r.to ≤ at) (get_or_read runs middle run below is d) le in
    omega (arith, ends_ascend runs k middle d are (omega (arith, less)) below, last)

pub behind_from : (runs : List Run) (middle at : ℕ) (run : Run) → AreRuns runs → middle < length runs → run ≡ get_or runs middle run → at < run.to → (k : ℕ) (d : Run) → middle ≤ k → k < length runs → at < (get_or runs k d).to
behind_from runs middle at run are below is less k d le inside =
    let first : at < (get_or runs middle d).to = subst (λ (r : Run). at < r.to) (get_or_read runs middle run below is d) less in
    omega (arith, ends_ascend runs middle k d are le inside, first)

-- where no place from here on is in the runs, they end before
pub end_before : (runs : List Run) (at : ℕ) → AreRuns runs → HasNoneFrom (is_in runs) at → (k : ℕ) (d : Run) → k < length runs → (get_or runs k d).to ≤ at
end_before runs at are none k d below = elim (cases_lt at (get_or runs k d).to) [
  | inl over ↦
      let run = get_or runs k d in
      let full : run.from < run.to = are.full k d below in
      let last = run.to - 1 in
      let is : is_in runs last ≡ true = in_one runs run last (Contains-get_or runs k d below) (omega (arith, full)) (omega (arith, full)) in
      absurd (true≢false (sym is ∙ none last (omega (arith, over))))
  | inr le ↦ le
]

pub runs_none : AreRuns []
runs_none = record { full = λ k d below. absurd (omega (arith, below)); apart = λ i j d less below. absurd (omega (arith, below)) }

-- one run more, behind all
pub runs_push : (runs : List Run) (run : Run) → AreRuns runs → run.from < run.to → ((k : ℕ) (d : Run) → k < length runs → (get_or runs k d).to ≤ run.from) → AreRuns (runs ++ run ∷ [])
runs_push runs run are full behind = record {
  full = All-push (λ (r : Run). r.from < r.to) runs run are.full full;
  apart = all_pairs_push (λ (one next : Run). one.to ≤ next.from) runs run are.apart behind;
}

-- the runs without the last
pub runs_front : (runs : List Run) (run : Run) → AreRuns (runs ++ run ∷ []) → AreRuns runs
runs_front runs run are = record {
  full = λ k d below. subst (λ (r : Run). r.from < r.to) (get_or_append_left runs (run ∷ []) d k below) (are.full k d (longer k below));
  apart = λ i j d less below.
      let before : i < length runs = omega (arith, less, below) in
      subst (λ (r : Run). r.to ≤ (get_or runs j d).from) (get_or_append_left runs (run ∷ []) d i before)
      (subst (λ (r : Run). (get_or (runs ++ run ∷ []) i d).to ≤ r.from) (get_or_append_left runs (run ∷ []) d j below) (are.apart i j d less (longer j below)));
}
  where
    longer : (k : ℕ) → k < length runs → k < length (runs ++ run ∷ [])
    longer k below = omega (arith, below, length-append runs (run ∷ []))

-- the places of one run more
pub in_push : (runs : List Run) (run : Run) (place : ℕ) → is_in (runs ++ run ∷ []) place ≡ (is_in runs place || is_within run place)
in_push runs run place = list_any-append (λ (r : Run). is_within r place) runs (run ∷ []) ∙ ap (λ (b : Bool). is_in runs place || b) (or_false (is_within run place))
  where
    or_false : (b : Bool) → (b || false) ≡ b
    or_false true = refl
    or_false false = refl

-- ---- the first run behind a place

pub first_of_ended : (runs : List Run) (at n : ℕ) (run : Run) → AreRuns runs
    → ((k : ℕ) (d : Run) → k < n → (get_or runs k d).to ≤ at) → ((k : ℕ) (d : Run) → n ≤ k → k < length runs → at < (get_or runs k d).to)
    → n < length runs → get_or runs n run ≡ run → IsFirstRun runs at run
first_of_ended runs at n run are before behind below is = record {
  behind = subst (λ (r : Run). at < r.to) is (behind n run (omega arith) below);
  full = subst (λ (r : Run). r.from < r.to) is (are.full n run below);
  none = λ place le less. not_true (is_in runs place) (λ has. outside place le less (one_in runs place has));
  all = λ place from to. in_one runs run place (n, below, is) from to;
}
  where
    outside : (place : ℕ) → at ≤ place → place < run.from → (r : Run) × Contains runs r × (r.from ≤ place) × (place < r.to) → ⊥
    outside place le less found =
        let k = found.1.0 in
        let r = found.0 in
        let same : get_or runs k r ≡ r = found.1.2 in
        elim (cases_lt k n) [
          | inl early ↦ let ended : r.to ≤ at = subst (λ (x : Run). x.to ≤ at) same (before k r early) in omega (arith, ended, le, found.3)
          | inr late ↦ elim (cases_lt n k) [
            | inl later ↦
                let apart : run.to ≤ r.from = subst (λ (x : Run). x.to ≤ r.from) (is_at r) (subst (λ (x : Run). (get_or runs n r).to ≤ x.from) same (are.apart n k r later found.1.1)) in
                let full : run.from < run.to = subst (λ (x : Run). x.from < x.to) is (are.full n run below) in
                omega (arith, apart, full, found.2, less)
            | inr here ↦
                let at_n : k ≡ n = omega (arith, late, here) in
                let r_is : r ≡ run = sym same ∙ ap (λ (m : ℕ). get_or runs m r) at_n ∙ is_at r in
                let from : run.from ≤ place = subst (λ (x : Run). x.from ≤ place) r_is found.2 in
                omega (arith, from, less)
          ]
        ]
      where
        is_at : (d : Run) → get_or runs n d ≡ run
        is_at d = get_or_default runs n d run below ∙ is

pub none_of_ended : (runs : List Run) (at n : ℕ) → ((k : ℕ) (d : Run) → k < n → (get_or runs k d).to ≤ at) → length runs ≤ n → HasNoneFrom (is_in runs) at
none_of_ended runs at n before all place le = not_true (is_in runs place) (λ has.
    let found = one_in runs place has in
    let ended : found.0.to ≤ at = subst (λ (x : Run). x.to ≤ at) found.1.2 (before found.1.0 found.0 (omega (arith, found.1.1, all))) in
    omega (arith, ended, le, found.3))

-- ---- a run behind all

-- the last one grows
pub push_joined : (runs init : List Run) (last : Run) (from to : ℕ) → AreRuns runs → runs ≡ init ++ last ∷ [] → from < to → last.to ≡ from → AreRuns (init ++ record { from = last.from; to = to } ∷ [])
push_joined runs init last from to are split less touch =
    let whole : AreRuns (init ++ last ∷ []) = subst AreRuns split are in
    let here : length init < length (init ++ last ∷ []) = omega (arith, length-append init (last ∷ [])) in
    let full : last.from < last.to = subst (λ (r : Run). r.from < r.to) (get_or_at init last [] last (length init) refl) (whole.full (length init) last here) in
    runs_push init (record { from = last.from; to = to }) (runs_front init last whole) (omega (arith, full, touch, less))
    (λ k d below.
    subst (λ (r : Run). (get_or init k d).to ≤ r.from) (get_or_at init last [] d (length init) refl)
    (subst (λ (r : Run). r.to ≤ (get_or (init ++ last ∷ []) (length init) d).from) (get_or_append_left init (last ∷ []) d k below) (whole.apart k (length init) d below here)))

-- one comes behind it
pub push_apart : (runs init : List Run) (last : Run) (from to : ℕ) → AreRuns runs → runs ≡ init ++ last ∷ [] → from < to → HasNoneFrom (is_in runs) from → AreRuns ((init ++ last ∷ []) ++ record { from = from; to = to } ∷ [])
push_apart runs init last from to are split less none =
    subst (λ (rs : List Run). AreRuns (rs ++ record { from = from; to = to } ∷ [])) split (runs_push runs (record { from = from; to = to }) are less (end_before runs from are none))

-- a run that grows has what it had, and what it grew by
pub within_joined : (last : Run) (from to place : ℕ) → last.to ≡ from → last.from < last.to → from < to → is_within (record { from = last.from; to = to }) place ≡ (is_within last place || (nat_le from place && nat_lt place to))
within_joined last from to place touch full less = by_cases (cases_lt place last.from) (cases_lt place from) (cases_lt place to)
  where
    side : Bool
    side = is_within last place || (nat_le from place && nat_lt place to)

    joined : Run
    joined = record { from = last.from; to = to }

    is_side : (b : Bool) → is_within last place ≡ b → (c : Bool) → is_within (record { from = from; to = to }) place ≡ c → side ≡ (b || c)
    is_side b p c q = ap (λ (x : Bool). x || (nat_le from place && nat_lt place to)) p ∙ ap (λ (x : Bool). b || x) q

    no : (r : Run) → (place < r.from) ⊎ (r.to ≤ place) → is_within r place ≡ false
    no r (inl below) = not_true (is_within r place) (λ is. let n = within_numbers r place is in omega (arith, n.0, below))
    no r (inr past) = not_true (is_within r place) (λ is. let n = within_numbers r place is in omega (arith, n.1, past))

    by_cases : (place < last.from) ⊎ (last.from ≤ place) → (place < from) ⊎ (from ≤ place) → (place < to) ⊎ (to ≤ place) → is_within joined place ≡ side
    by_cases (inl before) _ _ = no joined (inl before) ∙ sym (is_side false (no last (inl before)) false (no (record { from = from; to = to }) (inl (omega (arith, before, full, touch)))))
    by_cases (inr after) (inl early) _ = within_is joined place after (omega (arith, early, less)) ∙ sym (is_side true (within_is last place after (omega (arith, early, touch))) false (no (record { from = from; to = to }) (inl early)))
    by_cases (inr after) (inr late) (inl inside) = within_is joined place after inside ∙ sym (is_side false (no last (inr (omega (arith, late, touch)))) true (within_is (record { from = from; to = to }) place late inside))
    by_cases (inr after) (inr late) (inr past) = no joined (inr past) ∙ sym (is_side false (no last (inr (omega (arith, late, touch)))) false (no (record { from = from; to = to }) (inr past)))
