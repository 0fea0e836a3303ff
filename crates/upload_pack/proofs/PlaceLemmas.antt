-- Places that rise, and what stands at them.
use Rattle.std.proofs.Common.{◌≡◌, ℕ, zero, suc, ◌+◌, ◌<◌, ◌≤◌, inl, inr, Bool, true, false, cond, List, [], ◌∷◌, length, drop, Option, Some, Contains, refl, sym, ◌∙◌, ap, subst, arith, add-one}
use Rattle.std.specs.Prelude.{slice_get, slice_index}
use Rattle.std.specs.List.{cons_option, filter, filter_map}
use Rattle.std.specs.List.Sorted.{IsStrictlyIncreasing}
use Rattle.std.proofs.lemmas.Bool.{cases_lt}
use Rattle.std.proofs.lemmas.Option.{slice_get_within}
use Rattle.ancestry.proofs.ListLemmas.{contains_cases, contains_here, contains_none, contains_there}

-- each is greater than the one before, and the first is at least this
abbrev pub Rises : ℕ → List ℕ → Type 0
Rises n [] = Unit {0}
Rises n (x ∷ xs) = (n ≤ x) × Rises (x + 1) xs

rises_from : (n : ℕ) (xs : List ℕ) → IsStrictlyIncreasing xs → (0 < length xs → n ≤ slice_index xs 0) → Rises n xs
rises_from n [] up first = tt
rises_from n (x ∷ xs) up first = (
  first (omega arith),
  rises_from (x + 1) xs (λ k less. later k (up (suc k) (omega (arith, less)))) (λ some. omega (arith, later_first (up 0 (omega (arith, some))))),
)
  where
    later : (k : ℕ) → slice_index (x ∷ xs) (suc k) < slice_index (x ∷ xs) (suc k + 1) → slice_index xs k < slice_index xs (k + 1)
    later k less = subst (λ (m : ℕ). slice_index (x ∷ xs) (suc k) < slice_index (x ∷ xs) m) same less
      where
        same : suc k + 1 ≡ suc (k + 1)
        same = omega arith

    later_first : slice_index (x ∷ xs) 0 < slice_index (x ∷ xs) (0 + 1) → x < slice_index xs 0
    later_first less = less

pub rises : (xs : List ℕ) → IsStrictlyIncreasing xs → Rises 0 xs
rises xs up = rises_from 0 xs up (λ some. omega arith)

above : (n : ℕ) (xs : List ℕ) (i : ℕ) → Rises n xs → Contains xs i → n ≤ i
above n [] i up c = absurd (contains_none i c)
above n (x ∷ xs) i up c = elim (contains_cases x xs i c) [
  | inl same ↦ omega (arith, up.0, same)
  | inr later ↦ omega (arith, up.0, above (x + 1) xs i up.1 later)
]

-- there are no more of them than numbers from the first bound to the last
pub rise_within : (n m : ℕ) (xs : List ℕ) → Rises n xs → n ≤ m → ((i : ℕ) → Contains xs i → i < m) → n + length xs ≤ m
rise_within n m [] up le below = omega (arith, le)
rise_within n m (x ∷ xs) up le below =
    let small : x < m = below x (contains_here x xs) in
    omega (arith, up.0, rise_within (x + 1) m xs up.1 (omega (arith, small)) (λ i c. below i (contains_there x xs i c)))

module _ {X : Type 0} (items : List X) (p : X → Bool) where
  -- an item stands at this place, and passes the test
  abbrev pub Passes : ℕ → Type 0
  Passes place = (item : X) × (slice_get items place ≡ Some item) × (p item ≡ true)

  -- from this place on, these are the places of the items that pass
  abbrev pub AreAll : ℕ → List ℕ → Type 0
  AreAll n places = (i : ℕ) → n ≤ i → (Contains places i → Passes i) × (Passes i → Contains places i)

  drop_more : (n : ℕ) (item : X) (rest : List X) (xs : List X) → drop n xs ≡ item ∷ rest → (slice_get xs n ≡ Some item) × (drop (suc n) xs ≡ rest)
  drop_more zero item rest [] is = absurd cc
  drop_more zero item rest (x ∷ xs) is = (cc, cc)
  drop_more (suc n) item rest [] is = absurd cc
  drop_more (suc n) item rest (x ∷ xs) is = drop_more n item rest xs is

  drop_none : (n : ℕ) (xs : List X) → drop n xs ≡ [] → length xs ≤ n
  drop_none n [] is = omega arith
  drop_none zero (x ∷ xs) is = absurd cc
  drop_none (suc n) (x ∷ xs) is = omega (arith, drop_none n xs is)

  along : (rest : List X) (n : ℕ) (places : List ℕ) → drop n items ≡ rest → Rises n places → AreAll n places → filter_map (slice_get items) places ≡ filter p rest
  along [] n [] at up all = refl
  along [] n (x ∷ xs) at up all =
      let there = (all x up.0).0 (contains_here x xs) in
      absurd (omega (arith, up.0, drop_none n items at, slice_get_within items x there.0 there.1))
  along (item ∷ rest) n places at up all =
      let here = drop_more n item rest items at in
      by_test (p item) refl here.0 places up all (λ xs up' all'. along rest (n + 1) xs (ap (λ m. drop m items) (add-one n) ∙ here.1) up' all')
    where
      by_test : (b : Bool) → p item ≡ b → slice_get items n ≡ Some item → (places : List ℕ) → Rises n places → AreAll n places
          → ((xs : List ℕ) → Rises (n + 1) xs → AreAll (n + 1) xs → filter_map (slice_get items) xs ≡ filter p rest) → filter_map (slice_get items) places ≡ cond b (item ∷ filter p rest) (filter p rest)
      by_test true passes there [] up all later = absurd (contains_none n ((all n (omega arith)).1 (item, there, passes)))
      by_test true passes there (x ∷ xs) up all later =
          let same : x ≡ n = elim (contains_cases x xs n ((all n (omega arith)).1 (item, there, passes))) [ inl is ↦ is | inr behind ↦ absurd (omega (arith, up.0, above (x + 1) xs n up.1 behind)) ] in
          ap (λ (o : Option X). cons_option o (filter_map (slice_get items) xs)) (ap (slice_get items) same ∙ there)
          ∙ ap (λ (os : List X). item ∷ os) (later xs (subst (λ (m : ℕ). Rises (m + 1) xs) same up.1) (λ i less. (
            λ c. (all i (omega (arith, less))).0 (contains_there x xs i c),
            λ is. elim (contains_cases x xs i ((all i (omega (arith, less))).1 is)) [ inl at ↦ absurd (omega (arith, at, same, less)) | inr c ↦ c ],
          )))
      by_test false fails there [] up all later = later [] tt (λ i less. (λ c. absurd (contains_none i c), λ is. (all i (omega (arith, less))).1 is))
      by_test false fails there (x ∷ xs) up all later =
          let behind : n < x = elim (cases_lt n x) [
            | inl less ↦ less
            | inr le ↦ (
                let same : x ≡ n = omega (arith, le, up.0) in
                let found = (all n (omega arith)).0 (subst (λ (m : ℕ). Contains (x ∷ xs) m) same (contains_here x xs)) in
                let one : found.0 ≡ item = cc (found.1, there) in
                absurd (differ (p item) (sym (ap p one) ∙ found.2) fails)
                )
          ] in
          later (x ∷ xs) (omega (arith, behind), up.1) (λ i less. all i (omega (arith, less)))
        where
          differ : (b : Bool) → b ≡ true → b ≡ false → ⊥
          differ true is isnt = absurd cc
          differ false is isnt = absurd cc

  -- places that rise, of all items that pass a test and of no other, lead to the items that pass, in their
  -- order
  pub items_at : (places : List ℕ) → IsStrictlyIncreasing places → AreAll 0 places → filter_map (slice_get items) places ≡ filter p items
  items_at places up all = along items 0 places refl (rises places up) all
