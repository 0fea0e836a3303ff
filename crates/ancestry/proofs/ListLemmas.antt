-- Elements of lists.
use Rattle.std.proofs.Common.{◌≡◌, ℕ, zero, suc, ◌+◌, ◌<◌, ◌≤◌, Bool, true, false, ◌||◌, cond, List, [], ◌∷◌, map, length, get_or, Contains, filter, flat_map, refl, sym, ◌∙◌, ap, subst, arith, ◌⊎◌, inl, inr, true≢false}
use Rattle.std.proofs.lemmas.List.Elements.{Contains-append_left, Contains-append_right, Contains-append_cases}
use Rattle.std.specs.List.{list_any}

pub contains_none : {X : Type 0} (x : X) → Contains [] x → ⊥
contains_none x c = omega (arith, c.1)

pub contains_here : {X : Type 0} (x : X) (xs : List X) → Contains (x ∷ xs) x
contains_here x xs = (0, omega arith, refl)

pub contains_there : {X : Type 0} (x : X) (xs : List X) (y : X) → Contains xs y → Contains (x ∷ xs) y
contains_there x xs y c = (suc c.0, omega (arith, c.1), c.2)

pub contains_cases : {X : Type 0} (x : X) (xs : List X) (y : X) → Contains (x ∷ xs) y → (x ≡ y) ⊎ Contains xs y
contains_cases x xs y c = by_place c.0 c.1 c.2
  where
    by_place : (k : ℕ) → k < length (x ∷ xs) → get_or (x ∷ xs) k y ≡ y → (x ≡ y) ⊎ Contains xs y
    by_place zero below is = inl is
    by_place (suc k) below is = inr (k, omega (arith, below), is)

pub contains_one : {X : Type 0} (x y : X) → Contains (x ∷ []) y → x ≡ y
contains_one x y c = elim (contains_cases x [] y c) [ inl is ↦ is | inr c ↦ absurd (contains_none y c) ]

pub contains_map : {X Y : Type 0} (f : X → Y) (xs : List X) (x : X) → Contains xs x → Contains (map f xs) (f x)
contains_map f [] x c = absurd (contains_none x c)
contains_map {Y = Y} f (y ∷ xs) x c =
    elim (contains_cases y xs x c) [
      | inl is ↦ subst (λ (z : Y). Contains (f y ∷ map f xs) z) (ap f is) (contains_here (f y) (map f xs))
      | inr c ↦ contains_there (f y) (map f xs) (f x) (contains_map f xs x c)
    ]

pub map_contains : {X Y : Type 0} (f : X → Y) (xs : List X) (y : Y) → Contains (map f xs) y → (x : X) × Contains xs x × (f x ≡ y)
map_contains f [] y c = absurd (contains_none y c)
map_contains f (x ∷ xs) y c =
    elim (contains_cases (f x) (map f xs) y c) [
      | inl is ↦ (x, contains_here x xs, is)
      | inr c ↦ let rest = map_contains f xs y c in (rest.0, contains_there x xs rest.0 rest.1, rest.2)
    ]

pub contains_flat_map : {X Y : Type 0} (f : X → List Y) (xs : List X) (x : X) (y : Y) → Contains xs x → Contains (f x) y → Contains (flat_map f xs) y
contains_flat_map f [] x y c d = absurd (contains_none x c)
contains_flat_map {X = X} f (z ∷ xs) x y c d =
    elim (contains_cases z xs x c) [
      | inl is ↦ Contains-append_left (f z) (flat_map f xs) y (subst (λ (w : X). Contains (f w) y) (sym is) d)
      | inr c ↦ Contains-append_right (f z) (flat_map f xs) y (contains_flat_map f xs x y c d)
    ]

pub flat_map_contains : {X Y : Type 0} (f : X → List Y) (xs : List X) (y : Y) → Contains (flat_map f xs) y → (x : X) × Contains xs x × Contains (f x) y
flat_map_contains f [] y c = absurd (contains_none y c)
flat_map_contains f (x ∷ xs) y c =
    elim (Contains-append_cases (f x) (flat_map f xs) y c) [
      | inl d ↦ (x, contains_here x xs, d)
      | inr c ↦ let rest = flat_map_contains f xs y c in (rest.0, contains_there x xs rest.0 rest.1, rest.2)
    ]

no_both : {P : Type 0} (b : Bool) → b ≡ true → b ≡ false → P
no_both b is isnt = absurd (true≢false (sym is ∙ isnt))

module _ {X : Type 0} (p : X → Bool) where
  pub contains_filter : (xs : List X) (x : X) → Contains xs x → p x ≡ true → Contains (filter p xs) x
  contains_filter [] x c passes = absurd (contains_none x c)
  contains_filter (y ∷ xs) x c passes = by_test (λ d. contains_filter xs x d passes) (p y) refl (contains_cases y xs x c)
    where
      by_test : (Contains xs x → Contains (filter p xs) x) → (b : Bool) → p y ≡ b → (y ≡ x) ⊎ Contains xs x → Contains (cond b (y ∷ filter p xs) (filter p xs)) x
      by_test rest true e (inl is) = subst (λ (z : X). Contains (y ∷ filter p xs) z) is (contains_here y (filter p xs))
      by_test rest true e (inr d) = contains_there y (filter p xs) x (rest d)
      by_test rest false e (inl is) = no_both (p x) passes (ap p (sym is) ∙ e)
      by_test rest false e (inr d) = rest d

  pub filter_contains : (xs : List X) (x : X) → Contains (filter p xs) x → Contains xs x × (p x ≡ true)
  filter_contains [] x c = absurd (contains_none x c)
  filter_contains (y ∷ xs) x c = by_test (λ d. let found = filter_contains xs x d in (contains_there y xs x found.0, found.1)) (p y) refl c
    where
      by_test : (Contains (filter p xs) x → Contains (y ∷ xs) x × (p x ≡ true)) → (b : Bool) → p y ≡ b → Contains (cond b (y ∷ filter p xs) (filter p xs)) x → Contains (y ∷ xs) x × (p x ≡ true)
      by_test rest true e c =
          elim (contains_cases y (filter p xs) x c) [
            | inl is ↦ (subst (λ (z : X). Contains (y ∷ xs) z) is (contains_here y xs), ap p (sym is) ∙ e)
            | inr d ↦ rest d
          ]
      by_test rest false e c = rest c

  pub any_contains : (xs : List X) → list_any p xs ≡ true → (x : X) × Contains xs x × (p x ≡ true)
  any_contains [] is = cc
  any_contains (x ∷ xs) is = by_test (λ e. let rest = any_contains xs e in (rest.0, contains_there x xs rest.0 rest.1, rest.2)) (p x) refl is
    where
      by_test : (list_any p xs ≡ true → (y : X) × Contains (x ∷ xs) y × (p y ≡ true)) → (b : Bool) → p x ≡ b → (b || list_any p xs) ≡ true → (y : X) × Contains (x ∷ xs) y × (p y ≡ true)
      by_test rest true e is = (x, contains_here x xs, e)
      by_test rest false e is = rest is

  pub contains_any : (xs : List X) (x : X) → Contains xs x → p x ≡ true → list_any p xs ≡ true
  contains_any [] x c passes = absurd (contains_none x c)
  contains_any (y ∷ xs) x c passes = by_test (λ d. contains_any xs x d passes) (p y) refl (contains_cases y xs x c)
    where
      by_test : (Contains xs x → list_any p xs ≡ true) → (b : Bool) → p y ≡ b → (y ≡ x) ⊎ Contains xs x → (b || list_any p xs) ≡ true
      by_test rest true e c = refl
      by_test rest false e (inl is) = no_both (p x) passes (ap p (sym is) ∙ e)
      by_test rest false e (inr d) = rest d

  pub filter_le : (xs : List X) → length (filter p xs) ≤ length xs
  filter_le [] = omega arith
  filter_le (x ∷ xs) = by_test (p x) (filter_le xs)
    where
      by_test : (b : Bool) → length (filter p xs) ≤ length xs → length (cond b (x ∷ filter p xs) (filter p xs)) ≤ length (x ∷ xs)
      by_test true rest = omega (arith, rest)
      by_test false rest = omega (arith, rest)

-- where a test passes whatever another passes, it passes nothing else or more
module _ {X : Type 0} (p q : X → Bool) (wider : (x : X) → p x ≡ true → q x ≡ true) where
  pub filter_wider : (xs : List X) → length (filter p xs) ≤ length (filter q xs)
  filter_wider [] = omega arith
  filter_wider (x ∷ xs) = by_test (filter_wider xs) (p x) refl (q x) refl
    where
      by_test : length (filter p xs) ≤ length (filter q xs) → (b : Bool) → p x ≡ b → (c : Bool) → q x ≡ c → length (cond b (x ∷ filter p xs) (filter p xs)) ≤ length (cond c (x ∷ filter q xs) (filter q xs))
      by_test rest true e true f = omega (arith, rest)
      by_test rest true e false f = no_both (q x) (wider x e) f
      by_test rest false e true f = omega (arith, rest)
      by_test rest false e false f = rest

abbrev pub SameTest : {X : Type 0} → (X → Bool) → (X → Bool) → List X → Type 0
SameTest {X} p q xs = (x : X) → Contains xs x → q x ≡ true → p x ≡ true

same_more : {X : Type 0} (p q : X → Bool) (x : X) (xs : List X) → (p x ≡ q x) → SameTest p q xs → SameTest p q (x ∷ xs)
same_more p q x xs alike rest = λ y c passes. elim (contains_cases x xs y c) [ inl is ↦ ap p (sym is) ∙ alike ∙ ap q is ∙ passes | inr d ↦ rest y d passes ]

pub filter_grows : {X : Type 0} (p q : X → Bool) → ((x : X) → p x ≡ true → q x ≡ true) → (xs : List X) → SameTest p q xs ⊎ (length (filter p xs) + 1 ≤ length (filter q xs))
filter_grows p q wider [] = inl (λ x c passes. absurd (contains_none x c))
filter_grows p q wider (x ∷ xs) = by_test (p x) refl (q x) refl (filter_grows p q wider xs)
  where
    by_test : (b : Bool) → p x ≡ b → (c : Bool) → q x ≡ c → SameTest p q xs ⊎ (length (filter p xs) + 1 ≤ length (filter q xs))
        → SameTest p q (x ∷ xs) ⊎ (length (cond b (x ∷ filter p xs) (filter p xs)) + 1 ≤ length (cond c (x ∷ filter q xs) (filter q xs)))
    by_test true e true f (inl rest) = inl (same_more p q x xs (e ∙ sym f) rest)
    by_test true e true f (inr rest) = inr (omega (arith, rest))
    by_test true e false f rest = no_both (q x) (wider x e) f
    by_test false e true f rest = inr (omega (arith, filter_wider p q wider xs))
    by_test false e false f (inl rest) = inl (same_more p q x xs (e ∙ sym f) rest)
    by_test false e false f (inr rest) = inr rest
