-- What lists have, and where a list that grew by one item is cut.
use Rattle.std.proofs.Common.{◌≡◌, ◌+◌, ℕ, zero, suc, not, Some, None, length-append, Bool, true, false, cond, List, [], ◌∷◌, ◌++◌, map, length, take, Contains, ◌⊎◌, inl, inr, refl, sym, ap, ◌∙◌, subst, arith}
use Rattle.std.specs.Prelude.{filter, slice_get}
use Rattle.std.specs.List.{flat_map, list_all}
use Rattle.std.specs.Str.{bytes_eq}
use Rattle.std.specs.Cmp.Lexicographic.{nat_list_eq_equiv, same_text}
use Rattle.std.proofs.lemmas.Bool.{and_from, and_parts, not-true, not_from_false, or_cases, or_from, or_left, or_parts, or_right}
use Rattle.std.proofs.lemmas.List.{append-nil, append_assoc}
use Rattle.std.proofs.lemmas.List.Elements.{Contains-append_cases, Contains-append_left, Contains-append_right, Contains-push, Contains-push_cases, filter-append}
use Rattle.conf_groups.specs.Groups.{holds, with_item, with_items}
use Rattle.conf_groups.specs.Laws.{are_distinct}
use Rattle.conf_groups.proofs.DistinctLemmas.{holds_push}
use Rattle.conf_groups.proofs.TableLemmas.{held_more, still_held_all}

-- ---- what a list has

module _ {X : Type 0} where
  pub in_none : (x : X) → Contains [] x → ⊥
  in_none x c = absurd (omega (arith, c.1))

  pub here : (x : X) (xs : List X) → Contains (x ∷ xs) x
  here x xs = Contains-append_left (x ∷ []) xs x (Contains-push [] x)

  pub there : (x : X) (xs : List X) (y : X) → Contains xs y → Contains (x ∷ xs) y
  there x xs y c = Contains-append_right (x ∷ []) xs y c

  pub first_or_rest : (x : X) (xs : List X) (y : X) → Contains (x ∷ xs) y → (x ≡ y) ⊎ Contains xs y
  first_or_rest x xs y c =
      elim (Contains-append_cases (x ∷ []) xs y c) [
        | inl first ↦ elim (Contains-push_cases [] x y first) [ inl none ↦ absurd (in_none y none) | inr same ↦ inl same ]
        | inr rest ↦ inr rest
      ]

  pub only : (x y : X) → Contains (x ∷ []) y → x ≡ y
  only x y c = elim (first_or_rest x [] y c) [ inl same ↦ same | inr none ↦ absurd (in_none y none) ]

module _ {X Y : Type 0} where
  pub in_map : (f : X → Y) (xs : List X) (y : Y) → Contains (map f xs) y → (x : X) × Contains xs x × (f x ≡ y)
  in_map f [] y c = absurd (in_none y c)
  in_map f (x ∷ xs) y c =
      elim (first_or_rest (f x) (map f xs) y c) [
        | inl same ↦ (x, here x xs, same)
        | inr rest ↦ let found = in_map f xs y rest in (found.0, there x xs found.0 found.1, found.2)
      ]

  pub map_has : (f : X → Y) (xs : List X) (x : X) → Contains xs x → Contains (map f xs) (f x)
  map_has f [] x c = absurd (in_none x c)
  map_has f (z ∷ xs) x c =
      elim (first_or_rest z xs x c) [
        | inl same ↦ subst (λ (w : X). Contains (map f (z ∷ xs)) (f w)) same (here (f z) (map f xs))
        | inr rest ↦ there (f z) (map f xs) (f x) (map_has f xs x rest)
      ]

  pub in_flat_map : (f : X → List Y) (xs : List X) (y : Y) → Contains (flat_map f xs) y → (x : X) × Contains xs x × Contains (f x) y
  in_flat_map f [] y c = absurd (in_none y c)
  in_flat_map f (x ∷ xs) y c =
      elim (Contains-append_cases (f x) (flat_map f xs) y c) [
        | inl first ↦ (x, here x xs, first)
        | inr rest ↦ let found = in_flat_map f xs y rest in (found.0, there x xs found.0 found.1, found.2)
      ]

  pub flat_map_has : (f : X → List Y) (xs : List X) (x : X) (y : Y) → Contains xs x → Contains (f x) y → Contains (flat_map f xs) y
  flat_map_has f [] x y c d = absurd (in_none x c)
  flat_map_has f (z ∷ xs) x y c d =
      elim (first_or_rest z xs x c) [
        | inl same ↦ Contains-append_left (f z) (flat_map f xs) y (subst (λ (w : X). Contains (f w) y) (sym same) d)
        | inr rest ↦ Contains-append_right (f z) (flat_map f xs) y (flat_map_has f xs x y rest d)
      ]

-- ---- words of a list

abbrev pub Words : Type 0
Words = List (List ℕ)

pub held_there : (items : Words) (word : List ℕ) → holds items word ≡ true → Contains items word
held_there [] word h = absurd cc
held_there (x ∷ xs) word h =
    elim (or_cases (bytes_eq x word) (holds xs word) h) [
      | inl same ↦ subst (λ (w : List ℕ). Contains (x ∷ xs) w) (same_text x word (sym same)) (here x xs)
      | inr rest ↦ there x xs word (held_there xs word rest)
    ]

pub there_held : (items : Words) (word : List ℕ) → Contains items word → holds items word ≡ true
there_held [] word c = absurd (in_none word c)
there_held (x ∷ xs) word c =
    elim (first_or_rest x xs word c) [
      | inl same ↦ or_left (bytes_eq x word) (holds xs word) (subst (λ (w : List ℕ). bytes_eq x w ≡ true) same (nat_list_eq_equiv.refl x))
      | inr rest ↦ or_right (bytes_eq x word) (holds xs word) (there_held xs word rest)
    ]

held_by_item : (xs : Words) (y w : List ℕ) → holds (with_item xs y) w ≡ true → (holds xs w ≡ true) ⊎ (bytes_eq y w ≡ true)
held_by_item xs y w h =
    elim (holds xs y) as (λ b. holds (cond b xs (xs ++ y ∷ [])) w ≡ true → (holds xs w ≡ true) ⊎ (bytes_eq y w ≡ true)) [
      | true ↦ λ k. inl k
      | false ↦ λ k. or_cases (holds xs w) (bytes_eq y w) (sym (holds_push xs y w) ∙ k)
    ] h

held_by_items : (xs ys : Words) (w : List ℕ) → holds (with_items xs ys) w ≡ true → (holds xs w ≡ true) ⊎ (holds ys w ≡ true)
held_by_items xs [] w h = inl h
held_by_items xs (y ∷ ys) w h =
    elim (held_by_items (with_item xs y) ys w h) [
      | inl front ↦ elim (held_by_item xs y w front) [ inl before ↦ inl before | inr same ↦ inr (or_left (bytes_eq y w) (holds ys w) same) ]
      | inr rest ↦ inr (or_right (bytes_eq y w) (holds ys w) rest)
    ]

-- a list without repeats has what it had, and what was added
pub in_items : (xs ys : Words) (w : List ℕ) → Contains (with_items xs ys) w → Contains xs w ⊎ Contains ys w
in_items xs ys w c =
    elim (held_by_items xs ys w (there_held (with_items xs ys) w c)) [
      | inl old ↦ inl (held_there xs w old)
      | inr new ↦ inr (held_there ys w new)
    ]

pub items_keep : (xs ys : Words) (w : List ℕ) → Contains xs w → Contains (with_items xs ys) w
items_keep xs ys w c = held_there (with_items xs ys) w (still_held_all xs ys w (there_held xs w c))

pub items_have : (xs ys : Words) (w : List ℕ) → Contains ys w → Contains (with_items xs ys) w
items_have xs ys w c = held_there (with_items xs ys) w (held_more xs ys w (there_held ys w c))

-- ---- each word once

push_distinct : (xs : Words) (y : List ℕ) → are_distinct xs ≡ true → holds xs y ≡ false → are_distinct (xs ++ y ∷ []) ≡ true
push_distinct [] y h new = refl
push_distinct (x ∷ xs) y h new =
    let parts : (not (holds xs x) ≡ true) × (are_distinct xs ≡ true) = and_parts (not (holds xs x)) (are_distinct xs) h in
    let apart : (bytes_eq x y ≡ false) × (holds xs y ≡ false) = or_parts (bytes_eq x y) (holds xs y) new in
    and_from (not (holds (xs ++ y ∷ []) x)) (are_distinct (xs ++ y ∷ []))
    (not_from_false (holds (xs ++ y ∷ []) x) (holds_push xs y x ∙ or_from (holds xs x) (bytes_eq y x) (not-true (holds xs x) parts.0) (nat_list_eq_equiv.symm y x ∙ apart.0)))
    (push_distinct xs y parts.1 apart.1)

item_distinct : (xs : Words) (y : List ℕ) → are_distinct xs ≡ true → are_distinct (with_item xs y) ≡ true
item_distinct xs y h =
    elim (holds xs y) as (λ b. holds xs y ≡ b → are_distinct (cond b xs (xs ++ y ∷ [])) ≡ true) [
      | true ↦ λ k. h
      | false ↦ λ k. push_distinct xs y h k
    ] refl

pub items_distinct : (xs ys : Words) → are_distinct xs ≡ true → are_distinct (with_items xs ys) ≡ true
items_distinct xs [] h = h
items_distinct xs (y ∷ ys) h = items_distinct (with_item xs y) ys (item_distinct xs y h)

-- ---- one item more

module _ {X : Type 0} where
  pub head_of : {x y : X} {xs ys : List X} → x ∷ xs ≡ y ∷ ys → x ≡ y
  head_of e = cc

  pub tail_of : {x y : X} {xs ys : List X} → x ∷ xs ≡ y ∷ ys → xs ≡ ys
  tail_of e = cc

  pub no_cons : {x : X} {xs : List X} → x ∷ xs ≡ [] → ⊥
  no_cons e = cc

  -- an empty list has nothing anywhere
  pub nothing_at : (before : List X) (x : X) (after : List X) → [] ≡ before ++ x ∷ after → ⊥
  nothing_at [] x after e = cc
  nothing_at (y ∷ before) x after e = cc

  -- where a list that grew by one item is cut at an item: it is the last, or the cut is further in front
  pub cut : (xs : List X) (p : X) (before : List X) (x : X) (after : List X) → xs ++ p ∷ [] ≡ before ++ x ∷ after
      → ((before ≡ xs) × (x ≡ p) × (after ≡ [])) ⊎ ((inner : List X) × (xs ≡ before ++ x ∷ inner) × (after ≡ inner ++ p ∷ []))
  cut [] p [] x after e = inl (refl, sym (head_of e), sym (tail_of e))
  cut [] p (b ∷ []) x after e = absurd (no_cons (sym (tail_of e)))
  cut [] p (b ∷ c ∷ before) x after e = absurd (no_cons (sym (tail_of e)))
  cut (y ∷ xs) p [] x after e = inr (xs, ap (λ (z : X). z ∷ xs) (head_of e), sym (tail_of e))
  cut (y ∷ xs) p (b ∷ before) x after e =
      elim (cut xs p before x after (tail_of e)) [
        | inl (same, last, none) ↦ inl (ap (λ (l : List X). b ∷ l) same ∙ ap (λ (z : X). z ∷ xs) (sym (head_of e)), last, none)
        | inr (inner, is, rest) ↦ inr (inner, ap (λ (z : X). z ∷ xs) (head_of e) ∙ ap (λ (l : List X). b ∷ l) is, rest)
      ]

  -- a cut stays where the list grows
  pub cut_stays : (xs before : List X) (x : X) (inner : List X) (p : X) → xs ≡ before ++ x ∷ inner → xs ++ p ∷ [] ≡ before ++ x ∷ (inner ++ p ∷ [])
  cut_stays xs before x inner p e = ap (λ (l : List X). l ++ p ∷ []) e ∙ append_assoc before (x ∷ inner) (p ∷ [])

  pub all_push : (test : X → Bool) (xs : List X) (x : X) → list_all test xs ≡ true → test x ≡ true → list_all test (xs ++ x ∷ []) ≡ true
  all_push test [] x h e = and_from (test x) true e refl
  all_push test (y ∷ xs) x h e = let parts = and_parts (test y) (list_all test xs) h in and_from (test y) (list_all test (xs ++ x ∷ [])) parts.0 (all_push test xs x parts.1 e)

  pub all_pushed : (test : X → Bool) (xs : List X) (x : X) → list_all test (xs ++ x ∷ []) ≡ true → (list_all test xs ≡ true) × (test x ≡ true)
  all_pushed test [] x h = (refl, (and_parts (test x) true h).0)
  all_pushed test (y ∷ xs) x h =
      let parts = and_parts (test y) (list_all test (xs ++ x ∷ [])) h in
      let rest = all_pushed test xs x parts.1 in
      (and_from (test y) (list_all test xs) parts.0 rest.0, rest.1)

  pub take_front : (xs ys : List X) → take (length xs) (xs ++ ys) ≡ xs
  take_front [] ys = refl
  take_front (x ∷ xs) ys = ap (λ (l : List X). x ∷ l) (take_front xs ys)

  pub take_whole : (xs : List X) → take (length xs) xs ≡ xs
  take_whole [] = refl
  take_whole (x ∷ xs) = ap (λ (l : List X). x ∷ l) (take_whole xs)

  -- ---- what is at a place

  pub last_there : (xs : List X) (x : X) → slice_get (xs ++ x ∷ []) (length xs) ≡ Some x
  last_there [] x = refl
  last_there (y ∷ xs) x = last_there xs x

  pub still_there : (xs ys : List X) (i : ℕ) (x : X) → slice_get xs i ≡ Some x → slice_get (xs ++ ys) i ≡ Some x
  still_there [] ys i x e = absurd (let bad : None ≡ Some x = e in cc)
  still_there (y ∷ xs) ys zero x e = e
  still_there (y ∷ xs) ys (suc i) x e = still_there xs ys i x e

  pub one_more_of : (test : X → Bool) (xs : List X) (x : X) → test x ≡ true → length (filter test (xs ++ x ∷ [])) ≡ length (filter test xs) + 1
  one_more_of test xs x on =
      ap length (filter-append test xs (x ∷ []) ∙ ap (λ (b : Bool). filter test xs ++ cond b (x ∷ []) []) on)
      ∙ (let long = length-append (filter test xs) (x ∷ []) in omega (arith, long))

  pub none_more_of : (test : X → Bool) (xs : List X) (x : X) → test x ≡ false → length (filter test (xs ++ x ∷ [])) ≡ length (filter test xs)
  none_more_of test xs x off = ap length (filter-append test xs (x ∷ []) ∙ ap (λ (b : Bool). filter test xs ++ cond b (x ∷ []) []) off ∙ append-nil (filter test xs))
