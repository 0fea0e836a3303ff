-- What lists have, and lists without repeats.
use Rattle.std.proofs.Common.{◌≡◌, ℕ, true, false, cond, not, List, [], ◌∷◌, ◌++◌, map, Contains, ◌⊎◌, inl, inr, refl, sym, ◌∙◌, subst, arith}
use Rattle.std.specs.List.{flat_map}
use Rattle.std.specs.Str.{bytes_eq}
use Rattle.std.specs.Cmp.Lexicographic.{nat_list_eq_equiv, same_text}
use Rattle.std.proofs.lemmas.Bool.{and_from, and_parts, not-true, not_from_false, or_cases, or_from, or_left, or_parts, or_right}
use Rattle.std.proofs.lemmas.List.{append-nil, append_assoc}
use Rattle.std.proofs.lemmas.List.Elements.{Contains-append_cases, Contains-append_left, Contains-append_right, Contains-push, Contains-push_cases}
use Rattle.conf_groups.specs.Groups.{holds, with_item, with_items}
use Rattle.conf_groups.specs.Laws.{are_distinct}
use Rattle.conf_groups.proofs.DistinctLemmas.{holds_push}
use Rattle.conf_groups.proofs.TableLemmas.{held_more}

-- ---- what a list has

module _ {X : Type 0} where
  pub in_none : (x : X) → Contains [] x → ⊥
  in_none x c = absurd (omega (arith, c.1))

  pub here : (x : X) (xs : List X) → Contains (x ∷ xs) x
  here x xs = Contains-append_left (x ∷ []) xs x (Contains-push [] x)

  pub there : (x : X) (xs : List X) (y : X) → Contains xs y → Contains (x ∷ xs) y
  there x xs y c = Contains-append_right (x ∷ []) xs y c

  pub first_or_rest : (x : X) (xs : List X) (y : X) → Contains (x ∷ xs) y → (x ≡ y) ⊎ Contains xs y
  first_or_rest x xs y c =
      elim (Contains-append_cases (x ∷ []) xs y c) [
        | inl first ↦ elim (Contains-push_cases [] x y first) [ inl none ↦ absurd (in_none y none) | inr same ↦ inl same ]
        | inr rest ↦ inr rest
      ]

module _ {X Y : Type 0} where
  pub in_map : (f : X → Y) (xs : List X) (y : Y) → Contains (map f xs) y → (x : X) × Contains xs x × (f x ≡ y)
  in_map f [] y c = absurd (in_none y c)
  in_map f (x ∷ xs) y c =
      elim (first_or_rest (f x) (map f xs) y c) [
        | inl same ↦ (x, here x xs, same)
        | inr rest ↦ let found = in_map f xs y rest in (found.0, there x xs found.0 found.1, found.2)
      ]

  pub map_has : (f : X → Y) (xs : List X) (x : X) → Contains xs x → Contains (map f xs) (f x)
  map_has f [] x c = absurd (in_none x c)
  map_has f (z ∷ xs) x c =
      elim (first_or_rest z xs x c) [
        | inl same ↦ subst (λ (w : X). Contains (map f (z ∷ xs)) (f w)) same (here (f z) (map f xs))
        | inr rest ↦ there (f z) (map f xs) (f x) (map_has f xs x rest)
      ]

  pub in_flat_map : (f : X → List Y) (xs : List X) (y : Y) → Contains (flat_map f xs) y → (x : X) × Contains xs x × Contains (f x) y
  in_flat_map f [] y c = absurd (in_none y c)
  in_flat_map f (x ∷ xs) y c =
      elim (Contains-append_cases (f x) (flat_map f xs) y c) [
        | inl first ↦ (x, here x xs, first)
        | inr rest ↦ let found = in_flat_map f xs y rest in (found.0, there x xs found.0 found.1, found.2)
      ]

  pub flat_map_has : (f : X → List Y) (xs : List X) (x : X) (y : Y) → Contains xs x → Contains (f x) y → Contains (flat_map f xs) y
  flat_map_has f [] x y c d = absurd (in_none x c)
  flat_map_has f (z ∷ xs) x y c d =
      elim (first_or_rest z xs x c) [
        | inl same ↦ Contains-append_left (f z) (flat_map f xs) y (subst (λ (w : X). Contains (f w) y) (sym same) d)
        | inr rest ↦ Contains-append_right (f z) (flat_map f xs) y (flat_map_has f xs x y rest d)
      ]

-- ---- words of a list

abbrev Words : Type 0
Words = List (List ℕ)

pub held_there : (items : Words) (word : List ℕ) → holds items word ≡ true → Contains items word
held_there [] word h = absurd cc
held_there (x ∷ xs) word h =
    elim (or_cases (bytes_eq x word) (holds xs word) h) [
      | inl same ↦ subst (λ (w : List ℕ). Contains (x ∷ xs) w) (same_text x word (sym same)) (here x xs)
      | inr rest ↦ there x xs word (held_there xs word rest)
    ]

pub there_held : (items : Words) (word : List ℕ) → Contains items word → holds items word ≡ true
there_held [] word c = absurd (in_none word c)
there_held (x ∷ xs) word c =
    elim (first_or_rest x xs word c) [
      | inl same ↦ or_left (bytes_eq x word) (holds xs word) (subst (λ (w : List ℕ). bytes_eq x w ≡ true) same (nat_list_eq_equiv.refl x))
      | inr rest ↦ or_right (bytes_eq x word) (holds xs word) (there_held xs word rest)
    ]

-- ---- each word once

held_by_item : (xs : Words) (y w : List ℕ) → holds (with_item xs y) w ≡ true → (holds xs w ≡ true) ⊎ (bytes_eq y w ≡ true)
held_by_item xs y w h =
    elim (holds xs y) as (λ b. holds (cond b xs (xs ++ y ∷ [])) w ≡ true → (holds xs w ≡ true) ⊎ (bytes_eq y w ≡ true)) [
      | true ↦ λ k. inl k
      | false ↦ λ k. or_cases (holds xs w) (bytes_eq y w) (sym (holds_push xs y w) ∙ k)
    ] h

held_by_items : (xs ys : Words) (w : List ℕ) → holds (with_items xs ys) w ≡ true → (holds xs w ≡ true) ⊎ (holds ys w ≡ true)
held_by_items xs [] w h = inl h
held_by_items xs (y ∷ ys) w h =
    elim (held_by_items (with_item xs y) ys w h) [
      | inl front ↦ elim (held_by_item xs y w front) [ inl before ↦ inl before | inr same ↦ inr (or_left (bytes_eq y w) (holds ys w) same) ]
      | inr rest ↦ inr (or_right (bytes_eq y w) (holds ys w) rest)
    ]

pub once_has : (ys : Words) (w : List ℕ) → Contains ys w → Contains (with_items [] ys) w
once_has ys w c = held_there (with_items [] ys) w (held_more [] ys w (there_held ys w c))

pub in_once : (ys : Words) (w : List ℕ) → Contains (with_items [] ys) w → Contains ys w
in_once ys w c = elim (held_by_items [] ys w (there_held (with_items [] ys) w c)) [ inl none ↦ absurd cc | inr held ↦ held_there ys w held ]

push_distinct : (xs : Words) (y : List ℕ) → are_distinct xs ≡ true → holds xs y ≡ false → are_distinct (xs ++ y ∷ []) ≡ true
push_distinct [] y h new = refl
push_distinct (x ∷ xs) y h new =
    let parts : (not (holds xs x) ≡ true) × (are_distinct xs ≡ true) = and_parts (not (holds xs x)) (are_distinct xs) h in
    let apart : (bytes_eq x y ≡ false) × (holds xs y ≡ false) = or_parts (bytes_eq x y) (holds xs y) new in
    and_from (not (holds (xs ++ y ∷ []) x)) (are_distinct (xs ++ y ∷ []))
    (not_from_false (holds (xs ++ y ∷ []) x) (holds_push xs y x ∙ or_from (holds xs x) (bytes_eq y x) (not-true (holds xs x) parts.0) (nat_list_eq_equiv.symm y x ∙ apart.0)))
    (push_distinct xs y parts.1 apart.1)

item_distinct : (xs : Words) (y : List ℕ) → are_distinct xs ≡ true → are_distinct (with_item xs y) ≡ true
item_distinct xs y h =
    elim (holds xs y) as (λ b. holds xs y ≡ b → are_distinct (cond b xs (xs ++ y ∷ [])) ≡ true) [
      | true ↦ λ k. h
      | false ↦ λ k. push_distinct xs y h k
    ] refl

pub items_distinct : (xs ys : Words) → are_distinct xs ≡ true → are_distinct (with_items xs ys) ≡ true
items_distinct xs [] h = h
items_distinct xs (y ∷ ys) h = items_distinct (with_item xs y) ys (item_distinct xs y h)

-- ---- words that come one after another

items_append : (xs ys zs : Words) → with_items xs (ys ++ zs) ≡ with_items (with_items xs ys) zs
items_append xs [] zs = refl
items_append xs (y ∷ ys) zs = items_append (with_item xs y) ys zs

items_grow : (xs ys : Words) → (more : Words) × (with_items xs ys ≡ xs ++ more)
items_grow xs [] = ([], sym (append-nil xs))
items_grow xs (y ∷ ys) =
    let rest = items_grow (with_item xs y) ys in
    elim (holds xs y) as (λ b. with_items (with_item xs y) ys ≡ cond b xs (xs ++ y ∷ []) ++ rest.0 → (more : Words) × (with_items (with_item xs y) ys ≡ xs ++ more)) [
      | true ↦ λ is. (rest.0, is)
      | false ↦ λ is. (y ∷ rest.0, is ∙ append_assoc xs (y ∷ []) rest.0)
    ] rest.1

-- words that come later are after those that came before
pub once_begins : (xs ys : Words) → (more : Words) × (with_items [] (xs ++ ys) ≡ with_items [] xs ++ more)
once_begins xs ys = let more = items_grow (with_items [] xs) ys in (more.0, items_append [] xs ys ∙ more.1)
