-- Readers, and the values that they find one after another.
use Rattle.std.proofs.Common.{◌≡◌, ◌≢◌, ℕ, zero, suc, ◌<◌, ◌≤◌, List, [], ◌∷◌, ◌++◌, length, take, drop, get_or, Option, Some, None, refl, sym, ◌∙◌, ap, arith, take-append-drop}
use Rattle.std.specs.Option.{option_map_or}
use Rattle.std.specs.Str.{bytes_eq}
use Rattle.std.proofs.lemmas.Option.{cond_some}
use Rattle.std.proofs.lemmas.Slice.Eq.{bytes_eq-Decides}
use Rattle.git_object.specs.Reader.{◌>>=◌, literal, items_within, behind_within, items, behind}

-- the value of a reader that found one, and what the next made of it
pub bind_some : {A B : Type 0} (o : Option A) (f : A → Option B) (y : B) → (o >>= f) ≡ Some y → (x : A) × (o ≡ Some x) × (f x ≡ Some y)
bind_some (Some x) f y e = (x, refl, e)
bind_some None f y e = absurd cc

abbrev found : {A : Type 0} → A → Option A
found x = Some x

pub some_is : {A : Type 0} (x y : A) → found x ≡ found y → x ≡ y
some_is x y e = cc

-- ---- a word

pub literal_takes : (word bytes rest : List ℕ) → literal word bytes ≡ Some rest → bytes ≡ word ++ rest
unfolding literal
literal_takes word bytes rest e =
    let g = cond_some (bytes_eq (take (length word) bytes) word) (drop (length word) bytes) rest e in
    sym (take-append-drop (length word) bytes)
    ∙ ap (λ (t : List ℕ). t ++ drop (length word) bytes) ((bytes_eq-Decides (take (length word) bytes) word).0 g.0)
    ∙ ap (λ (t : List ℕ). word ++ t) g.1

-- ---- bytes before an end

-- a part before such a byte, and what is behind it
pub record Parts (end : ℕ) (bytes piece rest : List ℕ) : Type 0 where
  pub whole : bytes ≡ piece ++ (end ∷ rest)
  pub before : (k : ℕ) → k < length piece → get_or piece k 0 ≢ end

-- ---- values one after another

module _ {A : Type 0} where
  -- a reader takes a byte at least
  pub record Shrinks (read : List ℕ → Option (A × List ℕ)) : Type 0 where
    pub less : (bytes rest : List ℕ) (x : A) → read bytes ≡ Some (x, rest) → length rest < length bytes

  module _ (read : List ℕ → Option (A × List ℕ)) (shrinks : Shrinks read) where
    -- more rounds than bytes find nothing more
    enough : (n m : ℕ) (bytes : List ℕ) → length bytes ≤ n → length bytes ≤ m → items_within read n bytes ≡ items_within read m bytes
    unfolding items_within
    enough zero zero bytes a b = refl
    enough zero (suc m) bytes a b =
        elim (read bytes) as (λ o. read bytes ≡ o → [] ≡ option_map_or (λ x. x.0 ∷ items_within read m x.1) o []) [
          | None ↦ λ e. refl
          | Some x ↦ λ e. let l = shrinks.less bytes x.1 x.0 e in absurd (omega arith)
        ] refl
    enough (suc n) zero bytes a b =
        elim (read bytes) as (λ o. read bytes ≡ o → option_map_or (λ x. x.0 ∷ items_within read n x.1) o [] ≡ []) [
          | None ↦ λ e. refl
          | Some x ↦ λ e. let l = shrinks.less bytes x.1 x.0 e in absurd (omega arith)
        ] refl
    enough (suc n) (suc m) bytes a b =
        elim (read bytes) as (λ o. read bytes ≡ o → option_map_or (λ x. x.0 ∷ items_within read n x.1) o [] ≡ option_map_or (λ x. x.0 ∷ items_within read m x.1) o []) [
          | None ↦ λ e. refl
          | Some x ↦ λ e. let l = shrinks.less bytes x.1 x.0 e in ap (λ (t : List A). x.0 ∷ t) (enough n m x.1 (omega arith) (omega arith))
        ] refl

    enough_behind : (n m : ℕ) (bytes : List ℕ) → length bytes ≤ n → length bytes ≤ m → behind_within read n bytes ≡ behind_within read m bytes
    unfolding behind_within
    enough_behind zero zero bytes a b = refl
    enough_behind zero (suc m) bytes a b =
        elim (read bytes) as (λ o. read bytes ≡ o → bytes ≡ option_map_or (λ x. behind_within read m x.1) o bytes) [
          | None ↦ λ e. refl
          | Some x ↦ λ e. let l = shrinks.less bytes x.1 x.0 e in absurd (omega arith)
        ] refl
    enough_behind (suc n) zero bytes a b =
        elim (read bytes) as (λ o. read bytes ≡ o → option_map_or (λ x. behind_within read n x.1) o bytes ≡ bytes) [
          | None ↦ λ e. refl
          | Some x ↦ λ e. let l = shrinks.less bytes x.1 x.0 e in absurd (omega arith)
        ] refl
    enough_behind (suc n) (suc m) bytes a b =
        elim (read bytes) as (λ o. read bytes ≡ o → option_map_or (λ x. behind_within read n x.1) o bytes ≡ option_map_or (λ x. behind_within read m x.1) o bytes) [
          | None ↦ λ e. refl
          | Some x ↦ λ e. let l = shrinks.less bytes x.1 x.0 e in enough_behind n m x.1 (omega arith) (omega arith)
        ] refl

    items_step : (n : ℕ) (bytes rest : List ℕ) (x : A) → length bytes ≤ n → read bytes ≡ Some (x, rest) → items_within read n bytes ≡ x ∷ items read rest
    unfolding items_within
    items_step zero bytes rest x len e = let l = shrinks.less bytes rest x e in absurd (omega arith)
    items_step (suc n) bytes rest x len e =
        let l = shrinks.less bytes rest x e in
        ap (λ o. option_map_or (λ y. y.0 ∷ items_within read n y.1) o []) e
        ∙ ap (λ (t : List A). x ∷ t) (enough n (length rest) rest (omega arith) (omega arith))

    behind_step : (n : ℕ) (bytes rest : List ℕ) (x : A) → length bytes ≤ n → read bytes ≡ Some (x, rest) → behind_within read n bytes ≡ behind read rest
    unfolding behind_within
    behind_step zero bytes rest x len e = let l = shrinks.less bytes rest x e in absurd (omega arith)
    behind_step (suc n) bytes rest x len e =
        let l = shrinks.less bytes rest x e in
        ap (λ o. option_map_or (λ y. behind_within read n y.1) o bytes) e
        ∙ enough_behind n (length rest) rest (omega arith) (omega arith)

    stops_within : (n : ℕ) (bytes : List ℕ) → length bytes ≤ n → read (behind_within read n bytes) ≡ None
    unfolding behind_within
    stops_within zero bytes len =
        elim (read bytes) as (λ o. read bytes ≡ o → o ≡ None) [
          | None ↦ λ e. refl
          | Some x ↦ λ e. let l = shrinks.less bytes x.1 x.0 e in absurd (omega arith)
        ] refl
    stops_within (suc n) bytes len =
        elim (read bytes) as (λ o. read bytes ≡ o → read (option_map_or (λ x. behind_within read n x.1) o bytes) ≡ None) [
          | None ↦ λ e. e
          | Some x ↦ λ e. let l = shrinks.less bytes x.1 x.0 e in stops_within n x.1 (omega arith)
        ] refl

    -- behind all values stands none
    pub behind_stops : (bytes : List ℕ) → read (behind read bytes) ≡ None
    behind_stops bytes = stops_within (length bytes) bytes (omega arith)

    -- one value found, and then the others
    pub items-some : (bytes rest : List ℕ) (x : A) → read bytes ≡ Some (x, rest) → items read bytes ≡ x ∷ items read rest
    items-some bytes rest x e = items_step (length bytes) bytes rest x (omega arith) e

    pub behind-some : (bytes rest : List ℕ) (x : A) → read bytes ≡ Some (x, rest) → behind read bytes ≡ behind read rest
    behind-some bytes rest x e = behind_step (length bytes) bytes rest x (omega arith) e

  module _ (read : List ℕ → Option (A × List ℕ)) where
    none_within : (n : ℕ) (bytes : List ℕ) → read bytes ≡ None → items_within read n bytes ≡ []
    unfolding items_within
    none_within zero bytes e = refl
    none_within (suc n) bytes e = ap (λ o. option_map_or (λ y. y.0 ∷ items_within read n y.1) o []) e

    none_behind : (n : ℕ) (bytes : List ℕ) → read bytes ≡ None → behind_within read n bytes ≡ bytes
    unfolding behind_within
    none_behind zero bytes e = refl
    none_behind (suc n) bytes e = ap (λ o. option_map_or (λ y. behind_within read n y.1) o bytes) e

    -- no value at the front
    pub items-none : (bytes : List ℕ) → read bytes ≡ None → items read bytes ≡ []
    items-none bytes e = none_within (length bytes) bytes e

    pub behind-none : (bytes : List ℕ) → read bytes ≡ None → behind read bytes ≡ bytes
    behind-none bytes e = none_behind (length bytes) bytes e

    few_within : (n : ℕ) (bytes : List ℕ) → length (items_within read n bytes) ≤ n
    unfolding items_within
    few_within zero bytes = omega arith
    few_within (suc n) bytes =
        elim (read bytes) as (λ o. length (option_map_or (λ y. y.0 ∷ items_within read n y.1) o []) ≤ suc n) [
          | None ↦ omega arith
          | Some x ↦ let h = few_within n x.1 in omega arith
        ]

    -- no more values than bytes
    pub length-items : (bytes : List ℕ) → length (items read bytes) ≤ length bytes
    length-items bytes = few_within (length bytes) bytes

    pub items-nil : items read [] ≡ []
    unfolding items_within
    items-nil = refl
