-- What a pattern's last byte fits, which is no `*`.
use Rattle.std.proofs.Common.{◌≡◌, ℕ, suc, zero, List, [], ◌∷◌, ◌++◌, Bool, true, false, cond, refl, ap, ◌∙◌, sym, length, take, arith}
use Rattle.std.specs.Prelude.{◌==◌, ◌-◌, ◌≤◌, ◌<◌, slice_index_or, not, ◌&&◌, ◌||◌}
use Rattle.std.proofs.lemmas.Bool.{eqb-true, eq-eqb}
use Rattle.conf_groups.specs.Files.{fits, some_end, one_byte, is_nothing}

abbrev by_byte : Bool → ℕ → (List ℕ → Bool) → List ℕ → Bool
by_byte star c test name = cond star (some_end test name) (one_byte c test name)

and_none : (b : Bool) → (b && false) ≡ false
and_none true = refl
and_none false = refl

or_none : (b : Bool) → (b || false) ≡ b
or_none true = refl
or_none false = refl

-- a pattern with such an end fits no empty name
fits_none : (p : List ℕ) (c : ℕ) → (c == 42) ≡ false → fits (p ++ c ∷ []) [] ≡ false
fits_none [] c h = ap (λ (b : Bool). by_byte b c (fits []) []) h
fits_none (d ∷ p) c h =
    elim (d == 42) as (λ b. by_byte b d (fits (p ++ c ∷ [])) [] ≡ false) [
      | true ↦ fits_none p c h
      | false ↦ refl
    ]

-- the law of one step of a `*`
star_law : (e a k b : Bool) → ((e && a) || (k && (e && b))) ≡ (e && (a || (k && b)))
star_law true a k b = refl
star_law false a true b = refl
star_law false a false b = refl

star_back : (f g : List ℕ → Bool) (e : Bool) (b : ℕ) → f [] ≡ false → ((n : List ℕ) → f (n ++ b ∷ []) ≡ (e && g n)) → (n : List ℕ) → some_end f (n ++ b ∷ []) ≡ (e && some_end g n)
star_back f g e b none h [] =
    ap (λ (x : Bool). f (b ∷ []) || (not (b == 47) && x)) none
    ∙ ap (λ (x : Bool). f (b ∷ []) || x) (and_none (not (b == 47)))
    ∙ or_none (f (b ∷ []))
    ∙ h []
star_back f g e b none h (x ∷ n) =
    ap (λ (y : Bool). y || (not (x == 47) && some_end f (n ++ b ∷ []))) (h (x ∷ n))
    ∙ ap (λ (y : Bool). (e && g (x ∷ n)) || (not (x == 47) && y)) (star_back f g e b none h n)
    ∙ star_law e (g (x ∷ n)) (not (x == 47)) (some_end g n)

byte_law : (d e a : Bool) → (d && (e && a)) ≡ (e && (d && a))
byte_law true true a = refl
byte_law true false a = refl
byte_law false true a = refl
byte_law false false a = refl

byte_back : (f g : List ℕ → Bool) (e : Bool) (b d : ℕ) → f [] ≡ false → ((n : List ℕ) → f (n ++ b ∷ []) ≡ (e && g n)) → (n : List ℕ) → one_byte d f (n ++ b ∷ []) ≡ (e && one_byte d g n)
byte_back f g e b d none h [] = ap (λ (x : Bool). (d == b) && x) none ∙ and_none (d == b) ∙ sym (and_none e)
byte_back f g e b d none h (x ∷ n) = ap (λ (y : Bool). (d == x) && y) (h n) ∙ byte_law (d == x) e (g n)

one_back : (c b : ℕ) (n : List ℕ) → one_byte c (fits []) (n ++ b ∷ []) ≡ ((c == b) && fits [] n)
one_back c b [] = refl
one_back c b (x ∷ n) = long (c == x) n ∙ sym (and_none (c == b)) where
  long : (d : Bool) (n : List ℕ) → (d && is_nothing (n ++ b ∷ [])) ≡ false
  long d [] = and_none d
  long d (y ∷ n) = and_none d

-- The last byte of a pattern, where it is no `*`, is the last byte of the name.
pub last_byte : (p : List ℕ) (c b : ℕ) (n : List ℕ) → (c == 42) ≡ false → fits (p ++ c ∷ []) (n ++ b ∷ []) ≡ ((c == b) && fits p n)
last_byte [] c b n h = ap (λ (t : Bool). by_byte t c (fits []) (n ++ b ∷ [])) h ∙ one_back c b n
last_byte (d ∷ p) c b n h =
    elim (d == 42) as (λ t. by_byte t d (fits (p ++ c ∷ [])) (n ++ b ∷ []) ≡ ((c == b) && by_byte t d (fits p) n)) [
      | true ↦ star_back (fits (p ++ c ∷ [])) (fits p) (c == b) b (fits_none p c h) (λ m. last_byte p c b m h) n
      | false ↦ byte_back (fits (p ++ c ∷ [])) (fits p) (c == b) b d (fits_none p c h) (λ m. last_byte p c b m h) n
    ]

-- a list with items is those before its last item, and that item
split_at_last : (p : List ℕ) (d n : ℕ) → length p ≡ suc n → p ≡ take n p ++ slice_index_or p n d ∷ []
split_at_last [] d n h = cc
split_at_last (x ∷ []) d zero h = refl
split_at_last (x ∷ []) d (suc n) h = cc
split_at_last (x ∷ y ∷ p) d zero h = cc
split_at_last (x ∷ y ∷ p) d (suc n) h = ap (λ (q : List ℕ). x ∷ q) (split_at_last (y ∷ p) d n (let e : suc (length p) ≡ suc n = omega (arith, h) in e))

split_last : (p : List ℕ) (d : ℕ) → 1 ≤ length p → p ≡ take (length p - 1) p ++ slice_index_or p (length p - 1) d ∷ []
split_last p d h = split_at_last p d (length p - 1) (omega (arith, h))

no_star : (c : ℕ) → (c ≡ 42 → ⊥) → (c == 42) ≡ false
no_star c h = elim (c == 42) as (λ b. (c == 42) ≡ b → b ≡ false) [ true ↦ λ e. absurd (h (eqb-true c 42 e)) | false ↦ λ e. refl ] refl

abbrev last : List ℕ → ℕ
last p = slice_index_or p (length p - 1) 0

abbrev but_last : List ℕ → List ℕ
but_last p = take (length p - 1) p

fits_back : (p n : List ℕ) → 1 ≤ length p → 1 ≤ length n → (last p ≡ 42 → ⊥) → fits p n ≡ ((last p == last n) && fits (but_last p) (but_last n))
fits_back p n hp hn h =
    ap (λ (q : List ℕ). fits q n) (split_last p 0 hp)
    ∙ ap (λ (m : List ℕ). fits (but_last p ++ last p ∷ []) m) (split_last n 0 hn)
    ∙ last_byte (but_last p) (last p) (last n) (but_last n) (no_star (last p) h)

pub back_same : (p n : List ℕ) → 1 ≤ length p → 1 ≤ length n → (last p ≡ 42 → ⊥) → last p ≡ last n → fits p n ≡ fits (but_last p) (but_last n)
back_same p n hp hn h same = fits_back p n hp hn h ∙ ap (λ (b : Bool). b && fits (but_last p) (but_last n)) (eq-eqb (last p) (last n) same)

pub back_other : (p n : List ℕ) → 1 ≤ length p → 1 ≤ length n → (last p ≡ 42 → ⊥) → (last p ≡ last n → ⊥) → fits p n ≡ false
back_other p n hp hn h other =
    fits_back p n hp hn h
    ∙ elim (last p == last n) as (λ b. (last p == last n) ≡ b → (b && fits (but_last p) (but_last n)) ≡ false) [
      | true ↦ λ e. absurd (other (eqb-true (last p) (last n) e))
      | false ↦ λ e. refl
    ] refl

pub back_none : (p n : List ℕ) → 1 ≤ length p → length n < 1 → (last p ≡ 42 → ⊥) → fits p n ≡ false
back_none p [] hp hn h = ap (λ (q : List ℕ). fits q []) (split_last p 0 hp) ∙ fits_none (but_last p) (last p) (no_star (last p) h)
back_none p (x ∷ n) hp hn h = let none : ⊥ = omega (arith, hn) in absurd none
