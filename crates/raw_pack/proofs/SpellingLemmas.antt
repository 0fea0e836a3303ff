-- Bytes that a format takes whole, part by part.
use Rattle.std.proofs.Common.{◌≡◌, ℕ, ◌+◌, Bool, true, false, if◌then◌else◌, List, [], ◌++◌, length, take, drop, refl, sym, ◌∙◌, ap, arith, append_assoc, length-append, take-append-drop}
use Rattle.std.proofs.Common.{inl, inr}
use Rattle.std.proofs.Math.Seq.{take-add}
use Rattle.std.proofs.lemmas.Bool.{cases_lt}
use Rattle.std.proofs.lemmas.List.{length-take-le, length-drop, take_all, nil_from_length}
use Rattle.base_types.specs.Fronts.{Front, Whole, Partial}
use Rattle.raw_pack.specs.Formats.{Format, gives, fails, wants, bytes, ◌>>=◌, front, behind}
use Rattle.raw_pack.proofs.FormatLemmas.{front-wants, front-wants_short, front-wants_long, decided_behind}

-- This value stands at the front of these bytes, and takes them all.
abbrev pub Spells : {V F : Type 0} → Format V F → List ℕ → V → Type 0
Spells f xs v = front f xs ≡ Whole (length xs) v

-- bytes of two formats, one behind the other
pub record Splits {V W F : Type 0} (f : Format V F) (g : V → Format W F) (xs : List ℕ) (w : W) : Type 0 where
  pub ys : List ℕ
  pub zs : List ℕ
  pub v : V
  pub both : xs ≡ ys ++ zs
  pub first : Spells f ys v
  pub second : Spells (g v) zs w

module _ {V F : Type 0} where
  pub gives_spelled : (v w : V) (xs : List ℕ) → Spells {F = F} (gives v) xs w → (xs ≡ []) × (v ≡ w)
  unfolding front
  gives_spelled v w xs is = let none : length xs ≡ 0 = cc in (nil_from_length xs none, cc)

  pub fails_spelled : (e : F) (w : V) (xs : List ℕ) → Spells (fails e) xs w → ⊥
  unfolding front
  fails_spelled e w xs is = cc

  -- a value where a test holds, and else a fault
  pub if_spelled : (b : Bool) (v w : V) (e : F) (xs : List ℕ) → Spells (if b then gives v else fails e) xs w → (b ≡ true) × (xs ≡ []) × (v ≡ w)
  if_spelled true v w e xs is = let both = gives_spelled v w xs is in (refl, both.0, both.1)
  if_spelled false v w e xs is = absurd (fails_spelled e w xs is)

  -- and the other way round
  pub unless_spelled : (b : Bool) (v w : V) (e : F) (xs : List ℕ) → Spells (if b then fails e else gives v) xs w → (b ≡ false) × (xs ≡ []) × (v ≡ w)
  unless_spelled true v w e xs is = absurd (fails_spelled e w xs is)
  unless_spelled false v w e xs is = let both = gives_spelled v w xs is in (refl, both.0, both.1)

  -- where a value stands within so many bytes, it stands at the front of these alone
  pub whole_alone : (f : Format V F) (xs : List ℕ) (n : ℕ) (v : V) → front f xs ≡ Whole n v → front f (take n xs) ≡ Whole n v
  unfolding front
  whole_alone (gives w) xs n v is = is
  whole_alone (fails e) xs n v is = absurd (cc)
  whole_alone (wants k e g) xs n v is =
      elim (cases_lt (length xs) k) [
        | inl short ↦ absurd (let cut : front (wants k e g) xs ≡ Partial e = front-wants_short k e g xs short in cc)
        | inr long ↦
            let here : behind k (front (g (take k xs)) (drop k xs)) ≡ Whole n v = sym (front-wants_long k e g xs long) ∙ is in
            let inner = decided_behind k n v (front (g (take k xs)) (drop k xs)) here in
            let rest : front (g (take k xs)) (take inner.0 (drop k xs)) ≡ Whole inner.0 v = whole_alone (g (take k xs)) (drop k xs) inner.0 v inner.1 in
            ap (λ (m : ℕ). front (wants k e g) (take m xs)) inner.2
            ∙ ap (front (wants k e g)) (take-add k inner.0 xs)
            ∙ front-wants k e g (take k xs) (take inner.0 (drop k xs)) (length-take-le k xs long)
            ∙ ap (behind k) rest
            ∙ ap (λ (m : ℕ). Whole m v) (sym inner.2)
      ]

pub bytes_spelled : {F : Type 0} (k : ℕ) (e : F) (xs ys : List ℕ) → Spells (bytes k e) xs ys → (length xs ≡ k) × (ys ≡ xs)
unfolding bytes front
bytes_spelled {F = F} k e xs ys is =
    elim (cases_lt (length xs) k) [
      | inl short ↦ absurd (let cut : front (wants k e (λ found. gives found)) xs ≡ Partial e = front-wants_short k e (λ found. gives found) xs short in cc)
      | inr long ↦
          let here : ◌≡◌ {A = Front (List ℕ) F} (Whole (k + 0) (take k xs)) (Whole (length xs) ys) = sym (front-wants_long k e (λ found. gives found) xs long) ∙ is in
          let len : k + 0 ≡ length xs = cc in
          let same : take k xs ≡ ys = cc in
          (omega arith, sym same ∙ take_all k xs (omega arith))
    ]

module _ {V W F : Type 0} (g : V → Format W F) where
  pub splits : (f : Format V F) (xs : List ℕ) (w : W) → Spells (f >>= g) xs w → Splits f g xs w
  unfolding front ◌>>=◌
  splits (gives v) xs w is = record { ys = []; zs = xs; v = v; both = refl; first = refl; second = is }
  splits (fails e) xs w is = absurd (cc)
  splits (wants k e h) xs w is =
      elim (cases_lt (length xs) k) [
        | inl short ↦ absurd (let cut : front (wants k e (λ found. h found >>= g)) xs ≡ Partial e = front-wants_short k e (λ found. h found >>= g) xs short in cc)
        | inr long ↦
            let here : behind k (front (h (take k xs) >>= g) (drop k xs)) ≡ Whole (length xs) w = sym (front-wants_long k e (λ found. h found >>= g) xs long) ∙ is in
            let inner = decided_behind k (length xs) w (front (h (take k xs) >>= g) (drop k xs)) here in
            let len : inner.0 ≡ length (drop k xs) = omega (arith, inner.2, length-drop k xs) in
            let rest = splits (h (take k xs)) (drop k xs) w (inner.1 ∙ ap (λ (m : ℕ). Whole m w) len) in
            record {
              ys = take k xs ++ rest.ys;
              zs = rest.zs;
              v = rest.v;
              both = sym (take-append-drop k xs) ∙ ap (λ (l : List ℕ). take k xs ++ l) rest.both ∙ sym (append_assoc (take k xs) rest.ys rest.zs);
              first =
                  front-wants k e h (take k xs) rest.ys (length-take-le k xs long)
                  ∙ ap (behind k) rest.first
                  ∙ ap (λ (m : ℕ). Whole m rest.v) (omega (arith, length-append (take k xs) rest.ys, length-take-le k xs long));
              second = rest.second;
            }
      ]
