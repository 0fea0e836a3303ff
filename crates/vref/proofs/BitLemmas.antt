-- Bits of words.
use Rattle.std.proofs.Common.{◌≡◌, ℕ, ◌*◌, ◌%◌, ◌^◌, ◌<◌, ◌≢◌, ◌⊎◌, inl, inr, sym, ◌∙◌, arith}
use Rattle.std.specs.Prelude.{bit_and, bit_or}
use Rattle.std.specs.Int.{bit_at, bit_not, w64}
use Rattle.std.proofs.lemmas.Bool.{cases_eq, cases_lt}
use Rattle.std.proofs.lemmas.Nat.Bits.{bit_at_or, bit_at_and, bit_at_not, bit_at_above, bit_at-lt, bit_at-zero, bit_at_set_other}
use Rattle.vref.specs.Marks.{Has}

pub has_none : (k : ℕ) → ¬ Has 0 k
has_none k h = let e = bit_at-zero k in omega arith

pub has_left : (a b k : ℕ) → Has a k → Has (bit_or a b) k
has_left a b k h = let e = bit_at_or a b k in omega arith

pub has_right : (a b k : ℕ) → Has b k → Has (bit_or a b) k
has_right a b k h = let e = bit_at_or a b k in omega arith

pub has_either : (a b k : ℕ) → Has (bit_or a b) k → Has a k ⊎ Has b k
has_either a b k h = elim (cases_eq (bit_at a k) 1) [
  | inl e ↦ inl e
  | inr ne ↦ inr (let e = bit_at_or a b k in omega arith)
]

-- a bit that is set stands among the word's bits
pub has_small : (word k : ℕ) → word < 2 ^ 64 → Has word k → k < 64
has_small word k small h = elim (cases_lt k 64) [
  | inl below ↦ below
  | inr above ↦ absurd (let e = bit_at_above word 64 k small above in omega arith)
]

pub has_without : (a b k : ℕ) → a < 2 ^ 64 → b < 2 ^ 64 → (Has (bit_and a (bit_not w64 b)) k → Has a k × ¬ Has b k) × (Has a k × ¬ Has b k → Has (bit_and a (bit_not w64 b)) k)
has_without a b k fits_a fits_b = (
  λ h. let e = bit_at_and a (bit_not w64 b) k in
      let in_a : Has a k = omega arith in
      let n = bit_at_not w64 b k fits_b (has_small a k fits_a in_a) in
      (in_a, λ in_b. omega arith),
  λ both. let e = bit_at_and a (bit_not w64 b) k in
      let n = bit_at_not w64 b k fits_b (has_small a k fits_a both.0) in
      let l = bit_at-lt b k in
      let a_one : bit_at a k ≡ 1 = both.0 in
      let none : bit_at b k ≢ 1 = both.1 in
      omega arith,
)

pub has_with : (word bit k : ℕ) → bit < 64 → Has (bit_or word (1 * 2 ^ bit % 2 ^ 64)) k → (k ≡ bit) ⊎ Has word k
has_with word bit k within h = elim (cases_eq k bit) [
  | inl same ↦ inl same
  | inr other ↦ inr (sym (bit_at_set_other w64 word bit within k other) ∙ h)
]
