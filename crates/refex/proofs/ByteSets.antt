-- Sets of bytes, bit by bit.
use Rattle.std.proofs.Common.{◌≡◌, ℕ, ◌-◌, ◌<◌, ◌≤◌, ◌^◌, ◌⊎◌, inl, inr, Bool, true, false, not, ◌&&◌, ◌||◌, cond, nat_lt, ◌==◌, refl, arith}
use Rattle.std.proofs.Math.Path.{fun_ext}
use Rattle.std.specs.Prelude.{bit_or}
use Rattle.std.specs.Int.{bit_at, w128}
use Rattle.std.proofs.lemmas.Bool.{cases_eq, cases_lt}
use Rattle.std.proofs.lemmas.Bool.Decides.{nat_tests}
use Rattle.std.proofs.lemmas.Nat.Bits.{bit_at_or, bit_at_not, bit_at-lt}
use Rattle.refex.specs.ByteSet.{holds}
use Rattle.refex.specs.Text.{either_of, every_other}
use Rattle.refex.specs.Machine.{Has}
use Rattle.refex.specs.declared.bytes.ByteSet.{ByteSet}

test_or : (a b k : ℕ) → (bit_at (bit_or a b) k == 1) ≡ ((bit_at a k == 1) || (bit_at b k == 1))
test_or a b k = let e = bit_at_or a b k in let x = bit_at-lt a k in let y = bit_at-lt b k in grind (arith, nat_tests)

test_not : (n k : ℕ) → n < 2 ^ 128 → k < 128 → (bit_at (340282366920938463463374607431768211455 - n) k == 1) ≡ not (bit_at n k == 1)
test_not n k small within =
    let e : bit_at (340282366920938463463374607431768211455 - n) k ≡ 1 - bit_at n k = bit_at_not w128 n k small within in
    let x = bit_at-lt n k in grind (arith, nat_tests)

test_with : (old new p : ℕ) → Has new p → ((k : ℕ) → Has old k → Has new k) → ((k : ℕ) → Has new k → (k ≡ p → ⊥) → Has old k) → (k : ℕ)
    → (bit_at new k == 1) ≡ ((k == p) || (bit_at old k == 1))
test_with old new p here keeps only k = elim (cases_eq k p) [
  | inl e ↦ let h : bit_at new k ≡ 1 = rw e here in grind (arith, nat_tests)
  | inr ne ↦ elim (cases_eq (bit_at old k) 1) [
    | inl h ↦ let g = keeps k h in grind (arith, nat_tests)
    | inr none ↦ let g : (bit_at new k ≡ 1 → ⊥) = λ h. none (only k h ne) in grind (arith, nat_tests)
  ]
]

parts_or : (x y p q r s : Bool) → (x && cond y (p || q) (r || s)) ≡ ((x && cond y p r) || (x && cond y q s))
parts_or true true p q r s = refl
parts_or true false p q r s = refl
parts_or false y p q r s = refl

parts_not : (x y p r : Bool) → (x && cond y (not p) (not r)) ≡ (x && not (x && cond y p r))
parts_not true true p r = refl
parts_not true false p r = refl
parts_not false y p r = refl

pub holds_or : (a b : ByteSet) → holds (record { low = bit_or a.low b.low; high = bit_or a.high b.high }) ≡ either_of (holds a) (holds b)
holds_or a b = fun_ext (λ c. rw (test_or a.low b.low c, test_or a.high b.high (c - 128))
    (parts_or (nat_lt c 256) (nat_lt c 128) (bit_at a.low c == 1) (bit_at b.low c == 1) (bit_at a.high (c - 128) == 1) (bit_at b.high (c - 128) == 1)))

pub holds_not : (a : ByteSet) → a.low < 2 ^ 128 → a.high < 2 ^ 128
    → holds (record { low = 340282366920938463463374607431768211455 - a.low; high = 340282366920938463463374607431768211455 - a.high }) ≡ every_other (holds a)
holds_not a low high = fun_ext (λ c. at c (cases_lt c 256) (cases_lt c 128))
  where
    at : (c : ℕ) → (c < 256) ⊎ (256 ≤ c) → (c < 128) ⊎ (128 ≤ c)
        → holds (record { low = 340282366920938463463374607431768211455 - a.low; high = 340282366920938463463374607431768211455 - a.high }) c ≡ every_other (holds a) c
    at c (inl x) (inl y) = let e = test_not a.low c low y in grind (arith, nat_tests)
    at c (inl x) (inr y) = let e = test_not a.high (c - 128) high (omega arith) in grind (arith, nat_tests)
    at c (inr x) y = grind (arith, nat_tests)
