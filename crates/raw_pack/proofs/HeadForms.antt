-- Heads, byte by byte: these are the spelled ones.
use Rattle.std.proofs.Common.{◌≡◌, ℕ, ◌+◌, ◌*◌, ◌/◌, ◌%◌, ◌<◌, ◌≤◌, List, [], ◌∷◌, refl, inl, inr, arith}
use Rattle.std.proofs.lemmas.Bool.{cases_lt, lt-ltb, le-ltb}
use Rattle.git_object.specs.declared.kind.Kind.{Kind}
use Rattle.raw_pack.specs.Grammar.{kind_bits, spelled_head}

-- These bytes spell this number, seven bits a byte, the lowest first; all but the last have bit 7, and the
-- last isn't 0.
abbrev pub SpellsSize : List ℕ → ℕ → Type 0
SpellsSize [] n = ⊥
SpellsSize (last ∷ []) n = (last ≡ n) × (0 < n) × (n < 128)
SpellsSize (b ∷ c ∷ more) n = (b ≡ 128 + n % 128) × SpellsSize (c ∷ more) (n / 128)

-- these bytes are the head of a kind and a size
abbrev pub IsHead : List ℕ → Kind → ℕ → Type 0
IsHead [] kind size = ⊥
IsHead (first ∷ []) kind size = (first ≡ 16 * kind_bits kind + size) × (size < 16)
IsHead (first ∷ b ∷ more) kind size = (first ≡ 128 + 16 * kind_bits kind + size % 16) × SpellsSize (b ∷ more) (size / 16)

pub size_positive : (xs : List ℕ) (n : ℕ) → SpellsSize xs n → 0 < n
size_positive [] n s = absurd s
size_positive (last ∷ []) n s = s.1
size_positive (b ∷ c ∷ more) n s = let rest : 0 < n / 128 = size_positive (c ∷ more) (n / 128) s.1 in omega arith

pub head_is_spelled : (xs : List ℕ) (kind : Kind) (size : ℕ) → size ≤ 16777216 → IsHead xs kind size → xs ≡ spelled_head kind size
unfolding spelled_head
head_is_spelled [] kind size high is = absurd is
head_is_spelled (first ∷ []) kind size high is =
    let one : first ≡ 16 * kind_bits kind + size % 16 = omega (arith, is.0, is.1) in
    rw (lt-ltb size 16 is.1) (cc)
head_is_spelled (first ∷ b ∷ []) kind size high is =
    let one : first ≡ 128 + (16 * kind_bits kind + size % 16) = omega (arith, is.0) in
    let two : b ≡ size / 16 = is.1.0 in
    rw (le-ltb size 16 (omega (arith, is.1.1)), lt-ltb size 2048 (omega (arith, is.1.2))) (cc)
head_is_spelled (first ∷ b ∷ c ∷ []) kind size high is =
    let one : first ≡ 128 + (16 * kind_bits kind + size % 16) = omega (arith, is.0) in
    let two : b ≡ 128 + size / 16 % 128 = is.1.0 in
    let three : c ≡ size / 2048 = omega (arith, is.1.1.0) in
    let low : 2048 ≤ size = omega (arith, is.1.1.1) in
    rw (le-ltb size 16 (omega (arith, low)), le-ltb size 2048 low, lt-ltb size 262144 (omega (arith, is.1.1.2))) (cc)
head_is_spelled (first ∷ b ∷ c ∷ d ∷ []) kind size high is =
    let one : first ≡ 128 + (16 * kind_bits kind + size % 16) = omega (arith, is.0) in
    let two : b ≡ 128 + size / 16 % 128 = is.1.0 in
    let three : c ≡ 128 + size / 2048 % 128 = omega (arith, is.1.1.0) in
    let four : d ≡ size / 262144 = omega (arith, is.1.1.1.0) in
    let low : 262144 ≤ size = omega (arith, is.1.1.1.1) in
    rw (le-ltb size 16 (omega (arith, low)), le-ltb size 2048 (omega (arith, low)), le-ltb size 262144 low) (cc)
head_is_spelled (first ∷ b ∷ c ∷ d ∷ e ∷ more) kind size high is =
    let some : 0 < size / 16 / 128 / 128 / 128 = size_positive (e ∷ more) (size / 16 / 128 / 128 / 128) is.1.1.1.1 in
    absurd (omega (arith, some, high))

pub spelled_is_head : (kind : Kind) (size : ℕ) → size ≤ 16777216 → IsHead (spelled_head kind size) kind size
unfolding spelled_head
spelled_is_head kind size high =
    elim (cases_lt size 16) [
      | inl low ↦ rw (lt-ltb size 16 low) (omega arith, low)
      | inr one ↦
          elim (cases_lt size 2048) [
            | inl low ↦ rw (le-ltb size 16 one, lt-ltb size 2048 low) (omega arith, (refl, omega arith, omega arith))
            | inr two ↦
                elim (cases_lt size 262144) [
                  | inl low ↦ rw (le-ltb size 16 one, le-ltb size 2048 two, lt-ltb size 262144 low) (omega arith, (refl, (omega arith, omega arith, omega arith)))
                  | inr three ↦ rw (le-ltb size 16 one, le-ltb size 2048 two, le-ltb size 262144 three) (omega arith, (refl, (omega arith, (omega arith, omega arith, omega arith))))
                ]
          ]
    ]
