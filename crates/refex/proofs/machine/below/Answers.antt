use Rattle.std.proofs.Common.{arith, ◌<◌, ◌≤◌, ◌^◌, ◌-◌, ◌*◌, ◌%◌, ◌≡◌, ℕ, inl, inr, subst, sym, ap}
use Rattle.std.proofs.lemmas.Bool.{cases_lt}
use Rattle.std.proofs.lemmas.Nat.{pow_below}
use Rattle.std.proofs.lemmas.Nat.Bits.{bit_at_ones, bit_at_ones_above}
use Rattle.refex.specs.Machine.{Has}
use Rattle.refex.proofs.machine.below.Goals as goal

plain : (n : ℕ) → n ≤ 127 → 1 * 2 ^ n % 2 ^ 128 - 1 ≡ 2 ^ n - 1
plain n le = let small : 2 ^ n < 2 ^ 128 = pow_below n 128 (omega arith) in omega arith

pub returns-clause-small : goal.returns-clause-small
returns-clause-small c =
    let same = plain c.args.n c.requires in
    elim (cases_lt c.args.n 127) [
      | inl lt ↦ let small : 2 ^ c.args.n < 2 ^ 127 = pow_below c.args.n 127 lt in omega arith
      | inr ge ↦ let is : c.args.n ≡ 127 = omega arith in let same127 : 2 ^ c.args.n ≡ 2 ^ 127 = ap (λ k. 2 ^ k) is in omega arith
    ]

pub returns-clause-has : goal.returns-clause-has
returns-clause-has c = λ k small. subst (λ s. Has s k) (sym (plain c.args.n c.requires)) (bit_at_ones c.args.n k small)

pub returns-clause-only : goal.returns-clause-only
returns-clause-only c = λ k h. elim (cases_lt k c.args.n) [
  | inl lt ↦ lt
  | inr ge ↦ absurd (let none = bit_at_ones_above c.args.n k ge in let has : Has (2 ^ c.args.n - 1) k = subst (λ s. Has s k) (plain c.args.n c.requires) h in omega arith)
]
