-- What an atom takes.
use Rattle.std.proofs.Common.{◌≡◌, ℕ, ◌-◌, ◌<◌, inl, inr, [], ◌∷◌, true, false, IsTrue, refl, ap, arith}
use Rattle.std.specs.Int.{bit_at}
use Rattle.std.proofs.lemmas.Bool.{cases_lt}
use Rattle.std.proofs.lemmas.Bool.Decides.{nat_tests}
use Rattle.refex.specs.Pattern.{Bytes, End}
use Rattle.refex.specs.ByteSet.{holds}
use Rattle.refex.specs.Fragment.{TakesLetter, IsLetterOf}
use Rattle.refex.specs.declared.bytes.ByteSet.{ByteSet}
use Rattle.refex.proofs.SetLemmas.{Has-zero}

held : (set : ByteSet) (c : ℕ) → TakesLetter set.low set.high (IsTrue false) ⊥ c → (c < 256) × IsTrue (holds set c)
held set c (inl (low, has)) = (omega arith, grind (arith, nat_tests))
held set c (inr (inl (low, high, has))) = (high, grind (arith, nat_tests))
held set c (inr (inr (inl (is, end)))) = let f : false ≡ true = end in absurd (let g = f in cc)
held set c (inr (inr (inr (is, name)))) = absurd name

taken : (set : ByteSet) (c : ℕ) → c < 256 → IsTrue (holds set c) → TakesLetter set.low set.high (IsTrue false) ⊥ c
taken set c small h = elim (cases_lt c 128) [
  | inl low ↦ inl (low, let has : bit_at set.low c ≡ 1 = grind (arith, nat_tests) in has)
  | inr high ↦ inr (inl (high, small, let has : bit_at set.high (c - 128) ≡ 1 = grind (arith, nat_tests) in has))
]

pub bytes_letter : (set : ByteSet) → IsLetterOf set.low set.high (IsTrue false) (Bytes (holds set))
bytes_letter set = record {
  counted = refl;
  takes = λ c t. let h = held set c t in (c, h.0, h.1, refl);
  only = λ w (c, small, h, is). (c, taken set c small h, is);
}

pub end_letter : IsLetterOf 0 0 (IsTrue true) End
end_letter = record {
  counted = refl;
  takes = λ c t. elim t [
    | inl x ↦ absurd (Has-zero c x.1)
    | inr y ↦ elim y [
      | inl x ↦ absurd (Has-zero (c - 128) x.2)
      | inr z ↦ elim z [ inl x ↦ ap (λ c. c ∷ []) x.0 | inr v ↦ absurd v.1 ]
    ]
  ];
  only = λ w e. (256, inr (inr (inl (refl, refl))), e);
}
