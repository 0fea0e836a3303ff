-- A mark more.
use Rattle.std.proofs.Common.{◌≡◌, ◌≢◌, ◌∙◌, ◌-◌, ◌<◌, ◌≤◌, ℕ, suc, zero, Bool, true, false, List, length, Option, get_or, ap, refl, sym, arith, eq-eqb, get_or-set_other, get_or-set_same}
use Rattle.std.proofs.Math.ListN.{set, length-set}
use Rattle.std.specs.Prelude.{◌||◌, ◌==◌, unwrap_or}
use Rattle.std.proofs.lemmas.Bool.{both_ways, eqb-true}
use Rattle.std.proofs.lemmas.Option.{slice_get-get_or}
use Rattle.access_report.specs.Marks.{mark_of}

mark_is : (marks : List Bool) (k : ℕ) → k < length marks → mark_of marks (suc k) ≡ get_or marks k false
mark_is marks k less = ap (λ (o : Option Bool). unwrap_or o false) (slice_get-get_or marks k false less)

or_true : (b : Bool) → true ≡ (b || true)
or_true true = refl
or_true false = refl

or_false : (b : Bool) → b ≡ (b || false)
or_false true = refl
or_false false = refl

module _ (marks : List Bool) (n k : ℕ) (some : ¬ (n ≡ 0)) (within : n - 1 < length marks) (less : k < length marks) where
  after : mark_of (set marks (n - 1) true) (suc k) ≡ get_or (set marks (n - 1) true) k false
  after = mark_is (set marks (n - 1) true) k (omega (arith, less, length-set marks (n - 1) true))

  by_number : (b : Bool) → (n == suc k) ≡ b → mark_of (set marks (n - 1) true) (suc k) ≡ (mark_of marks (suc k) || b)
  by_number true is =
      let here : n - 1 ≡ k = omega (arith, eqb-true n (suc k) is) in
      after ∙ ap (λ (i : ℕ). get_or (set marks (n - 1) true) i false) (sym here) ∙ rw get_or-set_same (or_true (mark_of marks (suc k)))
  by_number false is =
      let there : k ≢ n - 1 = (λ same. both_ways (n == suc k) is (eq-eqb n (suc k) (omega (arith, same, some)))) in
      after ∙ rw get_or-set_other (sym (mark_is marks k less)) ∙ or_false (mark_of marks (suc k))

pub marked : (marks : List Bool) (n : ℕ) → ¬ (n ≡ 0) → n - 1 < length marks → (seq : ℕ) → 0 < seq → seq ≤ length marks → mark_of (set marks (n - 1) true) seq ≡ (mark_of marks seq || (n == seq))
marked marks n some within zero positive bound = absurd (omega arith)
marked marks n some within (suc k) positive bound = by_number marks n k some within (omega (arith, bound)) (n == suc k) refl
