-- Formats, one behind another.
use Rattle.std.proofs.Common.{◌≡◌, ℕ, ◌+◌, ◌<◌, ◌≤◌, List, ◌++◌, length, take, drop, refl, sym, ◌∙◌, ap, arith, append_assoc, length-append, take-append-drop, inl, inr}
use Rattle.std.proofs.lemmas.Bool.{lt-ltb, le-ltb, cases_lt}
use Rattle.std.proofs.lemmas.List.{take_at, drop_at, length-drop, length-take-le, drop-drop}
use Rattle.base_types.specs.Fronts.{Front, Whole, Broken, Partial}
use Rattle.raw_pack.specs.Formats.{Format, gives, fails, wants, ◌>>=◌, front, behind, and_then}

module _ {V F : Type 0} where
  pub behind_zero : (at : Front V F) → behind 0 at ≡ at
  behind_zero (Whole m v) = ap (λ (n : ℕ). Whole n v) (omega arith)
  behind_zero (Broken m e) = ap (λ (n : ℕ). Broken n e) (omega arith)
  behind_zero (Partial e) = refl

  pub behind_more : (n m : ℕ) (at : Front V F) → behind n (behind m at) ≡ behind (n + m) at
  behind_more n m (Whole k v) = ap (λ (i : ℕ). Whole i v) (omega arith)
  behind_more n m (Broken k e) = ap (λ (i : ℕ). Broken i e) (omega arith)
  behind_more n m (Partial e) = refl

  pub front-wants_short : (n : ℕ) (e : F) (f : List ℕ → Format V F) (input : List ℕ) → length input < n → front (wants n e f) input ≡ Partial e
  unfolding front
  front-wants_short n e f input h = rw (lt-ltb (length input) n h)

  pub front-wants : (n : ℕ) (e : F) (f : List ℕ → Format V F) (found rest : List ℕ) → length found ≡ n → front (wants n e f) (found ++ rest) ≡ behind n (front (f found) rest)
  unfolding front
  front-wants n e f found rest h = rw (le-ltb (length (found ++ rest)) n (omega (arith, length-append found rest, h)), take_at found rest n h, drop_at found rest n h)

  pub decided_behind : (k n : ℕ) (v : V) (at : Front V F) → behind k at ≡ Whole n v → (m : ℕ) × (at ≡ Whole m v) × (n ≡ k + m)
  decided_behind k n v (Whole m w) e = (m, cc, cc)
  decided_behind k n v (Broken m f) e = absurd (cc)
  decided_behind k n v (Partial f) e = absurd (cc)

  pub broken_behind : (k n : ℕ) (e : F) (at : Front V F) → behind k at ≡ Broken n e → (m : ℕ) × (at ≡ Broken m e) × (n ≡ k + m)
  broken_behind k n e (Whole m w) is = absurd (cc)
  broken_behind k n e (Broken m f) is = (m, cc, cc)
  broken_behind k n e (Partial f) is = absurd (cc)

  pub front-wants_long : (n : ℕ) (e : F) (f : List ℕ → Format V F) (input : List ℕ) → n ≤ length input → front (wants n e f) input ≡ behind n (front (f (take n input)) (drop n input))
  unfolding front
  front-wants_long n e f input h = rw (le-ltb (length input) n h)

  -- what is decided stays so, whatever follows
  pub whole_stays : (f : Format V F) (input more : List ℕ) (n : ℕ) (v : V) → front f input ≡ Whole n v → front f (input ++ more) ≡ Whole n v
  unfolding front
  whole_stays (gives w) input more n v is = is
  whole_stays (fails e) input more n v is = absurd (cc)
  whole_stays (wants k e g) input more n v is =
      elim (cases_lt (length input) k) [
        | inl short ↦ absurd (let cut : front (wants k e g) input ≡ Partial e = front-wants_short k e g input short in cc)
        | inr long ↦
            let here : behind k (front (g (take k input)) (drop k input)) ≡ Whole n v = sym (front-wants_long k e g input long) ∙ is in
            let inner = decided_behind k n v (front (g (take k input)) (drop k input)) here in
            let rest : front (g (take k input)) (drop k input ++ more) ≡ Whole inner.0 v = whole_stays (g (take k input)) (drop k input) more inner.0 v inner.1 in
            ap (λ (l : List ℕ). front (wants k e g) (l ++ more)) (sym (take-append-drop k input))
            ∙ ap (front (wants k e g)) (append_assoc (take k input) (drop k input) more)
            ∙ front-wants k e g (take k input) (drop k input ++ more) (length-take-le k input long)
            ∙ ap (behind k) rest
            ∙ ap (λ (m : ℕ). Whole m v) (sym inner.2)
      ]

  -- what is whole lies within the input
  pub whole_within : (f : Format V F) (input : List ℕ) (n : ℕ) (v : V) → front f input ≡ Whole n v → n ≤ length input
  unfolding front
  whole_within (gives w) input n v is = let none : n ≡ 0 = cc in omega arith
  whole_within (fails e) input n v is = absurd (cc)
  whole_within (wants k e g) input n v is =
      elim (cases_lt (length input) k) [
        | inl short ↦ absurd (let cut : front (wants k e g) input ≡ Partial e = front-wants_short k e g input short in cc)
        | inr long ↦
            let here : behind k (front (g (take k input)) (drop k input)) ≡ Whole n v = sym (front-wants_long k e g input long) ∙ is in
            let inner = decided_behind k n v (front (g (take k input)) (drop k input)) here in
            let rest : inner.0 ≤ length (drop k input) = whole_within (g (take k input)) (drop k input) inner.0 v inner.1 in
            omega (arith, rest, inner.2, length-drop k input)
      ]

  pub broken_stays : (f : Format V F) (input more : List ℕ) (n : ℕ) (v : F) → front f input ≡ Broken n v → front f (input ++ more) ≡ Broken n v
  unfolding front
  broken_stays (gives w) input more n v is = absurd (cc)
  broken_stays (fails e) input more n v is = is
  broken_stays (wants k e g) input more n v is =
      elim (cases_lt (length input) k) [
        | inl short ↦ absurd (let cut : front (wants k e g) input ≡ Partial e = front-wants_short k e g input short in cc)
        | inr long ↦
            let here : behind k (front (g (take k input)) (drop k input)) ≡ Broken n v = sym (front-wants_long k e g input long) ∙ is in
            let inner = broken_behind k n v (front (g (take k input)) (drop k input)) here in
            let rest : front (g (take k input)) (drop k input ++ more) ≡ Broken inner.0 v = broken_stays (g (take k input)) (drop k input) more inner.0 v inner.1 in
            ap (λ (l : List ℕ). front (wants k e g) (l ++ more)) (sym (take-append-drop k input))
            ∙ ap (front (wants k e g)) (append_assoc (take k input) (drop k input) more)
            ∙ front-wants k e g (take k input) (drop k input ++ more) (length-take-le k input long)
            ∙ ap (behind k) rest
            ∙ ap (λ (m : ℕ). Broken m v) (sym inner.2)
      ]

module _ {V W F : Type 0} (g : V → Format W F) where
  behind_then : (k : ℕ) (input : List ℕ) (at : Front V F)
      → behind k (and_then at (λ n v. front (g v) (drop n (drop k input)))) ≡ and_then (behind k at) (λ n v. front (g v) (drop n input))
  behind_then k input (Whole m v) = behind_more k m (front (g v) (drop m (drop k input))) ∙ ap (λ (l : List ℕ). behind (k + m) (front (g v) l)) (drop-drop m k input)
  behind_then k input (Broken m e) = refl
  behind_then k input (Partial e) = refl

  -- one format and then another
  pub front-bind : (f : Format V F) (input : List ℕ) → front (f >>= g) input ≡ and_then (front f input) (λ n v. front (g v) (drop n input))
  unfolding front ◌>>=◌
  front-bind (gives v) input = sym (behind_zero (front (g v) input))
  front-bind (fails e) input = refl
  front-bind (wants k e h) input =
      elim (cases_lt (length input) k) [
        | inl short ↦ front-wants_short k e (λ bytes. h bytes >>= g) input short ∙ ap (λ at. and_then at (λ n v. front (g v) (drop n input))) (sym (front-wants_short k e h input short))
        | inr long ↦
            front-wants_long k e (λ bytes. h bytes >>= g) input long
            ∙ ap (behind k) (front-bind (h (take k input)) (drop k input))
            ∙ behind_then k input (front (h (take k input)) (drop k input))
            ∙ ap (λ at. and_then at (λ n v. front (g v) (drop n input))) (sym (front-wants_long k e h input long))
      ]
