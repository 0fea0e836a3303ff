-- Texts that are written piece by piece.
use Rattle.std.proofs.Common.{◌≡◌, ℕ, List, ◌++◌, cond, is_ok, Result, Ok, Err, OnOk, ◌∙◌, ap, append_assoc}

module _ {X E : Type 0} where
  -- a piece more, and then another
  pub on_ok_more : (r : Result X E) (old x mid y new : List ℕ) → mid ≡ old ++ x → OnOk r (new ≡ mid ++ y) → OnOk r (new ≡ old ++ (x ++ y))
  on_ok_more (Ok v) old x mid y new first second = second ∙ ap (λ (l : List ℕ). l ++ y) first ∙ append_assoc old x y
  on_ok_more (Err e) old x mid y new first second = tt

  pub on_ok_extend : (r : Result X E) (old x mid y new : List ℕ) → mid ≡ old ++ x → new ≡ cond (is_ok r) (mid ++ y) mid → OnOk r (new ≡ old ++ (x ++ y))
  on_ok_extend (Ok v) old x mid y new first second = second ∙ ap (λ (l : List ℕ). l ++ y) first ∙ append_assoc old x y
  on_ok_extend (Err e) old x mid y new first second = tt
