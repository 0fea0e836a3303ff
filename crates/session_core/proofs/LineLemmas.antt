-- Packets of lines that are written one after the other.
use Rattle.std.proofs.Common.{◌≡◌, ℕ, zero, suc, ◌+◌, ◌<◌, ◌≤◌, List, [], ◌∷◌, ◌++◌, length, map, drop, get_or, refl, sym, ◌∙◌, ap, arith, add-one}
use Rattle.std.specs.List.{flat_map}
use Rattle.std.proofs.Math.Seq.{drop-cons}
use Rattle.session_core.specs.Packets.{packet}

module _ {X : Type 0} where
  drop_here : (xs : List X) (place : ℕ) (d : X) → place < length xs → drop place xs ≡ get_or xs place d ∷ drop (place + 1) xs
  drop_here xs place d within = drop-cons xs place d within ∙ ap (λ (n : ℕ). get_or xs place d ∷ drop n xs) (sym (add-one place))

  nothing_left : (xs : List X) (place : ℕ) → length xs ≤ place → drop place xs ≡ []
  nothing_left [] zero past = refl
  nothing_left [] (suc place) past = refl
  nothing_left (x ∷ xs) zero past = absurd (omega (arith, past))
  nothing_left (x ∷ xs) (suc place) past = nothing_left xs place (omega (arith, past))

module _ {X : Type 0} (text : X → List ℕ) where
  -- what is still to be written, with these left
  pub lines_left : List X → List ℕ
  lines_left xs = flat_map packet (map text xs)

  pub lines_all : (xs : List X) → lines_left xs ≡ flat_map packet (map text xs)
  unfolding lines_left
  lines_all xs = refl

  pub lines_more : (xs : List X) (place : ℕ) (x : X) → place < length xs → x ≡ get_or xs place x → lines_left (drop place xs) ≡ packet (text x) ++ lines_left (drop (place + 1) xs)
  unfolding lines_left
  lines_more xs place x within is = ap lines_left (drop_here xs place x within ∙ ap (λ (y : X). y ∷ drop (place + 1) xs) (sym is))

  pub lines_end : (xs : List X) (place : ℕ) → length xs ≤ place → lines_left (drop place xs) ≡ []
  unfolding lines_left
  lines_end xs place past = ap lines_left (nothing_left xs place past)
