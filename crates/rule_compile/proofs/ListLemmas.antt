-- Lists that grow at their end.
use Rattle.std.proofs.Common.{◌≡◌, ◌++◌, List, [], ◌∷◌, append_assoc, ap, sym, ◌∙◌}

-- one item more in front of what is left
pub one_more : {X : Type 0} (all more rest : List X) (x y : X) → more ≡ all ++ y ∷ [] → y ≡ x → all ++ x ∷ rest ≡ more ++ rest
one_more {X} all more rest x y e same = ap (λ (z : X). all ++ z ∷ rest) (sym same) ∙ sym (append_assoc all (y ∷ []) rest) ∙ ap (λ (m : List X). m ++ rest) (sym e)
