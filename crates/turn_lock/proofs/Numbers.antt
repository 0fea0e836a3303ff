-- For callers that join passes in the order of their numbers.
use Rattle.std.proofs.Common.{◌+◌, ◌++◌, ◌∷◌, [], ℕ, List, arith, subst, sym}
use Rattle.std.specs.Prelude.{Contains}
use Rattle.std.proofs.lemmas.List.Elements.{Contains-append_left, Contains-append_right}
use mathlib.Core.Logic.{dite}
use native.Mathlib.Decide.{ℕ_discrete}
use Rattle.turn_lock.specs.Lock.{ContainsBelow}

-- the first pass, as `new` gives it
pub ContainsBelow-first : ContainsBelow (0 ∷ []) 1
ContainsBelow-first n below = (0, omega arith, omega (arith, below))

-- the numbers of the pass k come to those below k
pub ContainsBelow-append : (xs ys : List ℕ) (k : ℕ) → ContainsBelow xs k → Contains ys k → ContainsBelow (xs ++ ys) (k + 1)
ContainsBelow-append xs ys k all has n below =
    dite (ℕ_discrete n k)
    (λ same. subst (λ m. Contains (xs ++ ys) m) (sym same) (Contains-append_right xs ys k has))
    (λ other. Contains-append_left xs ys n (all n (omega (arith, below, other))))
