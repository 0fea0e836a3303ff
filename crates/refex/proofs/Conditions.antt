-- What a condition gives.
use Rattle.std.proofs.Common.{◌≡◌, ◌&&◌, cond, Bool, true, false, refl, ap}

pub if_true : {A : Type 0} (t : Bool) (x y : A) → t ≡ true → cond t x y ≡ x
if_true t x y e = ap (λ t. cond t x y) e

pub if_false : {A : Type 0} (t : Bool) (x y : A) → t ≡ false → cond t x y ≡ y
if_false t x y e = ap (λ t. cond t x y) e

pub and_false : (t : Bool) → t && false ≡ false
and_false true = refl
and_false false = refl

pub either_way : {A : Type 0} (P : A → Type 0) (t : Bool) (x y : A) → (t ≡ true → P x) → (t ≡ false → P y) → P (cond t x y)
either_way P true x y f g = f refl
either_way P false x y f g = g refl
