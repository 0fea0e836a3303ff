-- Lists, item by item.
use Rattle.std.proofs.Common.{◌≡◌, List, ℕ, Bool, true, false, not, ◌&&◌, ◌||◌, [], ◌∷◌, ◌++◌, refl, sym, ◌∙◌, ap, ◌<◌, ◌+◌, length, drop, get_or, add-one}
use Rattle.std.proofs.Math.Seq.{drop-cons}
use Rattle.std.specs.List.{AllByRecursion, list_all, list_any}

-- what is left begins with the item at the index
pub drop_here : {X : Type 0} (xs : List X) (i : ℕ) (d : X) → i < length xs → drop i xs ≡ get_or xs i d ∷ drop (i + 1) xs
drop_here xs i d h = drop-cons xs i d h ∙ ap (λ n. get_or xs i d ∷ drop n xs) (sym (add-one i))

-- what holds of each holds with one more
pub all_pushed : {X : Type 0} (P : X → Type 0) (xs : List X) (x : X) → AllByRecursion P xs → P x → AllByRecursion P (xs ++ x ∷ [])
all_pushed P [] x all here = (here, tt)
all_pushed P (y ∷ xs) x all here = (all.0, all_pushed P xs x all.1 here)

-- where no item passes a test, each fails it
pub none_is_all : (p : ℕ → Bool) (xs : List ℕ) → not (list_any p xs) ≡ list_all (λ x. not (p x)) xs
none_is_all p [] = refl
none_is_all p (x ∷ xs) = by_first (p x) (none_is_all p xs)
  where
    by_first : (b : Bool) → not (list_any p xs) ≡ list_all (λ x. not (p x)) xs → not (b || list_any p xs) ≡ (not b && list_all (λ x. not (p x)) xs)
    by_first true others = refl
    by_first false others = others
