-- Places in lists.
use Rattle.std.proofs.Common.{◌≡◌, ℕ, zero, suc, ◌+◌, ◌<◌, List, [], ◌∷◌, ◌++◌, length, map, take, drop, get_or, Option, None, Some, Contains, sym, ◌∙◌, ap, subst, arith}
use Rattle.std.specs.Prelude.{slice_get, IfSome}
use Rattle.std.proofs.lemmas.List.{append_assoc, get_or_default, take_more, take-append-drop}
use Rattle.std.specs.List.{AllZip}
use Rattle.std.proofs.lemmas.Option.{get_or_from_slice_get, slice_get-get_or, slice_get_within}
use Rattle.std.proofs.lemmas.List.Quantifiers.{position-Some}
use Rattle.git_object.specs.declared.object_id.ObjectId.{ObjectId}
use Rattle.ref_store.specs.Objects.{same_id}
use Rattle.ref_store.proofs.ObjectLemmas.{id_is}
use Rattle.vref.specs.History.{place}

some_is : {X : Type 0} (d : X) (o : Option X) → X
some_is d None = d
some_is d (Some x) = x

-- two names of one thing
pub same_some : {X : Type 0} (o : Option X) (x y : X) → o ≡ Some x → o ≡ Some y → x ≡ y
unfolding some_is
same_some o x y first second = ap (some_is x) (sym first ∙ second)

-- at the place of an id stands that id
pub at_place : (ids : List ObjectId) (id : ObjectId) (i : ℕ) → place ids id ≡ Some i → slice_get ids i ≡ Some id
at_place ids id i is =
    let found = position-Some (same_id id) ids i id is in
    slice_get-get_or ids i id found.0 ∙ ap (λ (other : ObjectId). Some other) (sym (id_is id (get_or ids i id) found.1))

-- lists that go together go together when both grow
pub zip_both : {A B : Type 0} (R : A → B → Type 0) (xs ws : List A) (ys zs : List B) → AllZip R xs ys → AllZip R ws zs → AllZip R (xs ++ ws) (ys ++ zs)
zip_both R [] ws [] zs first second = second
zip_both R [] ws (y ∷ ys) zs first second = absurd first
zip_both R (x ∷ xs) ws [] zs first second = absurd first
zip_both R (x ∷ xs) ws (y ∷ ys) zs first second = (first.0, zip_both R xs ws ys zs first.1 second)

pub contains_at : {X : Type 0} (xs : List X) (i : ℕ) (x : X) → slice_get xs i ≡ Some x → Contains xs x
contains_at xs i x is = (i, slice_get_within xs i x is, get_or_from_slice_get xs i x x is)

-- what stands at a place stands at no further one of the list
pub place_small : (ids : List ObjectId) (id : ObjectId) (i : ℕ) → place ids id ≡ Some i → i < length ids
place_small ids id i is = slice_get_within ids i id (at_place ids id i is)

-- one more item goes with the next one
pub zip_more : {A B : Type 0} (R : A → B → Type 0) (xs : List A) (ys : List B) (i : ℕ) (d : A) (y : B) → i < length xs → AllZip R (take i xs) ys → R (get_or xs i d) y → AllZip R (take (i + 1) xs) (ys ++ y ∷ [])
zip_more R xs ys i d y below so goes = subst (λ l. AllZip R l (ys ++ y ∷ [])) (sym (take_more xs i d below)) (zip_both R (take i xs) (get_or xs i d ∷ []) ys (y ∷ []) so (goes, tt))

pub contains_got : {X : Type 0} (xs : List X) (i : ℕ) (d : X) → i < length xs → Contains xs (get_or xs i d)
contains_got xs i d below = (i, below, get_or_default xs i (get_or xs i d) d below)

pub of_some : {X : Type 0} (o : Option X) (x : X) (P : X → Type 0) → o ≡ Some x → IfSome o P → P x
of_some {X = X} o x P is holds = subst (λ (p : Option X). IfSome p P) is holds

-- the two parts of a split list, behind what was done
pub split_more : {X : Type 0} (done front back rest all : List X) (n : ℕ) → done ++ rest ≡ all → front ≡ take n rest → back ≡ drop n rest → (done ++ front) ++ back ≡ all
split_more {X = X} done front back rest all n before first second =
    append_assoc done front back
    ∙ ap (λ (xs : List X). done ++ xs) (ap (λ (xs : List X). xs ++ back) first ∙ ap (λ (xs : List X). take n rest ++ xs) second ∙ take-append-drop n rest)
    ∙ before

-- what goes with the image of an item
pub zip_map_at : {A B C : Type 0} (R : B → C → Type 0) (f : A → B) (xs : List A) (ys : List C) (i : ℕ) (d : A) (e : C) → AllZip R (map f xs) ys → i < length xs → (i < length ys) × R (f (get_or xs i d)) (get_or ys i e)
zip_map_at R f [] ys i d e h below = absurd (let no : ⊥ = omega arith in no)
zip_map_at R f (x ∷ xs) [] i d e h below = absurd h
zip_map_at R f (x ∷ xs) (y ∷ ys) zero d e h below = (omega arith, h.0)
zip_map_at R f (x ∷ xs) (y ∷ ys) (suc i) d e h below = let rest = zip_map_at R f xs ys i d e h.1 (omega arith) in (omega (arith, rest.0), rest.1)
