-- The least of some ids.
use Rattle.std.proofs.Common.{◌≡◌, ℕ, Bool, true, false, cond, List, [], ◌∷◌, Option, None, Some, Contains, refl, sym, ◌∙◌, ap, subst, ◌⊎◌, inl, inr}
use Rattle.std.proofs.lemmas.Cmp.{nat_list_cmp_total, upto, tied_itself}
use Rattle.std.specs.declared.cmp.Ordering.{Ordering}
use Rattle.std.specs.declared.cmp.Ordering.TheVariants.{Less, Equal, Greater}
use Rattle.std.specs.FinMap.{slice_cmp-IsAntisymmetric, nat_cmp-IsAntisymmetric}
use Rattle.std.specs.Option.{option_map_or}
use Rattle.std.specs.Ordering.{nat_cmp, is_lt, is_gt, ordering_reverse}
use Rattle.std.specs.Cmp.Lexicographic.{slice_cmp}
use Rattle.git_object.specs.declared.object_id.ObjectId.{ObjectId}
use Rattle.ancestry.specs.Order.{is_below, lesser, least, IsLeast}
use Rattle.ancestry.proofs.ListLemmas.{contains_none, contains_here, contains_there, contains_cases}

lt_back : (o : Ordering) → is_lt (ordering_reverse o) ≡ is_gt o
lt_back Less = refl
lt_back Equal = refl
lt_back Greater = refl

back : (a b : ObjectId) → is_below b a ≡ is_gt (slice_cmp nat_cmp a.bytes b.bytes)
back a b = ap is_lt (nat_list_cmp_total.antisymm b.bytes a.bytes) ∙ lt_back (slice_cmp nat_cmp a.bytes b.bytes)

pub not_below_itself : (a : ObjectId) → is_below a a ≡ false
not_below_itself a = ap is_lt (tied_itself nat_list_cmp_total a.bytes)

pub not_below_through : (a b c : ObjectId) → is_below b a ≡ false → is_below c b ≡ false → is_below c a ≡ false
not_below_through a b c ba cb = back a c ∙ upto nat_list_cmp_total a.bytes b.bytes c.bytes (sym (back a b) ∙ ba) (sym (back b c) ∙ cb)

lt_not_gt : (o : Ordering) → is_lt o ≡ true → is_gt o ≡ false
lt_not_gt Less is = refl
lt_not_gt Equal is = refl
lt_not_gt Greater is = sym is

pub not_below_back : (a b : ObjectId) → is_below a b ≡ true → is_below b a ≡ false
not_below_back a b is = back a b ∙ lt_not_gt (slice_cmp nat_cmp a.bytes b.bytes) is

neither : (o : Ordering) → is_lt o ≡ false → is_gt o ≡ false → o ≡ Equal
neither Less is isnt = cc
neither Equal is isnt = refl
neither Greater is isnt = cc

pub same_place : (a b : ObjectId) → is_below a b ≡ false → is_below b a ≡ false → a ≡ b
same_place a b ab ba =
    ap (λ (bytes : List ℕ). record { bytes = bytes }) (slice_cmp-IsAntisymmetric nat_cmp-IsAntisymmetric a.bytes b.bytes (neither (slice_cmp nat_cmp a.bytes b.bytes) ab (sym (back a b) ∙ ba)))

pub lesser_first : (a b : ObjectId) → is_below a (lesser a b) ≡ false
lesser_first a b = by_test (is_below a b) refl
  where
    by_test : (t : Bool) → is_below a b ≡ t → is_below a (cond t a b) ≡ false
    by_test true e = not_below_itself a
    by_test false e = e

pub lesser_second : (a b : ObjectId) → is_below b (lesser a b) ≡ false
lesser_second a b = by_test (is_below a b) refl
  where
    by_test : (t : Bool) → is_below a b ≡ t → is_below b (cond t a b) ≡ false
    by_test true e = not_below_back a b e
    by_test false e = not_below_itself b

pub lesser_either : (a b : ObjectId) → (lesser a b ≡ a) ⊎ (lesser a b ≡ b)
lesser_either a b = by_test (is_below a b)
  where
    by_test : (t : Bool) → (cond t a b ≡ a) ⊎ (cond t a b ≡ b)
    by_test true = inl refl
    by_test false = inr refl

-- the least of some ids is one of them, and none is below it
pub least_is_least : (ids : List ObjectId) → IsLeast (Contains ids) (least ids)
least_is_least [] = λ id c. contains_none id c
least_is_least (id ∷ ids) = by_rest (least ids) (least_is_least ids)
  where
    by_rest : (o : Option ObjectId) → IsLeast (Contains ids) o → IsLeast (Contains (id ∷ ids)) (Some (option_map_or (lesser id) o id))
    by_rest None none = (
      contains_here id ids,
      λ other c. elim (contains_cases id ids other c) [
        | inl is ↦ ap (λ (i : ObjectId). is_below i id) (sym is) ∙ not_below_itself id
        | inr c ↦ absurd (none other c)
      ],
    )
    by_rest (Some m) rest = (
      elim (lesser_either id m) [
        | inl is ↦ subst (λ (i : ObjectId). Contains (id ∷ ids) i) (sym is) (contains_here id ids)
        | inr is ↦ subst (λ (i : ObjectId). Contains (id ∷ ids) i) (sym is) (contains_there id ids m rest.0)
      ],
      λ other c. elim (contains_cases id ids other c) [
        | inl is ↦ ap (λ (i : ObjectId). is_below i (lesser id m)) (sym is) ∙ lesser_first id m
        | inr c ↦ not_below_through (lesser id m) m other (lesser_second id m) (rest.1 other c)
      ],
    )

-- there is one least
pub one_least : (P : ObjectId → Type 0) (a b : Option ObjectId) → IsLeast P a → IsLeast P b → a ≡ b
one_least P None None a b = refl
one_least P None (Some n) a b = absurd (a n b.0)
one_least P (Some m) None a b = absurd (b m a.0)
one_least P (Some m) (Some n) a b = ap Some (same_place m n (b.1 m a.0) (a.1 n b.0))

pub least_of_same : (P Q : ObjectId → Type 0) (a : Option ObjectId) → ((id : ObjectId) → P id → Q id) → ((id : ObjectId) → Q id → P id) → IsLeast P a → IsLeast Q a
least_of_same P Q None to from is = λ id q. is id (from id q)
least_of_same P Q (Some m) to from is = (to m is.0, λ id q. is.1 id (from id q))
