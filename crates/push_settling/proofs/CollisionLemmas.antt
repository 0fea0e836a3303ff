-- What a repository tells of adding a pack, and the pack's collision.
use Rattle.std.proofs.Common.{◌≡◌, ℕ, suc, ◌<◌, ◌≤◌, Bool, true, false, ◌||◌, ◌&&◌, not, nat_eq, nat_lt, cond, List, [], ◌∷◌, ◌++◌, take, length, get_or, refl, sym, ◌∙◌, ap, subst, arith, length-append, length-take, append_assoc, append-nil}
use Rattle.std.specs.Prelude.{Some, None, slice_get}
use Rattle.std.specs.List.{list_any}
use Rattle.std.proofs.lemmas.Bool.Decides.{nat_tests}
use Rattle.std.proofs.lemmas.Option.{get_or_from_slice_get, slice_get_within}
use Rattle.std.proofs.lemmas.List.{get_or_append_left, get_or-take}
use Rattle.std.proofs.lemmas.List.Folds.{list_any_at}
use Rattle.std.proofs.Math.Seq.{get_or-append_seam}
use Rattle.std.proofs.lemmas.Cmp.{nat_list_cmp_total, tied_itself}
use Rattle.std.specs.Cmp.Lexicographic.{texts_ties}
use Rattle.std.specs.Ordering.{is_eq}
use Rattle.git_object.specs.Content.{Content}
use Rattle.git_object.specs.Object.{object_name}
use Rattle.git_object.specs.declared.kind.Kind.{Kind}
use Rattle.git_object.specs.declared.kind.Kind.TheVariants.{Commit, Tree, Blob, Tag}
use Rattle.git_object.specs.declared.object_id.ObjectId.{ObjectId}
use Rattle.ref_store.specs.Objects.{same_id, HasNamesOnce, HasNoCollision, IsFirstCollision}
use Rattle.ref_store.proofs.ObjectLemmas.{id_is, id_itself}
use Rattle.hub_history.proofs.CollisionLemmas.{object_is}
use Rattle.hub_history.specs.Collision.{kind_number, same_object, collides, collision}
use Rattle.hub_history.specs.State.{same_name}

kind_itself : (k : Kind) → nat_eq (kind_number k) (kind_number k) ≡ true
kind_itself Commit = refl
kind_itself Tree = refl
kind_itself Blob = refl
kind_itself Tag = refl

body_itself : (a : List ℕ) → same_name a a ≡ true
body_itself a = texts_ties a a ∙ ap is_eq (tied_itself nat_list_cmp_total a)

object_itself : (a b : Content) → a ≡ b → same_object a b ≡ true
object_itself a b is =
    ap (same_object a) (sym is) ∙ ap (λ t. t && same_name a.body a.body) (kind_itself a.kind) ∙ body_itself a.body

-- two that differ and have one name collide
they_collide : (new old : Content) → object_name new ≡ object_name old → ¬ (new ≡ old) → collides new old ≡ true
they_collide new old names differ =
    ap (λ b. b && not (same_object new old)) (ap (same_id (object_name new)) (sym names) ∙ id_itself (object_name new)) ∙ by_test (same_object new old) refl
  where
    by_test : (b : Bool) → same_object new old ≡ b → not (same_object new old) ≡ true
    by_test true is = absurd (differ (object_is new old is))
    by_test false is = ap not is

-- two that are the same where they have one name don't
they_fit : (new old : Content) → (object_name new ≡ object_name old → new ≡ old) → collides new old ≡ false
they_fit new old alike = by_name (same_id (object_name new) (object_name old)) refl
  where
    by_name : (b : Bool) → same_id (object_name new) (object_name old) ≡ b → collides new old ≡ false
    by_name true is =
        ap (λ b. b && not (same_object new old)) is ∙ ap not (object_itself new old (alike (id_is (object_name new) (object_name old) is)))
    by_name false is = ap (λ b. b && not (same_object new old)) is

none_of : (p : Content → Bool) (xs : List Content) → ((i : ℕ) (d : Content) → i < length xs → p (get_or xs i d) ≡ false) → list_any p xs ≡ false
none_of p [] none = refl
none_of p (x ∷ xs) none = ap (λ b. b || list_any p xs) (none 0 x (omega arith)) ∙ none_of p xs (λ i d below. none (suc i) d (omega (arith, below)))

-- a pack that fits has no collision
pub collision_none : (before pack : List Content) → HasNoCollision (before ++ pack) → collision before pack ≡ None
collision_none before [] apart = refl
collision_none before (o ∷ os) apart =
    ap (λ b. cond b (Some (object_name o)) (collision (before ++ o ∷ []) os)) (none_of (collides o) before (λ i d below. they_fit o (get_or before i d) (alike i d below)))
    ∙ collision_none (before ++ o ∷ []) os (subst HasNoCollision (sym (append_assoc before (o ∷ []) os)) apart)
  where
    alike : (i : ℕ) (d : Content) → i < length before → object_name o ≡ object_name (get_or before i d) → o ≡ get_or before i d
    alike i d below same =
        let here = get_or_append_left before (o ∷ os) d i below in
        let seam = get_or-append_seam before o os d in
        let within : length before < length (before ++ o ∷ os) = omega (arith, length-append before (o ∷ os)) in
        sym seam ∙ apart i (length before) d below within (ap object_name seam ∙ same ∙ ap object_name (sym here)) ∙ here

-- the first collision past what is there is the pack's
collision_from : (before os : List Content) (id : ObjectId) (kept given : ℕ) (old new : Content) → length before ≤ given → kept < given
    → slice_get (before ++ os) kept ≡ Some old → slice_get (before ++ os) given ≡ Some new → object_name old ≡ id → object_name new ≡ id → ¬ (new ≡ old)
    → HasNoCollision (take given (before ++ os)) → collision before os ≡ Some id
collision_from before [] id kept given old new past order kept_is given_is old_name new_name differ apart =
    absurd (omega (arith, past, slice_get_within (before ++ []) given new given_is, ap length (append-nil before)))
collision_from before (o ∷ os) id kept given old new past order kept_is given_is old_name new_name differ apart =
    by_place (nat_lt (length before) given) refl (λ later.
    let longer = append_assoc before (o ∷ []) os in
    collision_from (before ++ o ∷ []) os id kept given old new (omega (arith, later, length-append before (o ∷ []))) order
    (ap (λ l. slice_get l kept) longer ∙ kept_is) (ap (λ l. slice_get l given) longer ∙ given_is) old_name new_name differ
    (subst (λ (l : List Content). HasNoCollision (take given l)) (sym longer) apart))
  where
    by_place : (b : Bool) → nat_lt (length before) given ≡ b → (length before < given → collision (before ++ o ∷ []) os ≡ Some id) → collision before (o ∷ os) ≡ Some id
    by_place true e rest =
        let later : length before < given = grind (arith, nat_tests) in
        let within = slice_get_within (before ++ o ∷ os) given new given_is in
        let alike = λ (i : ℕ) (d : Content) (below : i < length before) (same : object_name o ≡ object_name (get_or before i d)).
        let here = get_or-take given (before ++ o ∷ os) i d (omega (arith, below, later)) ∙ get_or_append_left before (o ∷ os) d i below in
        let seam = get_or-take given (before ++ o ∷ os) (length before) d later ∙ get_or-append_seam before o os d in
        let long : length before < length (take given (before ++ o ∷ os)) = omega (arith, later, within, length-take given (before ++ o ∷ os)) in
        sym seam ∙ apart i (length before) d below long (ap object_name seam ∙ same ∙ ap object_name (sym here)) ∙ here in
        ap (λ b. cond b (Some (object_name o)) (collision (before ++ o ∷ []) os)) (none_of (collides o) before (λ i d below. they_fit o (get_or before i d) (alike i d below)))
        ∙ rest later
    by_place false e rest =
        let here : given ≡ length before = grind (arith, nat_tests) in
        let new_is : new ≡ o = sym (get_or_from_slice_get (before ++ o ∷ os) given new o given_is) ∙ ap (λ n. get_or (before ++ o ∷ os) n o) here ∙ get_or-append_seam before o os o in
        let below : kept < length before = omega (arith, order, here) in
        let old_is : get_or before kept o ≡ old = sym (get_or_append_left before (o ∷ os) o kept below) ∙ get_or_from_slice_get (before ++ o ∷ os) kept old o kept_is in
        let name : object_name o ≡ id = ap object_name (sym new_is) ∙ new_name in
        let collide : collides o (get_or before kept o) ≡ true = ap (collides o) old_is ∙ they_collide o old (name ∙ sym old_name) (λ same. differ (new_is ∙ same)) in
        ap (λ b. cond b (Some (object_name o)) (collision (before ++ o ∷ []) os)) (list_any_at (collides o) before kept o below collide) ∙ ap (λ (i : ObjectId). Some i) name

pub collision_some : (objects pack : List Content) (id : ObjectId) (kept given : ℕ) → HasNamesOnce objects → IsFirstCollision (objects ++ pack) id kept given → collision objects pack ≡ Some id
collision_some objects pack id kept given once first =
    collision_from objects pack id kept given first.old first.new (past (nat_lt given (length objects)) refl) first.before first.kept_is first.given_is first.old_name first.new_name first.differ first.first
  where
    past : (b : Bool) → nat_lt given (length objects) ≡ b → length objects ≤ given
    past true e =
        let within : given < length objects = grind (arith, nat_tests) in
        let new_is : get_or objects given first.new ≡ first.new = sym (get_or_append_left objects pack first.new given within) ∙ get_or_from_slice_get (objects ++ pack) given first.new first.new first.given_is in
        let below : kept < length objects = omega (arith, first.before, within) in
        let old_is : get_or objects kept first.new ≡ first.old = sym (get_or_append_left objects pack first.new kept below) ∙ get_or_from_slice_get (objects ++ pack) kept first.old first.new first.kept_is in
        absurd (once kept given first.new first.before within (ap object_name new_is ∙ first.new_name ∙ sym first.old_name ∙ ap object_name (sym old_is)))
    past false e = grind (arith, nat_tests)
