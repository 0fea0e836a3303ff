-- A pack gone through so far.
use Rattle.std.proofs.Common.{◌≡◌, ℕ, ◌+◌, ◌<◌, ◌≤◌, Bool, true, false, ◌||◌, cond, nat_lt, List, [], ◌∷◌, ◌++◌, take, drop, length, get_or, Option, None, Some, refl, sym, ◌∙◌, ap, subst, arith, length-append, length-take, append-nil, append_assoc}
use Rattle.std.proofs.lemmas.Bool.Decides.{nat_tests}
use Rattle.std.proofs.lemmas.List.{drop_more, take_more, take_all, drop_all}
use Rattle.std.proofs.lemmas.List.Folds.{list_any-append}
use Rattle.std.proofs.lemmas.List.Quantifiers.{all_pairs_push}
use Rattle.std.proofs.lemmas.Option.{get_or_from_slice_get, slice_get-get_or}
use Rattle.std.proofs.Math.Seq.{take-append-add}
use Rattle.std.specs.Prelude.{slice_get}
use Rattle.git_object.specs.Content.{Content}
use Rattle.git_object.specs.Object.{object_name}
use Rattle.git_object.specs.declared.object_id.ObjectId.{ObjectId}
use Rattle.ref_store.specs.Objects.{same_id, has_object, place_of, with_pack, HasNamesOnce, HasNoCollision, IsFirstCollision}
use Rattle.ref_store.proofs.ObjectLemmas.{id_is, id_itself, place_there, place_first, place_none, has_none, has_some, slice_get_take, get_behind}

-- the first so many of a pack fit the objects before them, and these of them are lacking
pub record SoFar (kept pack fresh : List Content) (i : ℕ) : Type 0 where
  pub apart : HasNoCollision (kept ++ take i pack)
  pub known : (id : ObjectId) → has_object (kept ++ fresh) id ≡ has_object (kept ++ take i pack) id
  pub added : with_pack (kept ++ fresh) (drop i pack) ≡ with_pack kept pack

pub so_far_none : (kept pack : List Content) → HasNamesOnce kept → SoFar kept pack [] 0
so_far_none kept pack once = record {
  apart = subst HasNoCollision (sym (append-nil kept)) (λ i j d lt bound same. absurd (once i j d lt bound same));
  known = λ id. refl;
  added = ap (λ os. with_pack os pack) (append-nil kept);
}

has_push : (xs : List Content) (o : Content) (id : ObjectId) → has_object (xs ++ o ∷ []) id ≡ (has_object xs id || (same_id id (object_name o) || false))
has_push xs o id = list_any-append (λ p. same_id id (object_name p)) xs (o ∷ [])

one_more : (kept pack : List Content) (i : ℕ) (o : Content) → i < length pack → o ≡ get_or pack i o → kept ++ take (i + 1) pack ≡ (kept ++ take i pack) ++ o ∷ []
one_more kept pack i o below is =
    ap (λ os. kept ++ os) (take_more pack i o below ∙ ap (λ x. take i pack ++ x ∷ []) (sym is)) ∙ sym (append_assoc kept (take i pack) (o ∷ []))

one_left : (pack : List Content) (i : ℕ) (o : Content) → i < length pack → o ≡ get_or pack i o → drop i pack ≡ o ∷ drop (i + 1) pack
one_left pack i o below is = drop_more pack i o below ∙ ap (λ x. x ∷ drop (i + 1) pack) (sym is)

abbrev Alike : Content → Content → Type 0
Alike a b = object_name b ≡ object_name a → b ≡ a

new_apart : (xs : List Content) (o : Content) → HasNoCollision xs → place_of xs (object_name o) ≡ None → HasNoCollision (xs ++ o ∷ [])
new_apart xs o apart none = all_pairs_push Alike xs o apart (λ k d below same.
    let other = place_none xs (object_name o) none k d below in
    let itself = ap (same_id (object_name o)) same in
    let yes = id_itself (object_name o) in
    absurd (cc (other, itself, yes)))

old_apart : (xs : List Content) (o : Content) (i : ℕ) → HasNoCollision xs → place_of xs (object_name o) ≡ Some i → slice_get xs i ≡ Some o → HasNoCollision (xs ++ o ∷ [])
old_apart xs o i apart some there = all_pairs_push Alike xs o apart (λ k d below same. by_order k d below same (nat_lt k i) refl (nat_lt i k) refl)
  where
    by_order : (k : ℕ) (d : Content) → k < length xs → object_name o ≡ object_name (get_or xs k d) → (b : Bool) → nat_lt k i ≡ b → (c : Bool) → nat_lt i k ≡ c → o ≡ get_or xs k d
    by_order k d below same true k_first c e =
        let lt : k < i = grind (arith, nat_tests) in
        let other = place_first xs (object_name o) i some k d lt in
        let itself = ap (same_id (object_name o)) same in
        let yes = id_itself (object_name o) in
        absurd (cc (other, itself, yes))
    by_order k d below same false e true i_first =
        let lt : i < k = grind (arith, nat_tests) in
        let here : get_or xs i d ≡ o = get_or_from_slice_get xs i o d there in
        sym (apart i k d lt below (sym same ∙ ap object_name (sym here)) ∙ here)
    by_order k d below same false e false f =
        let is : i ≡ k = grind (arith, nat_tests) in
        sym (ap (λ n. get_or xs n d) (sym is) ∙ get_or_from_slice_get xs i o d there)

pub so_far_new : (kept pack fresh : List Content) (i : ℕ) (o : Content) → i < length pack → o ≡ get_or pack i o → place_of (kept ++ take i pack) (object_name o) ≡ None → SoFar kept pack fresh i → SoFar kept pack (fresh ++ o ∷ []) (i + 1)
so_far_new kept pack fresh i o below is none so_far =
    let more = one_more kept pack i o below is in
    let longer : kept ++ (fresh ++ o ∷ []) ≡ (kept ++ fresh) ++ o ∷ [] = sym (append_assoc kept fresh (o ∷ [])) in
    let absent : has_object (kept ++ fresh) (object_name o) ≡ false = so_far.known (object_name o) ∙ has_none (kept ++ take i pack) (object_name o) none in
    record {
      apart = subst HasNoCollision (sym more) (new_apart (kept ++ take i pack) o so_far.apart none);
      known = λ id.
          ap (λ os. has_object os id) longer
          ∙ has_push (kept ++ fresh) o id
          ∙ ap (λ b. b || (same_id id (object_name o) || false)) (so_far.known id)
          ∙ sym (has_push (kept ++ take i pack) o id)
          ∙ ap (λ os. has_object os id) (sym more);
      added =
          ap (λ os. with_pack os (drop (i + 1) pack)) longer
          ∙ ap (λ b. with_pack (cond b (kept ++ fresh) ((kept ++ fresh) ++ o ∷ [])) (drop (i + 1) pack)) (sym absent)
          ∙ ap (with_pack (kept ++ fresh)) (sym (one_left pack i o below is))
          ∙ so_far.added;
    }

-- the objects gone through, and all
pub among : (kept pack : List Content) (i p : ℕ) → p < length kept + i → slice_get (kept ++ take i pack) p ≡ slice_get (kept ++ pack) p
among kept pack i p below = ap (λ os. slice_get os p) (sym (take-append-add kept pack i)) ∙ slice_get_take (length kept + i) (kept ++ pack) p below

before_given : (kept pack : List Content) (i p : ℕ) (id : ObjectId) → i < length pack → place_of (kept ++ take i pack) id ≡ Some p → (d : Content) → p < length kept + i
before_given kept pack i p id below some d = omega (arith, (place_there (kept ++ take i pack) id p d some).0, length-append kept (take i pack), length-take i pack, below)

pub so_far_old : (kept pack fresh : List Content) (i p : ℕ) (o : Content) → i < length pack → o ≡ get_or pack i o → place_of (kept ++ take i pack) (object_name o) ≡ Some p → slice_get (kept ++ pack) p ≡ Some o → SoFar kept pack fresh i → SoFar kept pack fresh (i + 1)
so_far_old kept pack fresh i p o below is some there so_far =
    let more = one_more kept pack i o below is in
    let present : has_object (kept ++ fresh) (object_name o) ≡ true = so_far.known (object_name o) ∙ has_some (kept ++ take i pack) (object_name o) p some in
    let here = among kept pack i p (before_given kept pack i p (object_name o) below some o) ∙ there in
    record {
      apart = subst HasNoCollision (sym more) (old_apart (kept ++ take i pack) o p so_far.apart some here);
      known = λ id. so_far.known id ∙ same_more id (same_id id (object_name o)) refl ∙ sym (has_push (kept ++ take i pack) o id) ∙ ap (λ os. has_object os id) (sym more);
      added =
          ap (λ b. with_pack (cond b (kept ++ fresh) ((kept ++ fresh) ++ o ∷ [])) (drop (i + 1) pack)) (sym present)
          ∙ ap (with_pack (kept ++ fresh)) (sym (one_left pack i o below is))
          ∙ so_far.added;
    }
  where
    same_more : (id : ObjectId) (b : Bool) → same_id id (object_name o) ≡ b → has_object (kept ++ take i pack) id ≡ (has_object (kept ++ take i pack) id || (same_id id (object_name o) || false))
    same_more id true e =
        let named = id_is id (object_name o) e in
        let yes : has_object (kept ++ take i pack) id ≡ true = ap (has_object (kept ++ take i pack)) named ∙ has_some (kept ++ take i pack) (object_name o) p some in
        yes ∙ ap (λ b. b || (same_id id (object_name o) || false)) (sym yes)
    same_more id false e =
        elim (has_object (kept ++ take i pack) id) as (λ h. h ≡ (h || (false || false))) [ true ↦ refl | false ↦ refl ]
        ∙ ap (λ b. has_object (kept ++ take i pack) id || (b || false)) (sym e)

pub so_far_differs : (kept pack fresh : List Content) (i p : ℕ) (o b : Content) → i < length pack → o ≡ get_or pack i o → place_of (kept ++ take i pack) (object_name o) ≡ Some p → slice_get (kept ++ pack) p ≡ Some b → ¬ (o ≡ b) → SoFar kept pack fresh i → IsFirstCollision (kept ++ pack) (object_name o) p (length kept + i)
so_far_differs kept pack fresh i p o b below is some there differ so_far =
    let before = before_given kept pack i p (object_name o) below some o in
    let here : get_or (kept ++ take i pack) p o ≡ b = get_or_from_slice_get (kept ++ take i pack) p b o (among kept pack i p before ∙ there) in
    record {
      old = b;
      new = o;
      before = before;
      kept_is = there;
      given_is = get_behind kept pack i ∙ slice_get-get_or pack i o below ∙ ap Some (sym is);
      old_name = ap object_name (sym here) ∙ sym (id_is (object_name o) _ (place_there (kept ++ take i pack) (object_name o) p o some).1);
      new_name = refl;
      differ = differ;
      first = subst HasNoCollision (sym (take-append-add kept pack i)) so_far.apart;
    }

pub so_far_all : (kept pack fresh : List Content) (i : ℕ) → length pack ≤ i → SoFar kept pack fresh i → HasNoCollision (kept ++ pack) × (with_pack kept pack ≡ kept ++ fresh)
so_far_all kept pack fresh i past so_far = (
  subst HasNoCollision (ap (λ os. kept ++ os) (take_all i pack past)) so_far.apart,
  sym so_far.added ∙ ap (with_pack (kept ++ fresh)) (drop_all i pack past),
)

-- where a name stands among what was gone through
pub place_so_far : (lens kept pack : List Content) (n i : ℕ) (id : ObjectId) → lens ≡ kept ++ pack → n ≡ length kept + i → place_of (take n lens) id ≡ place_of (kept ++ take i pack) id
place_so_far lens kept pack n i id lens_is n_is =
    ap (λ os. place_of (take n os) id) lens_is ∙ ap (λ k. place_of (take k (kept ++ pack)) id) n_is ∙ ap (λ os. place_of os id) (take-append-add kept pack i)

abbrev Apart : Content → Content → Type 0
Apart a b = ¬ (object_name b ≡ object_name a)

lacks : (xs : List Content) (id : ObjectId) → has_object xs id ≡ false → place_of xs id ≡ None
lacks xs id is = by_place (place_of xs id) refl
  where
    by_place : (p : Option ℕ) → place_of xs id ≡ p → place_of xs id ≡ None
    by_place None e = e
    by_place (Some i) e = let yes = has_some xs id i e in absurd (cc (yes, is))

once_more : (xs : List Content) (o : Content) → HasNamesOnce xs → has_object xs (object_name o) ≡ false → HasNamesOnce (xs ++ o ∷ [])
once_more xs o once is = all_pairs_push Apart xs o once (λ k d below same.
    let other = place_none xs (object_name o) (lacks xs (object_name o) is) k d below in
    let itself = ap (same_id (object_name o)) same in
    let yes = id_itself (object_name o) in
    cc (other, itself, yes))

-- a repository has each name once after a pack too
pub once-with_pack : (objects pack : List Content) → HasNamesOnce objects → HasNamesOnce (with_pack objects pack)
once-with_pack objects [] once = once
once-with_pack objects (o ∷ os) once =
    once-with_pack (cond (has_object objects (object_name o)) objects (objects ++ o ∷ [])) os (chosen (has_object objects (object_name o)) refl)
  where
    chosen : (b : Bool) → has_object objects (object_name o) ≡ b → HasNamesOnce (cond b objects (objects ++ o ∷ []))
    chosen true is = once
    chosen false is = once_more objects o once is
