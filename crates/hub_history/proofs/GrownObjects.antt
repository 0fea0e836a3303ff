-- What is whole in some objects stays whole as they grow.
use Rattle.std.proofs.Common.{◌≡◌, List, [], ◌∷◌, ◌++◌, refl, sym, ◌∙◌, ap, subst, T, Bool, true, false, ◌||◌, ◌&&◌, not, cond, map, append_assoc, append-nil, Contains, filter}
use Rattle.std.specs.Prelude.{Option, Some, None, is_none}
use Rattle.std.specs.List.{list_any}
use Rattle.std.specs.Option.{option_map_or}
use Rattle.git_object.specs.Content.{Content}
use Rattle.git_object.specs.Object.{object_name, links_of}
use Rattle.git_object.specs.declared.kind.Kind.{Kind}
use Rattle.git_object.specs.declared.object_id.ObjectId.{ObjectId}
use Rattle.ref_store.specs.Objects.{same_id, has_object, first_named, with_pack}
use Rattle.ref_store.proofs.ObjectLemmas.{id_is, id_itself, first_kept, first_behind}
use Rattle.ancestry.specs.Order.{least, IsLeast}
use Rattle.ancestry.specs.Walk.{Want, IsMet, Root, Link, wanted_by, met, suits}
use Rattle.ancestry.specs.Wholeness.{is_missing, is_wrong, missing, wrong}
use Rattle.ancestry.proofs.ListLemmas.{contains_any}
use Rattle.ancestry.proofs.WalkLemmas.{found_there, least_met}
use Rattle.hub_history.specs.Collision.{same_object, collides, collision}
use Rattle.hub_history.proofs.CollisionLemmas.{object_is}

-- all that the id leads to is there and of the kinds wanted
abbrev pub IsWhole : List Content → ObjectId → Option Kind → Type 0
IsWhole objects root kind = (missing objects root kind ≡ None) × (wrong objects root kind ≡ None)

-- what the one has first of a name, the other has first of it
abbrev pub Extends : List Content → List Content → Type 0
Extends small large = (id : ObjectId) (o : Content) → first_named small id ≡ Some o → first_named large id ≡ Some o

no_least : (P : ObjectId → Type 0) (o : Option ObjectId) → IsLeast P o → ((id : ObjectId) → ¬ P id) → o ≡ None
no_least P None is none = refl
no_least P (Some id) is none = absurd (none id is.0)

there_unless_missing : (objects : List Content) (want : Want) → ¬ (is_missing objects want ≡ true) → (o : Content) × (first_named objects want.0 ≡ Some o)
there_unless_missing objects want there = by_find (first_named objects want.0) refl
  where
    by_find : (f : Option Content) → first_named objects want.0 ≡ f → (o : Content) × (first_named objects want.0 ≡ Some o)
    by_find None e = absurd (there (ap is_none e))
    by_find (Some o) e = (o, e)

module _ (small large : List Content) (extends : Extends small large) (root : ObjectId) (kind : Option Kind) where
  -- where no least passes a test, nothing that is met does
  none_passes : (test : Want → Bool) → least (map (λ want. want.0) (filter test (met small root kind))) ≡ None → (want : Want) → IsMet small root kind want → ¬ (test want ≡ true)
  none_passes test none want is passes = subst (IsLeast (λ id. (wanted : Option Kind) × IsMet small root kind (id, wanted) × (test (id, wanted) ≡ true))) none (least_met small root kind test) want.0 (want.1, is, passes)

  met_there : missing small root kind ≡ None → (want : Want) → IsMet small root kind want → (o : Content) × (first_named small want.0 ≡ Some o)
  met_there none want is = there_unless_missing small want (none_passes (is_missing small) none want is)

  -- both have first the same object
  met_same : missing small root kind ≡ None → (want : Want) → IsMet small root kind want → first_named large want.0 ≡ first_named small want.0
  met_same none want is = let there = met_there none want is in extends want.0 there.0 there.1 ∙ sym there.1

  -- what is met among more objects is met among the fewer
  met_back : missing small root kind ≡ None → (want : Want) → IsMet large root kind want → IsMet small root kind want
  met_back none want Root = Root
  met_back none want (Link from to is link) =
      let before = met_back none from is in
      Link from to before (subst (λ (f : Option Content). Contains (option_map_or (λ o. wanted_by (links_of o.kind o.body)) f []) to) (met_same none from before) link)

  none_among : (test wider : Want → Bool) → missing small root kind ≡ None → ((want : Want) → first_named large want.0 ≡ first_named small want.0 → wider want ≡ test want)
      → least (map (λ want. want.0) (filter test (met small root kind))) ≡ None → least (map (λ want. want.0) (filter wider (met large root kind))) ≡ None
  none_among test wider there alike none =
      no_least _ (least (map (λ want. want.0) (filter wider (met large root kind)))) (least_met large root kind wider) (λ id found.
      let before = met_back there (id, found.0) found.1 in
      none_passes test none (id, found.0) before (sym (alike (id, found.0) (met_same there (id, found.0) before)) ∙ found.2))

  pub whole_grows : IsWhole small root kind → IsWhole large root kind
  whole_grows whole = (
    none_among (is_missing small) (is_missing large) whole.0 (λ want same. ap is_none same) whole.0,
    none_among (is_wrong small) (is_wrong large) whole.0 (λ want same. ap (λ (f : Option Content). option_map_or (λ o. not (suits want.1 o.kind)) f false) same) whole.1,
  )

-- a name that is there has a first object
has_first : (xs : List Content) (id : ObjectId) → has_object xs id ≡ true → first_named xs id ≡ None → ⊥
has_first [] id has none = cc
has_first (x ∷ xs) id has none = by_test (same_id id (object_name x)) has none (has_first xs id)
  where
    by_test : (b : Bool) → (b || has_object xs id) ≡ true → cond b (Some x) (first_named xs id) ≡ None → (has_object xs id ≡ true → first_named xs id ≡ None → ⊥) → ⊥
    by_test true has none rest = cc
    by_test false has none rest = rest has none

-- an object whose name is there changes no first one
first-skip : (xs : List Content) (o : Content) (os : List Content) (id : ObjectId) → has_object xs (object_name o) ≡ true → first_named (xs ++ os) id ≡ first_named (xs ++ o ∷ os) id
first-skip xs o os id has = by_find (first_named xs id) refl
  where
    by_test : (b : Bool) → same_id id (object_name o) ≡ b → first_named xs id ≡ None → first_named os id ≡ cond b (Some o) (first_named os id)
    by_test true same none = absurd (has_first xs (object_name o) has (ap (first_named xs) (sym (id_is id (object_name o) same)) ∙ none))
    by_test false other none = refl

    by_find : (f : Option Content) → first_named xs id ≡ f → first_named (xs ++ os) id ≡ first_named (xs ++ o ∷ os) id
    by_find None none = first_behind xs os id none ∙ by_test (same_id id (object_name o)) refl none ∙ sym (first_behind xs (o ∷ os) id none)
    by_find (Some p) is = first_kept xs os id p is ∙ sym (first_kept xs (o ∷ os) id p is)

-- with a pack, each name has first what it has where the pack is put behind
first-with_pack : (xs pack : List Content) (id : ObjectId) → first_named (with_pack xs pack) id ≡ first_named (xs ++ pack) id
first-with_pack xs [] id = ap (λ os. first_named os id) (sym (append-nil xs))
first-with_pack xs (o ∷ os) id = by_test (has_object xs (object_name o)) refl (first-with_pack xs os id) (first-with_pack (xs ++ o ∷ []) os id)
  where
    by_test : (b : Bool) → has_object xs (object_name o) ≡ b → first_named (with_pack xs os) id ≡ first_named (xs ++ os) id → first_named (with_pack (xs ++ o ∷ []) os) id ≡ first_named ((xs ++ o ∷ []) ++ os) id
        → first_named (with_pack (cond b xs (xs ++ o ∷ [])) os) id ≡ first_named (xs ++ o ∷ os) id
    by_test true has skipped put = skipped ∙ first-skip xs o os id has
    by_test false has skipped put = put ∙ ap (λ l. first_named l id) (append_assoc xs (o ∷ []) os)

-- a pack puts objects behind
pub with_pack-more : (xs pack : List Content) → (more : List Content) × (with_pack xs pack ≡ xs ++ more)
with_pack-more xs [] = ([], sym (append-nil xs))
with_pack-more xs (o ∷ os) = by_test (has_object xs (object_name o)) (with_pack-more xs os) (with_pack-more (xs ++ o ∷ []) os)
  where
    by_test : (b : Bool) → (more : List Content) × (with_pack xs os ≡ xs ++ more) → (more : List Content) × (with_pack (xs ++ o ∷ []) os ≡ (xs ++ o ∷ []) ++ more)
        → (more : List Content) × (with_pack (cond b xs (xs ++ o ∷ [])) os ≡ xs ++ more)
    by_test true skipped put = skipped
    by_test false skipped put = (o ∷ put.0, put.1 ∙ append_assoc xs (o ∷ []) put.0)

-- two of one name that don't collide are the same
fits_same : (new old : Content) → collides new old ≡ false → object_name new ≡ object_name old → new ≡ old
fits_same new old fits same = by_test (same_object new old) refl (ap (λ b. b && not (same_object new old)) (sym (ap (same_id (object_name new)) (sym same) ∙ id_itself (object_name new))) ∙ fits)
  where
    by_test : (b : Bool) → same_object new old ≡ b → not (same_object new old) ≡ false → new ≡ old
    by_test true is none = object_is new old is
    by_test false is none = absurd (subst T (ap not (sym is) ∙ none) tt)

none_of_any : (p : Content → Bool) (xs : List Content) (x : Content) → list_any p xs ≡ false → Contains xs x → p x ≡ false
none_of_any p xs x none is = by_test (p x) refl
  where
    by_test : (b : Bool) → p x ≡ b → p x ≡ false
    by_test true passes = absurd (subst T (sym (contains_any p xs x is passes) ∙ none) tt)
    by_test false fails = fails

not_chosen : (b : Bool) (id : ObjectId) (rest : Option ObjectId) → cond b (Some id) rest ≡ None → (b ≡ false) × (rest ≡ None)
not_chosen true id rest is = cc
not_chosen false id rest is = (refl, is)

-- where a pack has no collision, what it has first of a name is what is there of it
no_collision_same : (before pack : List Content) (id : ObjectId) (a b : Content) → collision before pack ≡ None → first_named before id ≡ Some a → first_named pack id ≡ Some b → a ≡ b
no_collision_same before [] id a b apart old new = cc
no_collision_same before (o ∷ os) id a b apart old new =
    let parts = not_chosen (list_any (collides o) before) (object_name o) (collision (before ++ o ∷ []) os) apart in
    by_test parts.0 (same_id id (object_name o)) refl new (no_collision_same (before ++ o ∷ []) os id a b parts.1 (first_kept before (o ∷ []) id a old))
  where
    by_test : list_any (collides o) before ≡ false → (t : Bool) → same_id id (object_name o) ≡ t → cond t (Some o) (first_named os id) ≡ Some b → (first_named os id ≡ Some b → a ≡ b) → a ≡ b
    by_test none true same is rest =
        let found = found_there before id a old in
        let given : o ≡ b = cc in
        sym (fits_same o a (none_of_any (collides o) before a none found.0) (sym (id_is id (object_name o) same) ∙ found.1)) ∙ given
    by_test none false other is rest = rest is

pub extends_pack : (now pack : List Content) → Extends now (with_pack now pack)
extends_pack now pack id o is = first-with_pack now pack id ∙ first_kept now pack id o is

-- what is first in a beginning with a pack is first in all with that pack, where it has no collision
pub extends_beginning : (old more pack : List Content) → collision (old ++ more) pack ≡ None → Extends (old ++ pack) (with_pack (old ++ more) pack)
extends_beginning old more pack apart id o is = first-with_pack (old ++ more) pack id ∙ by_old (first_named old id) refl
  where
    by_now : first_named pack id ≡ Some o → (f : Option Content) → first_named (old ++ more) id ≡ f → first_named ((old ++ more) ++ pack) id ≡ Some o
    by_now given None none = first_behind (old ++ more) pack id none ∙ given
    by_now given (Some a) there = first_kept (old ++ more) pack id a there ∙ ap (λ (c : Content). Some c) (no_collision_same (old ++ more) pack id a o apart there given)

    by_old : (f : Option Content) → first_named old id ≡ f → first_named ((old ++ more) ++ pack) id ≡ Some o
    by_old None none = by_now (sym (first_behind old pack id none) ∙ is) (first_named (old ++ more) id) refl
    by_old (Some a) there = first_kept (old ++ more) pack id a (first_kept old more id a there) ∙ sym (first_kept old pack id a there) ∙ is
