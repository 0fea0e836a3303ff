-- The ids of an advertisement.
use Rattle.std.proofs.Common.{◌≡◌, Bool, true, false, cond, ◌||◌, List, [], ◌∷◌, ◌++◌, length, map, not, Option, None, Some, arith, refl, sym, ◌∙◌, ap, subst}
use Rattle.std.proofs.lemmas.List.{map-append}
use Rattle.std.proofs.lemmas.List.Folds.{list_any-append}
use Rattle.std.proofs.Math.Bool.{or_assoc}
use Rattle.std.specs.List.{find as find_in, flat_map, list_any}
use Rattle.std.specs.Option.{option_map, option_to_list}
use Rattle.std.specs.FinMap.{entries, find, get, get-entries}
use Rattle.std.specs.Ordering.{eq_by_cmp, nat_cmp}
use Rattle.std.specs.Cmp.Lexicographic.{slice_cmp}
use Rattle.git_object.specs.Content.{Content}
use Rattle.git_object.specs.declared.object_id.ObjectId.{ObjectId}
use Rattle.ref_store.specs.Objects.{same_id}
use Rattle.ref_store.specs.Refs.{Name}
use Rattle.ref_store.specs.Store.{Store}
use Rattle.ref_store.proofs.ObjectLemmas.{id_is, id_itself}
use Rattle.upload_pack.specs.Advertising.{advertised_ids, head, head_branch, ids_of, peeled, peeled_ref, with_peeled}
use Rattle.upload_pack.specs.Wants.{first_foreign}

-- ---- tests

or_none : (a : Bool) → (a || false) ≡ a
or_none true = refl
or_none false = refl

or_both : (a b : Bool) → (b ≡ true → a ≡ true) → (a || b) ≡ a
or_both true b given = refl
or_both false true given = sym (given refl)
or_both false false given = refl

or_right : (a b : Bool) → b ≡ true → (a || b) ≡ true
or_right true b is = refl
or_right false b is = is

-- the first says no more than the second
or_same : (a b : Bool) → (a ≡ true → b ≡ true) → (a || b) ≡ b
or_same true b given = sym (given refl)
or_same false b given = refl

-- ---- a set of ids

-- an id that is put in
abbrev pub put : List ObjectId → ObjectId → List ObjectId
put ids new = cond (list_any (same_id new) ids) ids (ids ++ new ∷ [])

any_same : (ids : List ObjectId) (new other : ObjectId) → list_any (same_id new) ids ≡ true → same_id other new ≡ true → list_any (same_id other) ids ≡ true
any_same ids new other there same = subst (λ (id : ObjectId). list_any (same_id id) ids ≡ true) (sym (id_is other new same)) there

pub any_put : (ids : List ObjectId) (new other : ObjectId) → list_any (same_id other) (put ids new) ≡ (list_any (same_id other) ids || same_id other new)
any_put ids new other = by_test (list_any (same_id new) ids) refl
  where
    by_test : (b : Bool) → list_any (same_id new) ids ≡ b → list_any (same_id other) (cond b ids (ids ++ new ∷ [])) ≡ (list_any (same_id other) ids || same_id other new)
    by_test true there = sym (or_both (list_any (same_id other) ids) (same_id other new) (any_same ids new other there))
    by_test false there = list_any-append (same_id other) ids (new ∷ []) ∙ ap (λ (b : Bool). list_any (same_id other) ids || b) (or_none (same_id other new))

-- the same of what a set has afterwards
pub any_inserted : (old new : List ObjectId) (id other : ObjectId) → new ≡ cond (list_any (same_id id) old) old (old ++ id ∷ []) → list_any (same_id other) new ≡ (list_any (same_id other) old || same_id other id)
any_inserted old new id other is = ap (list_any (same_id other)) is ∙ any_put old id other

-- ---- the ids of refs

module _ (objects : List Content) where
  abbrev pub of_ref : Name × ObjectId → List ObjectId
  of_ref ref = ids_of objects ref.1

  unfoldable pub ids_left : List (Name × ObjectId) → List ObjectId
  ids_left refs = flat_map of_ref refs

  pub ids_none : ids_left [] ≡ []
  unfolding ids_left
  ids_none = refl

  pub any_more : (other : ObjectId) (ref : Name × ObjectId) (refs : List (Name × ObjectId)) → list_any (same_id other) (ids_left (ref ∷ refs)) ≡ (list_any (same_id other) (ids_of objects ref.1) || list_any (same_id other) (ids_left refs))
  unfolding ids_left
  any_more other ref refs = list_any-append (same_id other) (ids_of objects ref.1) (flat_map of_ref refs)

  peeled_ids : (name : Name) (found : Option ObjectId) → map (λ (r : Name × ObjectId). r.1) (peeled_ref name found) ≡ option_to_list found
  peeled_ids name None = refl
  peeled_ids name (Some id) = refl

  ids_are : (refs : List (Name × ObjectId)) → map (λ (r : Name × ObjectId). r.1) (flat_map (with_peeled objects) refs) ≡ ids_left refs
  unfolding ids_left
  ids_are [] = refl
  ids_are (ref ∷ refs) =
      map-append (λ (r : Name × ObjectId). r.1) (with_peeled objects ref) (flat_map (with_peeled objects) refs)
      ∙ ap (λ (ids : List ObjectId). (ref.1 ∷ ids) ++ map (λ (r : Name × ObjectId). r.1) (flat_map (with_peeled objects) refs)) (peeled_ids ref.0 (peeled objects ref.1))
      ∙ ap (λ (ids : List ObjectId). ids_of objects ref.1 ++ ids) (ids_are refs)

  -- a ref's value is among them
  of_value : (name : Name) (refs : List (Name × ObjectId)) (id : ObjectId) → find (slice_cmp nat_cmp) name refs ≡ Some id → list_any (same_id id) (ids_left refs) ≡ true
  of_value name [] id is = absurd cc
  of_value name (ref ∷ refs) id is = by_test (eq_by_cmp (slice_cmp nat_cmp) name ref.0) is (of_value name refs id)
    where
      by_test : (b : Bool) → cond b (Some ref.1) (find (slice_cmp nat_cmp) name refs) ≡ Some id → (find (slice_cmp nat_cmp) name refs ≡ Some id → list_any (same_id id) (ids_left refs) ≡ true) → list_any (same_id id) (ids_left (ref ∷ refs)) ≡ true
      by_test true found later =
          let same : ref.1 ≡ id = cc in
          any_more id ref refs ∙ ap (λ (b : Bool). (b || list_any (same_id id) (option_to_list (peeled objects ref.1))) || list_any (same_id id) (ids_left refs)) (ap (same_id id) same ∙ id_itself id)
      by_test false found later = any_more id ref refs ∙ or_right (list_any (same_id id) (ids_of objects ref.1)) (list_any (same_id id) (ids_left refs)) (later found)

-- ---- all of them

head_ids : (branch : Option ObjectId) → map (λ (r : Name × ObjectId). r.1) (head branch) ≡ option_to_list branch
head_ids None = refl
head_ids (Some id) = refl

any_head : (branch : Option ObjectId) (all : List ObjectId) (other : ObjectId) → ((id : ObjectId) → branch ≡ Some id → list_any (same_id id) all ≡ true) → list_any (same_id other) (option_to_list branch ++ all) ≡ list_any (same_id other) all
any_head None all other there = refl
any_head (Some id) all other there = or_same (same_id other id) (list_any (same_id other) all) (λ same. subst (λ (i : ObjectId). list_any (same_id i) all ≡ true) (sym (id_is other id same)) (there id refl))

-- `HEAD` has the id of its branch
pub any_ours : (store : Store) (other : ObjectId) → list_any (same_id other) (ids_left store.objects (entries store.refs)) ≡ list_any (same_id other) (advertised_ids store)
any_ours store other = sym (ap (list_any (same_id other)) split ∙ any_head branch all other (λ id is. of_value store.objects head_branch (entries store.refs) id (sym (get-entries store.refs head_branch) ∙ is)))
  where
    branch : Option ObjectId
    branch = get store.refs head_branch

    all : List ObjectId
    all = ids_left store.objects (entries store.refs)

    split : advertised_ids store ≡ option_to_list branch ++ all
    split =
        map-append (λ (r : Name × ObjectId). r.1) (head branch) (flat_map (with_peeled store.objects) (entries store.refs))
        ∙ ap (λ (ids : List ObjectId). ids ++ map (λ (r : Name × ObjectId). r.1) (flat_map (with_peeled store.objects) (entries store.refs))) (head_ids branch)
        ∙ ap (λ (ids : List ObjectId). option_to_list branch ++ ids) (ids_are store.objects (entries store.refs))

-- ---- a set that is made of them

-- before a ref's ids are put in, and after
pub any_put_more : (objects : List Content) (other : ObjectId) (old new : List ObjectId) (ref : Name × ObjectId) (refs left : List (Name × ObjectId))
    → list_any (same_id other) new ≡ (list_any (same_id other) old || list_any (same_id other) (ids_of objects ref.1)) → left ≡ ref ∷ refs
    → (list_any (same_id other) new || list_any (same_id other) (ids_left objects refs)) ≡ (list_any (same_id other) old || list_any (same_id other) (ids_left objects left))
any_put_more objects other old new ref refs left is steps =
    ap (λ (b : Bool). b || list_any (same_id other) (ids_left objects refs)) is
    ∙ or_assoc (list_any (same_id other) old) (list_any (same_id other) (ids_of objects ref.1)) (list_any (same_id other) (ids_left objects refs))
    ∙ ap (λ (b : Bool). list_any (same_id other) old || b) (sym (ap (λ (rs : List (Name × ObjectId)). list_any (same_id other) (ids_left objects rs)) steps ∙ any_more objects other ref refs))

pub any_put_all : (objects : List Content) (other : ObjectId) (ids : List ObjectId) (left : List (Name × ObjectId)) → left ≡ [] → (list_any (same_id other) ids || list_any (same_id other) (ids_left objects left)) ≡ list_any (same_id other) ids
any_put_all objects other ids left none = ap (λ (rs : List (Name × ObjectId)). list_any (same_id other) ids || list_any (same_id other) (ids_left objects rs)) none ∙ ap (λ (l : List ObjectId). list_any (same_id other) ids || list_any (same_id other) l) (ids_none objects) ∙ or_none (list_any (same_id other) ids)

-- ---- a look-up of each want

pub found_as : (found : Option ObjectId) (ids ours wants : List ObjectId) → ((id : ObjectId) → list_any (same_id id) ids ≡ list_any (same_id id) ours)
    → option_map (λ (id : ObjectId). id) found ≡ find_in (λ (id : ObjectId). not (list_any (same_id id) ids)) wants → found ≡ first_foreign ours wants
found_as found ids ours wants same is = sym (mapped found) ∙ is ∙ (λ i. find_in (λ id. not (same id i)) wants)
  where
    mapped : (o : Option ObjectId) → option_map (λ (id : ObjectId). id) o ≡ o
    mapped None = refl
    mapped (Some id) = refl

no_items : {X : Type 0} (xs : List X) → length xs ≡ 0 → xs ≡ []
no_items [] none = refl
no_items (x ∷ xs) none = absurd (omega (arith, none))

-- a set is begun
pub any_begun : (store : Store) (other : ObjectId) (ids : List ObjectId) (left : List (Name × ObjectId)) → length ids ≡ 0 → left ≡ entries store.refs
    → (list_any (same_id other) ids || list_any (same_id other) (ids_left store.objects left)) ≡ list_any (same_id other) (advertised_ids store)
any_begun store other ids left none all =
    ap (λ (l : List ObjectId). list_any (same_id other) l || list_any (same_id other) (ids_left store.objects left)) (no_items ids none)
    ∙ ap (λ (rs : List (Name × ObjectId)). list_any (same_id other) (ids_left store.objects rs)) all
    ∙ any_ours store other
