-- Names that are inserted once, and the walk that goes along them.
use Rattle.std.proofs.Common.{◌≡◌, ℕ, ◌+◌, ◌<◌, ◌≤◌, inl, inr, Bool, true, List, [], ◌∷◌, ◌++◌, length, take, get_or, Some, Contains, sym, ◌∙◌, ap, subst, arith, append-nil, append_assoc}
use Rattle.std.specs.Prelude.{slice_get}
use Rattle.std.specs.List.{list_any}
use Rattle.std.proofs.lemmas.List.{take_more, take_all, take-append-le}
use Rattle.std.proofs.lemmas.List.Elements.{Contains-push_cases, Contains-append_left, Contains-append_right, Contains-append_cases}
use Rattle.std.proofs.lemmas.Option.{get_or_from_slice_get}
use Rattle.git_object.specs.declared.object_id.ObjectId.{ObjectId}
use Rattle.ref_store.specs.Objects.{same_id}
use Rattle.ref_store.proofs.ObjectLemmas.{id_is, id_itself}
use Rattle.ancestry.proofs.ListLemmas.{contains_none, contains_here, contains_one, any_contains, contains_any}
use Rattle.ancestry.proofs.SeenLemmas.{put, put_adds, put_there, put_only}
use Rattle.ancestry.specs.IdSet.{Adds}
use Rattle.ancestry.specs.Reached.{IsReached, Root, Next}

-- ---- adding ids

pub adds_none : (known : List ObjectId) → Adds known known []
adds_none known = record { grows = ([], sym (append-nil known)); there = λ id c. absurd (contains_none id c); only = λ id c. inl c }

pub adds_one : (known new : List ObjectId) (id : ObjectId) → new ≡ put known id → Adds known new (id ∷ [])
adds_one known new id is = record {
  grows = let more = put_adds known id in (more.0, is ∙ more.1);
  there = λ other c. subst (λ (ids : List ObjectId). Contains ids other) (sym is) (subst (λ (i : ObjectId). Contains (put known id) i) (contains_one id other c) (put_there known id));
  only = λ other c. elim (put_only known id other (subst (λ (ids : List ObjectId). Contains ids other) is c)) [
    | inl before ↦ inl before
    | inr same ↦ inr (subst (λ (i : ObjectId). Contains (id ∷ []) i) same (contains_here id []))
  ];
}

pub adds_both : (a b c xs ys : List ObjectId) → Adds a b xs → Adds b c ys → Adds a c (xs ++ ys)
adds_both a b c xs ys one two = record {
  grows = (one.grows.0 ++ two.grows.0, two.grows.1 ∙ ap (λ (ids : List ObjectId). ids ++ two.grows.0) one.grows.1 ∙ append_assoc a one.grows.0 two.grows.0);
  there = λ id c1. elim (Contains-append_cases xs ys id c1) [
    | inl first ↦ subst (λ (ids : List ObjectId). Contains ids id) (sym two.grows.1) (Contains-append_left b two.grows.0 id (one.there id first))
    | inr second ↦ two.there id second
  ];
  only = λ id c1. elim (two.only id c1) [
    | inl before ↦ elim (one.only id before) [ inl first ↦ inl first | inr among ↦ inr (Contains-append_left xs ys id among) ]
    | inr among ↦ inr (Contains-append_right xs ys id among)
  ];
}

pub adds_more : (a b c xs all : List ObjectId) (id : ObjectId) → Adds a b xs → Adds b c (id ∷ []) → xs ++ id ∷ [] ≡ all → Adds a c all
adds_more a b c xs all id one two is = subst (λ (ids : List ObjectId). Adds a c ids) is (adds_both a b c xs (id ∷ []) one two)

-- ---- the walk

module _ (next : ObjectId → List ObjectId) (roots : List ObjectId) where
  -- what is known is reached, and the first so many were entered
  pub record Walking (known : List ObjectId) (at : ℕ) : Type 0 where
    pub met : (id : ObjectId) → Contains known id → IsReached next roots id
    pub begun : (id : ObjectId) → Contains roots id → Contains known id
    pub entered : (id to : ObjectId) → Contains (take at known) id → Contains (next id) to → Contains known to

  pub walk_begins : (before known : List ObjectId) → before ≡ [] → Adds before known roots → Walking known 0
  walk_begins before known none adds = record {
    met = λ id c. elim (adds.only id c) [
      | inl was ↦ absurd (contains_none id (subst (λ (ids : List ObjectId). Contains ids id) none was))
      | inr root ↦ Root id root
    ];
    begun = adds.there;
    entered = λ id to c link. absurd (contains_none id c);
  }

  pub walk_goes_on : (known new : List ObjectId) (at : ℕ) (id : ObjectId) → Walking known at → slice_get known at ≡ Some id → at < length known → Adds known new (next id) → Walking new (at + 1)
  walk_goes_on known new at id walking is below adds = record {
    met = λ other c. elim (adds.only other c) [ inl was ↦ walking.met other was | inr link ↦ Next id other (walking.met id here) link ];
    begun = λ other c. still other (walking.begun other c);
    entered = λ other to c link. elim (Contains-push_cases (take at known) id other (subst (λ (ids : List ObjectId). Contains ids other) more c)) [
      | inl before ↦ still to (walking.entered other to before link)
      | inr same ↦ adds.there to (subst (λ (i : ObjectId). Contains (next i) to) (sym same) link)
    ];
  }
    where
      at_next : get_or known at id ≡ id
      at_next = get_or_from_slice_get known at id id is

      here : Contains known id
      here = (at, below, at_next)

      still : (other : ObjectId) → Contains known other → Contains new other
      still other c = subst (λ (ids : List ObjectId). Contains ids other) (sym adds.grows.1) (Contains-append_left known adds.grows.0 other c)

      more : take (at + 1) new ≡ take at known ++ id ∷ []
      more =
          ap (take (at + 1)) adds.grows.1
          ∙ take-append-le (at + 1) known adds.grows.0 (omega (arith, below))
          ∙ take_more known at id below
          ∙ ap (λ i. take at known ++ i ∷ []) at_next

  all_known : (known : List ObjectId) (at : ℕ) → Walking known at → length known ≤ at → (id : ObjectId) → IsReached next roots id → Contains known id
  all_known known at walking past id (Root root c) = walking.begun root c
  all_known known at walking past id (Next from to is link) =
      walking.entered from to (subst (λ (ids : List ObjectId). Contains ids from) (sym (take_all at known past)) (all_known known at walking past from is)) link

  pub walk_ends : (known : List ObjectId) (at : ℕ) → Walking known at → length known ≤ at → (id : ObjectId) → (Contains known id → IsReached next roots id) × (IsReached next roots id → Contains known id)
  walk_ends known at walking past id = (walking.met id, all_known known at walking past id)

-- whether an id is known
pub has_iff : (ids : List ObjectId) (id : ObjectId) (b : Bool) → b ≡ list_any (same_id id) ids → (b ≡ true → Contains ids id) × (Contains ids id → b ≡ true)
has_iff ids id b is = (
  λ h. let found = any_contains (same_id id) ids (sym is ∙ h) in subst (λ (i : ObjectId). Contains ids i) (sym (id_is id found.0 found.2)) found.1,
  λ c. is ∙ contains_any (same_id id) ids id c (id_itself id),
)

-- what a walk that stopped at a name had entered before
pub unmet_more : (known new : List ObjectId) (at : ℕ) (id wanted : ObjectId) → slice_get known at ≡ Some id → at < length known → (more : List ObjectId) × (new ≡ known ++ more) → ¬ (id ≡ wanted) → ¬ Contains (take at known) wanted → ¬ Contains (take (at + 1) new) wanted
unmet_more known new at id wanted is below grows other unmet c = elim (Contains-push_cases (take at known) id wanted (subst (λ (ids : List ObjectId). Contains ids wanted) more c)) [
  | inl before ↦ unmet before
  | inr same ↦ other same
]
  where
    more : take (at + 1) new ≡ take at known ++ id ∷ []
    more =
        ap (take (at + 1)) grows.1
        ∙ take-append-le (at + 1) known grows.0 (omega (arith, below))
        ∙ take_more known at id below
        ∙ ap (λ i. take at known ++ i ∷ []) (get_or_from_slice_get known at id id is)

pub none_entered : (known : List ObjectId) (wanted : ObjectId) → ¬ Contains (take 0 known) wanted
none_entered known wanted c = contains_none wanted c

pub unmet_all : (next : ObjectId → List ObjectId) (roots known : List ObjectId) (at : ℕ) (wanted : ObjectId) → Walking next roots known at → length known ≤ at → ¬ Contains (take at known) wanted → ¬ IsReached next roots wanted
unmet_all next roots known at wanted walking past unmet reached =
    unmet (subst (λ (ids : List ObjectId). Contains ids wanted) (sym (take_all at known past)) ((walk_ends next roots known at walking past wanted).1 reached))

-- what stands at a place of what is known is reached
pub walk_met : (next : ObjectId → List ObjectId) (roots known : List ObjectId) (at : ℕ) (id : ObjectId) → Walking next roots known at → slice_get known at ≡ Some id → at < length known → IsReached next roots id
walk_met next roots known at id walking is below = walking.met id (at, below, get_or_from_slice_get known at id id is)
