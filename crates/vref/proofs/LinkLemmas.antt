-- Links, and the merges among commits.
use Rattle.std.proofs.Common.{◌≡◌, ℕ, ◌+◌, inl, inr, List, [], ◌∷◌, ◌++◌, None, Some, Contains, sym, ◌∙◌, ap, subst, arith}
use Rattle.std.specs.Prelude.{slice_get}
use Rattle.std.proofs.lemmas.Bool.{cases_eq}
use Rattle.std.proofs.lemmas.Option.{none-some}
use Rattle.std.proofs.lemmas.List.Elements.{Contains-push_cases, Contains-append_left, Contains-append_right}
use Rattle.git_object.specs.Content.{Content}
use Rattle.git_object.specs.declared.object_id.ObjectId.{ObjectId}
use Rattle.ancestry.specs.Ancestors.{IsMerge, parents_at}
use Rattle.ancestry.proofs.ListLemmas.{contains_here, contains_none}
use Rattle.vref.specs.History.{AddsParents, AreLinksOf, AreMergesOf, place}
use Rattle.vref.proofs.ListLemmas.{same_some, at_place}

pub adds_none : (ids : List ObjectId) (at : ℕ) (links : List (ℕ × ℕ)) → AddsParents ids at [] links links
adds_none ids at links = record {
  keeps = λ link c. c;
  only = λ i j c. inl c;
  all = λ to c. absurd (contains_none to c);
}

pub adds_more : (ids : List ObjectId) (at j : ℕ) (parents : List ObjectId) (to : ObjectId) (old links : List (ℕ × ℕ)) → AddsParents ids at parents old links → place ids to ≡ Some j
    → AddsParents ids at (parents ++ to ∷ []) old (links ++ (at, j) ∷ [])
adds_more ids at j parents to old links so there = record {
  keeps = λ link c. Contains-append_left links ((at, j) ∷ []) link (so.keeps link c);
  only = λ i k c. elim (Contains-push_cases links (at, j) (i, k) c) [
    | inl before ↦ elim (so.only i k before) [
      | inl was ↦ inl was
      | inr came ↦ inr (came.0, (came.1.0, came.1.1, Contains-append_left parents (to ∷ []) came.1.0 came.1.2))
    ]
    | inr same ↦ inr (
      sym (ap (λ (link : ℕ × ℕ). link.0) same),
      (to, there ∙ ap (λ (link : ℕ × ℕ). Some link.1) same, Contains-append_right parents (to ∷ []) to (contains_here to [])),
    )
  ];
  all = λ other c. elim (Contains-push_cases parents to other c) [
    | inl before ↦ let found = so.all other before in (found.0, found.1, Contains-append_left links ((at, j) ∷ []) (at, found.0) found.2)
    | inr same ↦ (j, subst (λ (id : ObjectId). place ids id ≡ Some j) same there, Contains-append_right links ((at, j) ∷ []) (at, j) (contains_here (at, j) []))
  ];
}

pub links_none : (objects : List Content) (ids : List ObjectId) → AreLinksOf 0 objects ids []
links_none objects ids = record {
  only = λ i j c. absurd (contains_none (i, j) c);
  all = λ i from to below is link. absurd (let no : ⊥ = omega arith in no);
}

pub links_more : (objects : List Content) (ids : List ObjectId) (at : ℕ) (id : ObjectId) (parents : List ObjectId) (old new : List (ℕ × ℕ)) → AreLinksOf at objects ids old → slice_get ids at ≡ Some id
    → parents_at objects id ≡ parents → AddsParents ids at parents old new → AreLinksOf (at + 1) objects ids new
links_more objects ids at id parents old new so is parents_are adds = record {
  only = λ i j c. elim (adds.only i j c) [
    | inl was ↦ so.only i j was
    | inr came ↦ (
      id,
      came.1.0,
      subst (λ (k : ℕ). slice_get ids k ≡ Some id) (sym came.0) is,
      at_place ids came.1.0 j came.1.1,
      subst (λ (ps : List ObjectId). Contains ps came.1.0) (sym parents_are) came.1.2,
    )
  ];
  all = λ i from to below from_is link. elim (cases_eq i at) [
    | inl here ↦
        let one : from ≡ id = same_some (slice_get ids at) from id (subst (λ (k : ℕ). slice_get ids k ≡ Some from) here from_is) is in
        let found = adds.all to (subst (λ (ps : List ObjectId). Contains ps to) parents_are (subst (λ (f : ObjectId). Contains (parents_at objects f) to) one link)) in
        (found.0, found.1, subst (λ (k : ℕ). Contains new (k, found.0)) (sym here) found.2)
    | inr other ↦
        let found = so.all i from to (omega arith) from_is link in
        (found.0, found.1, adds.keeps (i, found.0) found.2)
  ];
}

pub merges_none : (objects : List Content) (ids : List ObjectId) → AreMergesOf 0 objects ids []
merges_none objects ids = record {
  only = λ i c. absurd (contains_none i c);
  all = λ i id below is merge. absurd (let no : ⊥ = omega arith in no);
}

-- where the next commit is no merge
pub merges_same : (objects : List Content) (ids : List ObjectId) (at : ℕ) (merges : List ℕ) → AreMergesOf at objects ids merges → ((id : ObjectId) → place ids id ≡ Some at → IsMerge objects id → ⊥) → AreMergesOf (at + 1) objects ids merges
merges_same objects ids at merges so none = record {
  only = so.only;
  all = λ i id below there merge. elim (cases_eq i at) [
    | inl here ↦ absurd (none id (subst (λ (k : ℕ). place ids id ≡ Some k) here there) merge)
    | inr other ↦ so.all i id (omega arith) there merge
  ];
}

pub merges_more : (objects : List Content) (ids : List ObjectId) (at j : ℕ) (merges : List ℕ) (id : ObjectId) → AreMergesOf at objects ids merges → slice_get ids at ≡ Some id → IsMerge objects id → place ids id ≡ Some j → AreMergesOf (at + 1) objects ids (merges ++ j ∷ [])
merges_more objects ids at j merges id so is merge there = record {
  only = λ i c. elim (Contains-push_cases merges j i c) [
    | inl before ↦ so.only i before
    | inr same ↦ (id, subst (λ (k : ℕ). place ids id ≡ Some k) same there, merge)
  ];
  all = λ i other below other_there other_merge. elim (cases_eq i at) [
    | inl here ↦
        let at_here = subst (λ (k : ℕ). place ids other ≡ Some k) here other_there in
        let one : other ≡ id = same_some (slice_get ids at) other id (at_place ids other at at_here) is in
        let place_is : at ≡ j = same_some (place ids id) at j (subst (λ (o : ObjectId). place ids o ≡ Some at) one at_here) there in
        subst (λ (k : ℕ). Contains (merges ++ j ∷ []) k) (sym (here ∙ place_is)) (Contains-append_right merges (j ∷ []) j (contains_here j []))
    | inr apart ↦ Contains-append_left merges (j ∷ []) i (so.all i other (omega arith) other_there other_merge)
  ];
}

-- no commit stands at the place
pub none_at : (ids : List ObjectId) (at : ℕ) (id : ObjectId) → slice_get ids at ≡ None → place ids id ≡ Some at → ⊥
none_at ids at id none there = none-some id (sym none ∙ at_place ids id at there)

-- the one at the place is another
pub one_at : (objects : List Content) (ids : List ObjectId) (at : ℕ) (id other : ObjectId) → slice_get ids at ≡ Some id → place ids other ≡ Some at → IsMerge objects other → IsMerge objects id
one_at objects ids at id other is there merge = subst (λ (i : ObjectId). IsMerge objects i) (same_some (slice_get ids at) other id (at_place ids other at there) is) merge

pub placed_at : (ids : List ObjectId) (at : ℕ) (id other : ObjectId) → slice_get ids at ≡ Some id → place ids other ≡ Some at → place ids id ≡ Some at
placed_at ids at id other is there = subst (λ (i : ObjectId). place ids i ≡ Some at) (same_some (slice_get ids at) other id (at_place ids other at there) is) there
