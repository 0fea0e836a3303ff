-- What is kept of what was met, step by step.
use Rattle.std.proofs.Common.{◌≡◌, Bool, true, false, cond, List, [], ◌∷◌, ◌++◌, Option, Contains, refl, sym, ◌∙◌, ap, subst, ◌⊎◌, inl, inr, append-nil, append_assoc}
use Rattle.std.proofs.lemmas.List.Elements.{Contains-append_left, Contains-append_right, Contains-push_cases}
use Rattle.std.specs.List.{list_any}
use Rattle.git_object.specs.Content.{Content}
use Rattle.git_object.specs.declared.object_id.ObjectId.{ObjectId}
use Rattle.git_object.specs.declared.kind.Kind.{Kind}
use Rattle.ref_store.specs.Objects.{same_id, first_named}
use Rattle.ref_store.proofs.ObjectLemmas.{id_is}
use Rattle.ancestry.specs.declared.seen.Seen.{Seen}
use Rattle.ancestry.specs.declared.verdict.Verdict.{Verdict}
use Rattle.ancestry.specs.Walk.{Want}
use Rattle.ancestry.specs.Wholeness.{is_missing, is_wrong}
use Rattle.ancestry.specs.Verdict.{alone, worse, Tells}
use Rattle.ancestry.specs.Seen.{IsMissingAmong, IsWrongAmong, IsKeptOf, Notes}
use Rattle.ancestry.proofs.ListLemmas.{contains_here, any_contains}
use Rattle.ancestry.proofs.VerdictLemmas.{Either, IsSame, Alone, tells_both, tells_same, alone_tells}

-- an id that is put in
module _ (ids : List ObjectId) (new : ObjectId) where
  abbrev pub put : List ObjectId
  put = cond (list_any (same_id new) ids) ids (ids ++ new ∷ [])

  pub put_adds : (more : List ObjectId) × (put ≡ ids ++ more)
  put_adds = elim (list_any (same_id new) ids) as (λ b. (more : List ObjectId) × (cond b ids (ids ++ new ∷ []) ≡ ids ++ more)) [ true ↦ ([], sym (append-nil ids)) | false ↦ (new ∷ [], refl) ]

  pub put_there : Contains put new
  put_there = by_test (list_any (same_id new) ids) refl
    where
      by_test : (b : Bool) → list_any (same_id new) ids ≡ b → Contains (cond b ids (ids ++ new ∷ [])) new
      by_test true e = let found = any_contains (same_id new) ids e in subst (λ (i : ObjectId). Contains ids i) (sym (id_is new found.0 found.2)) found.1
      by_test false e = Contains-append_right ids (new ∷ []) new (contains_here new [])

  pub put_only : (id : ObjectId) → Contains put id → Contains ids id ⊎ (new ≡ id)
  put_only id c = by_test (list_any (same_id new) ids) c
    where
      by_test : (b : Bool) → Contains (cond b ids (ids ++ new ∷ [])) id → Contains ids id ⊎ (new ≡ id)
      by_test true c = inl c
      by_test false c = Contains-push_cases ids new id c

-- the id is wanted by one of these, and what is wanted passes a test
abbrev pub Among : List Want → (Want → Bool) → ObjectId → Type 0
Among wants test id = (wanted : Option Kind) × Contains wants (id, wanted) × (test (id, wanted) ≡ true)

one_more : (wants : List Want) (id : ObjectId) (wanted : Option Kind) (test : Want → Bool) → IsSame (Either (Among wants test) (Alone id wanted test)) (Among (wants ++ (id, wanted) ∷ []) test)
one_more wants id wanted test = λ other. (
  λ either. elim either [
    | inl found ↦ (found.0, Contains-append_left wants ((id, wanted) ∷ []) (other, found.0) found.1, found.2)
    | inr found ↦ subst (λ (i : ObjectId). Among (wants ++ (id, wanted) ∷ []) test i) found.0 (wanted, Contains-append_right wants ((id, wanted) ∷ []) (id, wanted) (contains_here (id, wanted) []), found.1)
  ],
  λ found. elim (Contains-push_cases wants (id, wanted) (other, found.0) found.1) [
    | inl before ↦ inl (found.0, before, found.2)
    | inr same ↦ inr (ap (λ (w : Want). w.0) same, ap test same ∙ found.2)
  ],
)

-- one id is noted
module _ (objects : List Content) (old new : Seen) (id : ObjectId) (wanted : Option Kind) where
  keeps_one : new.known.keys ≡ put old.known.keys id → new.verdict ≡ worse old.verdict (alone (first_named objects id) (id, wanted)) → (before : List Want) → IsKeptOf objects before old → IsKeptOf objects (before ++ (id, wanted) ∷ []) new
  keeps_one keys verdict before kept = record {
    there = λ want c. subst (λ (ids : List ObjectId). Contains ids want.0) (sym keys) (elim (Contains-push_cases before (id, wanted) want c) [
      | inl earlier ↦ let more = put_adds old.known.keys id in subst (λ (ids : List ObjectId). Contains ids want.0) (sym more.1) (Contains-append_left old.known.keys more.0 want.0 (kept.there want earlier))
      | inr same ↦ subst (λ (w : Want). Contains (put old.known.keys id) w.0) same (put_there old.known.keys id)
    ]);
    only = λ other c. elim (put_only old.known.keys id other (subst (λ (ids : List ObjectId). Contains ids other) keys c)) [
      | inl earlier ↦ let found = kept.only other earlier in (found.0, Contains-append_left before ((id, wanted) ∷ []) (other, found.0) found.1)
      | inr same ↦ subst (λ (i : ObjectId). (w : Option Kind) × Contains (before ++ (id, wanted) ∷ []) (i, w)) same (wanted, Contains-append_right before ((id, wanted) ∷ []) (id, wanted) (contains_here (id, wanted) []))
    ];
    tells = subst (λ (v : Verdict). Tells (IsMissingAmong objects (before ++ (id, wanted) ∷ [])) (IsWrongAmong objects (before ++ (id, wanted) ∷ [])) v) (sym verdict)
        (tells_same
        (Either (Among before (is_missing objects)) (Alone id wanted (is_missing objects)))
        (Either (Among before (is_wrong objects)) (Alone id wanted (is_wrong objects)))
        (Among (before ++ (id, wanted) ∷ []) (is_missing objects))
        (Among (before ++ (id, wanted) ∷ []) (is_wrong objects))
        (worse old.verdict (alone (first_named objects id) (id, wanted)))
        (one_more before id wanted (is_missing objects))
        (one_more before id wanted (is_wrong objects))
        (tells_both
        (Among before (is_missing objects))
        (Among before (is_wrong objects))
        (Alone id wanted (is_missing objects))
        (Alone id wanted (is_wrong objects))
        old.verdict
        (alone (first_named objects id) (id, wanted))
        kept.tells
        (alone_tells objects id wanted)));
  }

  pub notes_one : new.known.keys ≡ put old.known.keys id → new.verdict ≡ worse old.verdict (alone (first_named objects id) (id, wanted)) → Notes objects old new ((id, wanted) ∷ [])
  notes_one keys verdict = let more = put_adds old.known.keys id in record { adds = (more.0, keys ∙ more.1); keeps = keeps_one keys verdict }

pub notes_none : (objects : List Content) (seen : Seen) → Notes objects seen seen []
notes_none objects seen = record {
  adds = ([], sym (append-nil seen.known.keys));
  keeps = λ before kept. subst (λ (wants : List Want). IsKeptOf objects wants seen) (sym (append-nil before)) kept;
}

-- one after another
pub notes_both : (objects : List Content) (a b c : Seen) (xs ys : List Want) → Notes objects a b xs → Notes objects b c ys → Notes objects a c (xs ++ ys)
notes_both objects a b c xs ys first second = record {
  adds = (first.adds.0 ++ second.adds.0, second.adds.1 ∙ ap (λ ids. ids ++ second.adds.0) first.adds.1 ∙ append_assoc a.known.keys first.adds.0 second.adds.0);
  keeps = λ before kept. subst (λ (wants : List Want). IsKeptOf objects wants c) (append_assoc before xs ys) (second.keeps (before ++ xs) (first.keeps before kept));
}
