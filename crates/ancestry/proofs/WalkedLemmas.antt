-- A plain walk from a root, object by object.
use Rattle.std.proofs.Common.{◌≡◌, ℕ, zero, suc, ◌+◌, ◌<◌, ◌≤◌, Bool, List, [], ◌∷◌, ◌++◌, length, take, get_or, Option, None, Some, Contains, sym, ◌∙◌, ap, subst, arith, inl, inr}
use Rattle.std.proofs.lemmas.List.Elements.{Contains-push_cases, Contains-append_left, Contains-append_right, Contains-append_cases}
use Rattle.std.proofs.lemmas.List.{take_more, take_all, take-append-le}
use Rattle.std.proofs.lemmas.Option.{get_or_from_slice_get}
use Rattle.std.specs.Prelude.{slice_get}
use Rattle.git_object.specs.Content.{Content}
use Rattle.git_object.specs.declared.object_id.ObjectId.{ObjectId}
use Rattle.git_object.specs.declared.kind.Kind.{Kind}
use Rattle.ancestry.specs.declared.seen.Seen.{Seen}
use Rattle.ancestry.specs.declared.verdict.Verdict.{Verdict}
use Rattle.ancestry.specs.declared.verdict.Verdict.TheVariants.{Whole}
use Rattle.ancestry.specs.Walk.{Want, IsMet, Root, Link, links_at}
use Rattle.ancestry.specs.Wholeness.{is_missing, is_wrong}
use Rattle.ancestry.specs.Verdict.{Tells, IsToldOf}
use Rattle.ancestry.specs.Seen.{IsMissingAmong, IsWrongAmong, IsKeptOf, Notes}
use Rattle.ancestry.proofs.ListLemmas.{contains_none, contains_here, contains_one}
use Rattle.ancestry.proofs.VerdictLemmas.{IsSame, Met, tells_same}
use Rattle.ancestry.proofs.SeenLemmas.{Among}

-- these were met, and the first so many ids were entered
pub record Walking (objects : List Content) (root : ObjectId) (kind : Option Kind) (now : Seen) (next : ℕ) : Type 0 where
  pub wants : List Want
  pub kept : IsKeptOf objects wants now
  pub met : (want : Want) → Contains wants want → IsMet objects root kind want
  pub begun : Contains wants (root, kind)
  pub entered : (id : ObjectId) (want : Want) → Contains (take next now.known.keys) id → Contains (links_at objects id) want → Contains wants want

kept_none : (objects : List Content) (seen : Seen) → seen.known.keys ≡ [] → seen.verdict ≡ Whole → IsKeptOf objects [] seen
kept_none objects seen keys verdict = record {
  there = λ want c. absurd (contains_none want c);
  only = λ id c. absurd (contains_none id (subst (λ (ids : List ObjectId). Contains ids id) keys c));
  tells = subst (λ (v : Verdict). Tells (IsMissingAmong objects []) (IsWrongAmong objects []) v) (sym verdict) (λ id found. contains_none (id, found.0) found.1, λ id found. contains_none (id, found.0) found.1);
}

-- the walk begins with the root
pub walk_begins : (objects : List Content) (root : ObjectId) (kind : Option Kind) (old now : Seen) → old.known.keys ≡ [] → old.verdict ≡ Whole → Notes objects old now ((root, kind) ∷ []) → Walking objects root kind now 0
walk_begins objects root kind old now keys verdict notes = record {
  wants = (root, kind) ∷ [];
  kept = notes.keeps [] (kept_none objects old keys verdict);
  met = λ want c. subst (λ (w : Want). IsMet objects root kind w) (contains_one (root, kind) want c) Root;
  begun = contains_here (root, kind) [];
  entered = λ id want c link. absurd (contains_none id c);
}

-- one more is entered
pub walk_goes_on : (objects : List Content) (root : ObjectId) (kind : Option Kind) (now new : Seen) (next : ℕ) (id : ObjectId) → Walking objects root kind now next
    → slice_get now.known.keys next ≡ Some id → next < length now.known.keys → Notes objects now new (links_at objects id) → Walking objects root kind new (next + 1)
walk_goes_on objects root kind now new next id walking at below notes = record {
  wants = walking.wants ++ links_at objects id;
  kept = notes.keeps walking.wants walking.kept;
  met = λ want c. elim (Contains-append_cases walking.wants (links_at objects id) want c) [
    | inl before ↦ walking.met want before
    | inr link ↦ let found = walking.kept.only id here in Link (id, found.0) want (walking.met (id, found.0) found.1) link
  ];
  begun = Contains-append_left walking.wants (links_at objects id) (root, kind) walking.begun;
  entered = λ other want c link. elim (Contains-push_cases (take next now.known.keys) id other (subst (λ (ids : List ObjectId). Contains ids other) more c)) [
    | inl before ↦ Contains-append_left walking.wants (links_at objects id) want (walking.entered other want before link)
    | inr same ↦ Contains-append_right walking.wants (links_at objects id) want (subst (λ (i : ObjectId). Contains (links_at objects i) want) (sym same) link)
  ];
}
  where
    at_next : get_or now.known.keys next id ≡ id
    at_next = get_or_from_slice_get now.known.keys next id id at

    here : Contains now.known.keys id
    here = (next, below, at_next)

    more : take (next + 1) new.known.keys ≡ take next now.known.keys ++ id ∷ []
    more =
        ap (take (next + 1)) notes.adds.1
        ∙ take-append-le (next + 1) now.known.keys notes.adds.0 (omega (arith, below))
        ∙ take_more now.known.keys next id below
        ∙ ap (λ i. take next now.known.keys ++ i ∷ []) at_next

-- when all ids were entered, all that a walk meets was met
all_met : (objects : List Content) (root : ObjectId) (kind : Option Kind) (now : Seen) (next : ℕ) (walking : Walking objects root kind now next) → length now.known.keys ≤ next → (want : Want) → IsMet objects root kind want → Contains walking.wants want
all_met objects root kind now next walking past want Root = walking.begun
all_met objects root kind now next walking past want (Link from to met link) =
    walking.entered from.0 to
    (subst (λ (ids : List ObjectId). Contains ids from.0) (sym (take_all next now.known.keys past)) (walking.kept.there from (all_met objects root kind now next walking past from met))) link

pub walk_ends : (objects : List Content) (root : ObjectId) (kind : Option Kind) (now : Seen) (next : ℕ) → Walking objects root kind now next → length now.known.keys ≤ next → IsToldOf objects root kind now.verdict
walk_ends objects root kind now next walking past =
    tells_same
    (Among walking.wants (is_missing objects))
    (Among walking.wants (is_wrong objects))
    (Met objects root kind (is_missing objects))
    (Met objects root kind (is_wrong objects))
    now.verdict (same (is_missing objects)) (same (is_wrong objects)) walking.kept.tells
  where
    same : (test : Want → Bool) → IsSame (Among walking.wants test) (Met objects root kind test)
    same test = λ id. (
      λ found. (found.0, walking.met (id, found.0) found.1, found.2),
      λ found. (found.0, all_met objects root kind now next walking past (id, found.0) found.1, found.2),
    )

-- where a list has no element it has ended
pub ended : {X : Type 0} (xs : List X) (at : ℕ) → slice_get xs at ≡ None → length xs ≤ at
ended [] at is = omega arith
ended (x ∷ xs) zero is = cc
ended (x ∷ xs) (suc at) is = let rest = ended xs at is in omega (arith, rest)
