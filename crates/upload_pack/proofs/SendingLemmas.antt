-- What a fetch is sent.
use Rattle.std.proofs.Common.{◌≡◌, ℕ, ◌<◌, ◌≤◌, ◌&&◌, not, ◌⊎◌, inl, inr, Bool, true, false, List, [], ◌∷◌, length, take, None, Contains, refl, sym, subst, arith}
use Rattle.std.specs.Prelude.{All}
use Rattle.std.specs.List.{filter, list_any}
use Rattle.std.proofs.lemmas.List.{take_all}
use Rattle.std.proofs.lemmas.List.Elements.{Contains-get_or}
use Rattle.std.proofs.lemmas.Option.{slice_get_within}
use Rattle.git_object.specs.Content.{Content}
use Rattle.git_object.specs.Object.{object_name}
use Rattle.git_object.specs.declared.object_id.ObjectId.{ObjectId}
use Rattle.ref_store.specs.Objects.{same_id}
use Rattle.ref_store.proofs.ObjectLemmas.{id_is, id_itself}
use Rattle.ancestry.specs.Reached.{IsReached, Root, Next}
use Rattle.ancestry.specs.Sent.{AreSent, linked_at}
use Rattle.ancestry.specs.Walk.{Want, met}
use Rattle.ancestry.proofs.LineLemmas.{met_of_reached, reached_of_met}
use Rattle.ancestry.proofs.ListLemmas.{any_contains, contains_any, contains_filter, contains_here, contains_none, contains_one, filter_contains}
use Rattle.ancestry.proofs.WalkLemmas.{met_by_walk, met_early}
use Rattle.raw_pack.specs.Writing.{objects_at}
use Rattle.upload_pack.specs.Sending.{is_reached, is_sent, sent}
use Rattle.upload_pack.proofs.PlaceLemmas.{items_at, rise_within, rises}

-- ---- what is reached

-- from one root, and from several
wider : (next : ObjectId → List ObjectId) (roots : List ObjectId) (root : ObjectId) → Contains roots root → (id : ObjectId) → IsReached next (root ∷ []) id → IsReached next roots id
wider next roots root there id (Root same c) = Root same (subst (λ (i : ObjectId). Contains roots i) (contains_one root same c) there)
wider next roots root there id (Next from to is link) = Next from to (wider next roots root there from is) link

pub from_one : (next : ObjectId → List ObjectId) (roots : List ObjectId) (id : ObjectId) → IsReached next roots id → (root : ObjectId) × Contains roots root × IsReached next (root ∷ []) id
from_one next roots id (Root same c) = (same, c, Root same (contains_here same []))
from_one next roots id (Next from to is link) = let one = from_one next roots from is in (one.0, one.1, Next from to one.2 link)

-- nothing leads from nowhere
pub none_reached : (next : ObjectId → List ObjectId) (id : ObjectId) → ¬ IsReached next [] id
none_reached next id (Root same c) = contains_none same c
none_reached next id (Next from to is link) = none_reached next from is

-- from one, and from where that leads
pub reached_on : (next : ObjectId → List ObjectId) (first second : ObjectId) → IsReached next (first ∷ []) second → (id : ObjectId) → IsReached next (second ∷ []) id → IsReached next (first ∷ []) id
reached_on next first second there id (Root same c) = subst (λ (i : ObjectId). IsReached next (first ∷ []) i) (contains_one second same c) there
reached_on next first second there id (Next from to is link) = Next from to (reached_on next first second there from is) link

module _ (objects : List Content) (roots : List ObjectId) (id : ObjectId) where
  is_met : Want → Bool
  is_met want = same_id id want.0

  pub reached_then : is_reached objects roots id ≡ true → IsReached (linked_at objects) roots id
  unfolding is_met
  reached_then is =
      let root = any_contains (λ (r : ObjectId). list_any is_met (met objects r None)) roots is in
      let want = any_contains is_met (met objects root.0 None) root.2 in
      let met_there = met_by_walk objects root.0 None (length objects) want.0 want.1 in
      wider (linked_at objects) roots root.0 root.1 id (subst (λ (i : ObjectId). IsReached (linked_at objects) (root.0 ∷ []) i) (sym (id_is id want.0.0 want.2)) (reached_of_met objects root.0 want.0 met_there))

  pub reached_by : IsReached (linked_at objects) roots id → is_reached objects roots id ≡ true
  unfolding is_met
  reached_by is =
      let one = from_one (linked_at objects) roots id is in
      let walk = met_of_reached objects one.0 id one.2 in
      contains_any (λ (r : ObjectId). list_any is_met (met objects r None)) roots one.0 one.1
      (contains_any is_met (met objects one.0 None) (id, walk.0) (met_early objects one.0 None (id, walk.0) walk.1) (id_itself id))

-- ---- what is sent

both : (a b : Bool) → a ≡ true → b ≡ false → (a && not b) ≡ true
both true true is isnt = absurd cc
both true false is isnt = refl
both false b is isnt = absurd cc

both_then : (a b : Bool) → (a && not b) ≡ true → (a ≡ true) × (b ≡ false)
both_then true true is = absurd cc
both_then true false is = (refl, refl)
both_then false b is = absurd cc

pub not_true : (b : Bool) → ¬ (b ≡ true) → b ≡ false
not_true true isnt = absurd (isnt refl)
not_true false isnt = refl

pub not_both : (b : Bool) → b ≡ true → b ≡ false → ⊥
not_both true is isnt = absurd cc
not_both false is isnt = absurd cc

module _ (objects : List Content) (wants haves : List ObjectId) where
  pub sent_then : (object : Content) → is_sent objects wants haves object ≡ true → IsReached (linked_at objects) wants (object_name object) × ¬ IsReached (linked_at objects) haves (object_name object)
  sent_then object is =
      let tests = both_then (is_reached objects wants (object_name object)) (is_reached objects haves (object_name object)) is in
      (reached_then objects wants (object_name object) tests.0, λ had. not_both (is_reached objects haves (object_name object)) (reached_by objects haves (object_name object) had) tests.1)

  pub sent_by : (object : Content) → IsReached (linked_at objects) wants (object_name object) → ¬ IsReached (linked_at objects) haves (object_name object) → is_sent objects wants haves object ≡ true
  sent_by object wanted not_had =
      both (is_reached objects wants (object_name object)) (is_reached objects haves (object_name object)) (reached_by objects wants (object_name object) wanted)
      (not_true (is_reached objects haves (object_name object)) (λ had. not_had (reached_then objects haves (object_name object) had)))

  module _ (places : List ℕ) (are : AreSent objects wants haves places) where
    pub objects_sent : objects_at objects places ≡ sent objects wants haves
    unfolding sent
    objects_sent = items_at objects (is_sent objects wants haves) places are.order (λ i le. (
      λ c. let one = (are.are_those i).0 c in (one.object, one.there, sent_by one.object one.wanted one.not_had),
      λ passes. let tests = sent_then passes.0 passes.2 in (are.are_those i).1 (record { object = passes.0; there = passes.1; wanted = tests.0; not_had = tests.1 }),
    ))

    below : (i : ℕ) → Contains places i → i < length objects
    below i c = let one = (are.are_those i).0 c in slice_get_within objects i one.object one.there

    pub places_within : All (λ (place : ℕ). place < length objects) places
    places_within = λ k d less. below _ (Contains-get_or places k d less)

    pub places_few : length places ≤ length objects
    places_few = omega (arith, rise_within 0 (length objects) places (rises places are.order) (omega arith) below)

-- the same where all objects were looked at
pub among_all : (objects : List Content) (wants haves : List ObjectId) (n : ℕ) (places : List ℕ) → n ≡ length objects → AreSent (take n objects) wants haves places → AreSent objects wants haves places
among_all objects wants haves n places count are = subst (λ (os : List Content). AreSent os wants haves places) (take_all n objects (omega (arith, count))) are

-- ---- laws

pub links_have : (objects : List Content) (wants haves : List ObjectId) (object linked : Content) → Contains (sent objects wants haves) object → Contains objects linked
    → Contains (linked_at objects (object_name object)) (object_name linked) → IsReached (linked_at objects) haves (object_name linked) ⊎ Contains (sent objects wants haves) linked
unfolding sent
links_have objects wants haves object linked given there link = by_test (is_reached objects haves (object_name linked)) refl
  where
    wanted : IsReached (linked_at objects) wants (object_name linked)
    wanted = Next (object_name object) (object_name linked) (sent_then objects wants haves object (filter_contains (is_sent objects wants haves) objects object given).1).0 link

    by_test : (b : Bool) → is_reached objects haves (object_name linked) ≡ b → IsReached (linked_at objects) haves (object_name linked) ⊎ Contains (filter (is_sent objects wants haves) objects) linked
    by_test true is = inl (reached_then objects haves (object_name linked) is)
    by_test false is = inr (contains_filter (is_sent objects wants haves) objects linked there (sent_by objects wants haves linked wanted (λ had. not_both (is_reached objects haves (object_name linked)) (reached_by objects haves (object_name linked) had) is)))
