-- Marks, and how they spread.
use Rattle.std.proofs.Common.{◌≡◌, ℕ, zero, suc, ◌+◌, ◌<◌, ◌⊎◌, inl, inr, List, [], length, set, replicate, get_or, Some, Contains, refl, sym, ◌∙◌, subst, arith}
use Rattle.std.specs.Prelude.{slice_get, slice_index}
use Rattle.std.proofs.lemmas.Bool.{cases_eq}
use Rattle.std.proofs.lemmas.List.{get_or-set_same, get_or-set_other, length-set}
use Rattle.std.proofs.lemmas.Option.{slice_get_within}
use Rattle.git_object.specs.Content.{Content}
use Rattle.git_object.specs.declared.object_id.ObjectId.{ObjectId}
use Rattle.ancestry.specs.Reached.{Root, Next}
use Rattle.ancestry.specs.Ancestors.{IsAncestor}
use Rattle.ancestry.proofs.ListLemmas.{contains_here, contains_one}
use Rattle.vref.specs.History.{AreLinks, place}
use Rattle.vref.specs.Marks.{Has, IsMarked, AreMarks, AreTipsOf, AreWithin, HasSpread, IsClosed, IsSpread, Here, Along}
use Rattle.vref.proofs.BitLemmas.{has_none}
use Rattle.vref.proofs.ListLemmas.{same_some, at_place, place_small, contains_got}

-- ---- one word is replaced

pub marked_set : (words : List ℕ) (j word i bit : ℕ) → j < length words → IsMarked (set words j word) i bit → ((i ≡ j) × Has word bit) ⊎ IsMarked words i bit
marked_set words j word i bit within m = elim (cases_eq i j) [
  | inl same ↦ inl (same, subst (λ (w : ℕ). Has w bit) (get_or-set_same words j word 0 within) (subst (λ (at : ℕ). IsMarked (set words j word) at bit) same m))
  | inr other ↦ inr (subst (λ (w : ℕ). Has w bit) (get_or-set_other words j i word 0 other) m)
]

pub set_marked : (words : List ℕ) (j word bit : ℕ) → j < length words → Has word bit → IsMarked (set words j word) j bit
set_marked words j word bit within h = subst (λ (w : ℕ). Has w bit) (sym (get_or-set_same words j word 0 within)) h

pub set_keeps : (words : List ℕ) (j word i bit : ℕ) → j < length words → ((k : ℕ) → IsMarked words j k → Has word k) → IsMarked words i bit → IsMarked (set words j word) i bit
set_keeps words j word i bit within keeps m = elim (cases_eq i j) [
  | inl same ↦ subst (λ (at : ℕ). IsMarked (set words j word) at bit) (sym same) (set_marked words j word bit within (keeps bit (subst (λ (at : ℕ). IsMarked words at bit) same m)))
  | inr other ↦ subst (λ (w : ℕ). Has w bit) (sym (get_or-set_other words j i word 0 other)) m
]

-- ---- bits spread

pub spread_none : (links : List (ℕ × ℕ)) (words : List ℕ) → HasSpread links words words
spread_none links words = record { long = refl; keeps = λ i bit m. m; only = λ i bit m. Here i bit m }

pub spread_more : (links : List (ℕ × ℕ)) (old words : List ℕ) (from to word : ℕ) → HasSpread links old words → Contains links (from, to) → to < length words
    → ((k : ℕ) → IsMarked words to k → Has word k) → ((k : ℕ) → Has word k → IsMarked words to k ⊎ IsMarked words from k) → HasSpread links old (set words to word)
spread_more links old words from to word so link within keeps only = record {
  long = length-set words to word ∙ so.long;
  keeps = λ i bit m. set_keeps words to word i bit within keeps (so.keeps i bit m);
  only = λ i bit m. elim (marked_set words to word i bit within m) [
    | inl here ↦ subst (λ (at : ℕ). IsSpread links old at bit) (sym here.0) (elim (only bit here.1) [
      | inl was ↦ so.only to bit was
      | inr came ↦ Along from to bit (so.only from bit came) link
    ])
    | inr before ↦ so.only i bit before
  ];
}

-- ---- tips

blank : (count i : ℕ) → slice_index (replicate count 0) i ≡ 0
blank zero i = refl
blank (suc count) zero = refl
blank (suc count) (suc i) = blank count i

pub tips_none : (ids tips : List ObjectId) (count : ℕ) → AreTipsOf 0 ids tips (replicate count 0)
tips_none ids tips count = record {
  only = λ i bit m. absurd (has_none bit (subst (λ (w : ℕ). Has w bit) (blank count i) m));
  all = λ bit id below is. absurd (let no : ⊥ = omega arith in no);
}

pub tips_more : (ids tips : List ObjectId) (words : List ℕ) (k at word : ℕ) (tip : ObjectId) → AreTipsOf k ids tips words → slice_get tips k ≡ Some tip → place ids tip ≡ Some at → at < length words
    → Has word k → ((bit : ℕ) → IsMarked words at bit → Has word bit) → ((bit : ℕ) → Has word bit → (bit ≡ k) ⊎ IsMarked words at bit) → AreTipsOf (k + 1) ids tips (set words at word)
tips_more ids tips words k at word tip so is there within same keeps only = record {
  only = λ i bit m. elim (marked_set words at word i bit within m) [
    | inl here ↦ elim (only bit here.1) [
      | inl own ↦ (tip, subst (λ (j : ℕ). slice_get ids j ≡ Some tip) (sym here.0) (at_place ids tip at there), subst (λ (j : ℕ). slice_get tips j ≡ Some tip) (sym own) is)
      | inr was ↦ so.only i bit (subst (λ (j : ℕ). IsMarked words j bit) (sym here.0) was)
    ]
    | inr before ↦ so.only i bit before
  ];
  all = λ bit id below id_is. elim (cases_eq bit k) [
    | inl own ↦
        let one : id ≡ tip = same_some (slice_get tips k) id tip (subst (λ (j : ℕ). slice_get tips j ≡ Some id) own id_is) is in
        (at, subst (λ (other : ObjectId). place ids other ≡ Some at) (sym one) there, set_marked words at word bit within (subst (λ (j : ℕ). Has word j) (sym own) same))
    | inr other ↦
        let before = so.all bit id (omega arith) id_is in
        (before.0, before.1, set_keeps words at word before.0 bit within keeps before.2)
  ];
}

-- ---- tips that have spread along all links mark all ancestors

module _ (objects : List Content) (ids tips : List ObjectId) (links : List (ℕ × ℕ)) (old new : List ℕ) (are_links : AreLinks objects ids links) (of_tips : AreTipsOf (length tips) ids tips old) where
  marks_ancestor : (i bit : ℕ) → IsSpread links old i bit → (id tip : ObjectId) × (slice_get ids i ≡ Some id) × (slice_get tips bit ≡ Some tip) × IsAncestor objects id tip
  marks_ancestor i bit (Here at k m) = let tip = of_tips.only i bit m in (tip.0, tip.0, tip.1, tip.2, Root tip.0 (contains_here tip.0 []))
  marks_ancestor j bit (Along i at k spread link) =
      let before = marks_ancestor i bit spread in
      let goes = are_links.only i j link in
      let one : before.0 ≡ goes.0 = same_some (slice_get ids i) before.0 goes.0 before.2 goes.2 in
      (goes.1, before.1, goes.3, before.3, Next goes.0 goes.1 (subst (λ (id : ObjectId). IsAncestor objects id before.1) one before.4) goes.4)

  ancestor_marked : HasSpread links old new → IsClosed links new → (bit : ℕ) (tip : ObjectId) → slice_get tips bit ≡ Some tip → (id : ObjectId) → IsAncestor objects id tip → (i : ℕ) × (place ids id ≡ Some i) × IsMarked new i bit
  ancestor_marked spread closed bit tip is id (Root root c) =
      let found = of_tips.all bit tip (slice_get_within tips bit tip is) is in
      (found.0, subst (λ (other : ObjectId). place ids other ≡ Some found.0) (contains_one tip id c) found.1, spread.keeps found.0 bit found.2)
  ancestor_marked spread closed bit tip is id (Next from to reached link) =
      let before = ancestor_marked spread closed bit tip is from reached in
      let goes = are_links.all before.0 from id (place_small ids from before.0 before.1) (at_place ids from before.0 before.1) link in
      (goes.0, goes.1, closed before.0 goes.0 bit goes.2 before.2)

  pub are_marks : HasSpread links old new → IsClosed links new → AreMarks objects ids tips new
  are_marks spread closed = record {
    only = λ i bit m. marks_ancestor i bit (spread.only i bit m);
    all = λ bit id tip is ancestor. ancestor_marked spread closed bit tip is id ancestor;
  }

pub within_got : (count : ℕ) (links : List (ℕ × ℕ)) (i : ℕ) → AreWithin count links → i < length links → ((get_or links i (0, 0)).0 < count) × ((get_or links i (0, 0)).1 < count)
within_got count links i within below = within (get_or links i (0, 0)).0 (get_or links i (0, 0)).1 (contains_got links i (0, 0) below)

pub within_as_long : (ids : List ObjectId) (words : List ℕ) (links : List (ℕ × ℕ)) → length words ≡ length ids → AreWithin (length ids) links → AreWithin (length words) links
within_as_long ids words links long within = subst (λ (count : ℕ). AreWithin count links) (sym long) within

pub links_within : (objects : List Content) (ids : List ObjectId) (links : List (ℕ × ℕ)) (count : ℕ) → AreLinks objects ids links → count ≡ length ids → AreWithin count links
links_within objects ids links count are is i j link =
    let goes = are.only i j link in
    (subst (λ (n : ℕ). i < n) (sym is) (slice_get_within ids i goes.0 goes.2), subst (λ (n : ℕ). j < n) (sym is) (slice_get_within ids j goes.1 goes.3))

-- the test of each link says that bits have spread
pub closed_all : (links : List (ℕ × ℕ)) (words : List ℕ) → ((k : ℕ) (d : ℕ × ℕ) (bit : ℕ) → k < length links → IsMarked words (get_or links k d).0 bit → IsMarked words (get_or links k d).1 bit) → IsClosed links words
closed_all links words each i j bit (k, below, is) m =
    subst (λ (link : ℕ × ℕ). IsMarked words link.1 bit) is (each k (i, j) bit below (subst (λ (link : ℕ × ℕ). IsMarked words link.0 bit) (sym is) m))
