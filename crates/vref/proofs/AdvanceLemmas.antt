-- What marks say of pairs of commits.
use Rattle.std.proofs.Common.{◌≡◌, ℕ, ◌<◌, ◌⊎◌, inl, inr, Bool, true, false, List, [], ◌∷◌, ◌++◌, length, map, get_or, Option, Some, Contains, refl, sym, ◌∙◌, ap, subst, true≢false}
use Rattle.std.specs.Prelude.{◌↔◌, IsTrue, slice_get}
use Rattle.std.specs.Option.{option_map}
use Rattle.std.proofs.lemmas.Option.{slice_get-map, slice_get-get_or}
use Rattle.std.proofs.lemmas.List.Elements.{Contains-push_cases, Contains-append_left, Contains-append_right}
use Rattle.git_object.specs.Content.{Content}
use Rattle.git_object.specs.declared.object_id.ObjectId.{ObjectId}
use Rattle.ancestry.specs.Reached.{Root}
use Rattle.ancestry.specs.Ancestors.{BringsMerge, IsAncestor}
use Rattle.ancestry.proofs.ListLemmas.{contains_here, contains_none}
use Rattle.vref.specs.Advances.{AreFresh, IsAdvance}
use Rattle.vref.specs.History.{AreLinks, AreMerges, place}
use Rattle.vref.specs.Marks.{Has, IsMarked, AreMarks, MarksAncestors}
use Rattle.vref.proofs.BitLemmas.{has_none}
use Rattle.vref.proofs.ListLemmas.{same_some, at_place, place_small}

-- a commit follows itself, and brings no merge to itself
pub advance_of_itself : (objects : List Content) (old new : ObjectId) → old ≡ new → IsAdvance objects (old, new) (record { forward = true; merge = false })
advance_of_itself objects old new is = record {
  forward = (λ yes. Root old (subst (λ (id : ObjectId). Contains (id ∷ []) old) is (contains_here old [])), λ ancestor. refl);
  merge = (λ no. absurd (true≢false (sym no)), λ brings. absurd (brings.3 (subst (λ (id : ObjectId). IsAncestor objects brings.0 id) (sym is) brings.1)));
}

-- ---- the bits of merges

pub fresh_none : (of_old of_new : List ℕ) → AreFresh [] of_old of_new 0
fresh_none of_old of_new bit = (λ h. absurd (has_none bit h), λ found. absurd (contains_none found.0 found.1))

pub fresh_more : (merges of_old of_new : List ℕ) (at word more new : ℕ) → AreFresh merges of_old of_new word
    → ((bit : ℕ) → Has more bit ↔ (IsMarked of_new at bit × ¬ IsMarked of_old at bit))
    → ((bit : ℕ) → Has word bit → Has new bit) → ((bit : ℕ) → Has more bit → Has new bit) → ((bit : ℕ) → Has new bit → Has word bit ⊎ Has more bit)
    → AreFresh (merges ++ at ∷ []) of_old of_new new
fresh_more merges of_old of_new at word more new so adds keeps takes only bit = (
  λ h. elim (only bit h) [
    | inl was ↦ let found = (so bit).0 was in (found.0, Contains-append_left merges (at ∷ []) found.0 found.1, found.2, found.3)
    | inr came ↦ let both = (adds bit).0 came in (at, Contains-append_right merges (at ∷ []) at (contains_here at []), both.0, both.1)
  ],
  λ found. elim (Contains-push_cases merges at found.0 found.1) [
    | inl before ↦ keeps bit ((so bit).1 (found.0, before, found.2, found.3))
    | inr same ↦ takes bit ((adds bit).1 (subst (λ (i : ℕ). IsMarked of_new i bit) (sym same) found.2, λ old. found.3 (subst (λ (i : ℕ). IsMarked of_old i bit) same old)))
  ],
)

-- ---- a pair of commits

module _ (objects : List Content) (ids olds news : List ObjectId) (merges of_old of_new : List ℕ) (marks_old : AreMarks objects ids olds of_old) (marks_new : AreMarks objects ids news of_new)
    (bit : ℕ) (old new : ObjectId) (old_is : slice_get olds bit ≡ Some old) (new_is : slice_get news bit ≡ Some new) where
  abbrev Marked : Type 0
  Marked = (i : ℕ) × (place ids old ≡ Some i) × IsMarked of_new i bit

  ancestor_if : Marked → IsAncestor objects old new
  ancestor_if (i, there, m) =
      let found = marks_new.only i bit m in
      let id : found.0 ≡ old = same_some (slice_get ids i) found.0 old found.2 (at_place ids old i there) in
      let tip : found.1 ≡ new = same_some (slice_get news bit) found.1 new found.3 new_is in
      subst (λ (a : ObjectId). IsAncestor objects a new) id (subst (λ (t : ObjectId). IsAncestor objects found.0 t) tip found.4)

  merge_if : AreMerges objects ids merges → ((i : ℕ) × Contains merges i × IsMarked of_new i bit × ¬ IsMarked of_old i bit) → BringsMerge objects old new
  merge_if are (i, among, m, not_old) =
      let merge = are.only i among in
      let found = marks_new.only i bit m in
      let id : found.0 ≡ merge.0 = same_some (slice_get ids i) found.0 merge.0 found.2 (at_place ids merge.0 i merge.1) in
      let tip : found.1 ≡ new = same_some (slice_get news bit) found.1 new found.3 new_is in (
        merge.0,
        subst (λ (a : ObjectId). IsAncestor objects a new) id (subst (λ (t : ObjectId). IsAncestor objects found.0 t) tip found.4),
        merge.2,
        λ before.
            let marked = marks_old.all bit merge.0 old old_is before in
            not_old (subst (λ (j : ℕ). IsMarked of_old j bit) (same_some (place ids merge.0) marked.0 i marked.1 merge.1) marked.2),
      )

  merge_found : AreMerges objects ids merges → BringsMerge objects old new → (i : ℕ) × Contains merges i × IsMarked of_new i bit × ¬ IsMarked of_old i bit
  merge_found are (id, ancestor, merge, fresh) =
      let marked = marks_new.all bit id new new_is ancestor in (
        marked.0,
        are.all marked.0 id (place_small ids id marked.0 marked.1) marked.1 merge,
        marked.2,
        λ before.
            let found = marks_old.only marked.0 bit before in
            let one : found.0 ≡ id = same_some (slice_get ids marked.0) found.0 id found.2 (at_place ids id marked.0 marked.1) in
            let tip : found.1 ≡ old = same_some (slice_get olds bit) found.1 old found.3 old_is in
            fresh (subst (λ (a : ObjectId). IsAncestor objects a old) one (subst (λ (t : ObjectId). IsAncestor objects found.0 t) tip found.4)),
      )

  pub advance_by_marks : AreMerges objects ids merges → (word : ℕ) (forward merge : Bool) → AreFresh merges of_old of_new word → (IsTrue forward ↔ Marked) → (IsTrue merge ↔ Has word bit)
      → IsAdvance objects (old, new) (record { forward = forward; merge = merge })
  advance_by_marks are word forward merge fresh is_forward is_merge = record {
    forward = (λ yes. ancestor_if (is_forward.0 yes), λ ancestor. is_forward.1 (marks_new.all bit old new new_is ancestor));
    merge = (λ yes. merge_if are ((fresh bit).0 (is_merge.0 yes)), λ brings. is_merge.1 ((fresh bit).1 (merge_found are brings)));
  }

-- ---- one of many pairs

abbrev pub Pair : Type 0
Pair = ObjectId × ObjectId

part_at : (part : Pair → ObjectId) (pairs : List Pair) (parts : List ObjectId) (k : ℕ) (d : Pair) → parts ≡ map part pairs → k < length pairs → slice_get parts k ≡ Some (part (get_or pairs k d))
part_at part pairs parts k d are below =
    ap (λ (ids : List ObjectId). slice_get ids k) are ∙ slice_get-map part pairs k ∙ ap (λ (o : Option Pair). option_map part o) (slice_get-get_or pairs k d below)

pub portion_advance : (objects shown : List Content) (ids olds news : List ObjectId) (links : List (ℕ × ℕ)) (merges of_old of_new words : List ℕ) (pairs : List Pair) (k fresh : ℕ) (d : Pair) (forward merge : Bool)
    → objects ≡ shown → words ≡ of_new → AreLinks objects ids links → AreMerges objects ids merges → MarksAncestors ids links olds of_old → MarksAncestors ids links news of_new
    → olds ≡ map (λ pair. pair.0) pairs → news ≡ map (λ pair. pair.1) pairs → k < length pairs → AreFresh merges of_old of_new fresh
    → (IsTrue forward ↔ ((i : ℕ) × (place ids (get_or pairs k d).0 ≡ Some i) × IsMarked words i k)) → (IsTrue merge ↔ Has fresh k)
    → IsAdvance shown (get_or pairs k d) (record { forward = forward; merge = merge })
portion_advance objects shown ids olds news links merges of_old of_new words pairs k fresh d forward merge same words_are links_are merges_are marks_old marks_new olds_are news_are below fresh_are is_forward is_merge =
    subst (λ (os : List Content). IsAdvance os (get_or pairs k d) (record { forward = forward; merge = merge })) same
    (advance_by_marks objects ids olds news merges of_old of_new (marks_old objects links_are) (marks_new objects links_are) k (get_or pairs k d).0 (get_or pairs k d).1
    (part_at (λ pair. pair.0) pairs olds k d olds_are below) (part_at (λ pair. pair.1) pairs news k d news_are below) merges_are fresh forward merge fresh_are
    (subst (λ (ws : List ℕ). IsTrue forward ↔ ((i : ℕ) × (place ids (get_or pairs k d).0 ≡ Some i) × IsMarked ws i k)) words_are is_forward) is_merge)

pub marks_same : (ids tips tips' : List ObjectId) (links links' : List (ℕ × ℕ)) (words : List ℕ) → links ≡ links' → tips ≡ tips' → MarksAncestors ids links tips words → MarksAncestors ids links' tips' words
marks_same ids tips tips' links links' words one two marks =
    subst (λ (ls : List (ℕ × ℕ)). MarksAncestors ids ls tips' words) one (subst (λ (ts : List ObjectId). MarksAncestors ids links ts words) two marks)

pub fresh_same : (merges merges' of_old of_old' of_new of_new' : List ℕ) (word : ℕ) → merges ≡ merges' → of_old ≡ of_old' → of_new ≡ of_new' → AreFresh merges of_old of_new word → AreFresh merges' of_old' of_new' word
fresh_same merges merges' of_old of_old' of_new of_new' word one two three fresh =
    subst (λ (ms : List ℕ). AreFresh ms of_old' of_new' word) one
    (subst (λ (ws : List ℕ). AreFresh merges ws of_new' word) two (subst (λ (ws : List ℕ). AreFresh merges of_old ws word) three fresh))
