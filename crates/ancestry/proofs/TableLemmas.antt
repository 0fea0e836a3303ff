-- Tables of values by name.
use Rattle.std.proofs.Common.{◌≡◌, ℕ, ◌<◌, Bool, true, false, cond, List, [], ◌∷◌, ◌++◌, get_or, length, Option, None, Some, refl, sym, ◌∙◌, subst, ◌⊎◌, inl, inr}
use Rattle.std.proofs.lemmas.List.Elements.{Contains-get_or, Contains-append_left, Contains-append_right, Contains-append_cases}
use Rattle.std.specs.List.{Contains}
use Rattle.std.specs.Map.{lookup}
use Rattle.std.specs.Option.{option_or}
use Rattle.git_object.specs.declared.object_id.ObjectId.{ObjectId}
use Rattle.ref_store.specs.Objects.{same_id}
use Rattle.ref_store.proofs.ObjectLemmas.{id_is}
use Rattle.ancestry.specs.Tables.{Entries, Has, HasOne, Puts, IsOfTwo, IsOfAll, AreOf, first_in}
use Rattle.ancestry.proofs.ListLemmas.{contains_one, contains_here, contains_there}

module _ {V : Type 0} where
  -- what a table has once a value is put in
  pub has_put : (old new : Entries V) (id : ObjectId) (value : V) → Puts old new id value → (other : ObjectId) (told : V) → Has new other told → ((other ≡ id) × (told ≡ value)) ⊎ Has old other told
  has_put old new id value puts other told is = by_test (same_id id other) refl (sym (puts other) ∙ is)
    where
      by_test : (b : Bool) → same_id id other ≡ b → cond b (Some value) (lookup (same_id other) old) ≡ Some told → ((other ≡ id) × (told ≡ value)) ⊎ Has old other told
      by_test true e here = inl (sym (id_is id other e), cc)
      by_test false e here = inr here

  -- a table of two with one more of the second
  pub of_two_more : (one other old new : Entries V) (id : ObjectId) (value : V) → IsOfTwo one other old → Has other id value → Puts old new id value → IsOfTwo one other new
  of_two_more one other old new id value of has puts = λ q told is. elim (has_put old new id value puts q told is) [
    | inl same ↦ inr (subst (λ (i : ObjectId). Has other i told) (sym same.0) (subst (λ (v : V). Has other id v) (sym same.1) has))
    | inr before ↦ of q told before
  ]

  -- a table of nothing and of another has what the other has
  pub of_nothing : (other table : Entries V) → IsOfTwo [] other table → (id : ObjectId) (value : V) → Has table id value → Has other id value
  of_nothing other table of id value has = elim (of id value has) [
    | inl none ↦ let none_told : Option V = None in let bad : none_told ≡ Some value = none in cc
    | inr here ↦ here
  ]

  -- a table of several with those of one of the several put in
  pub of_all_more : (tables : List (Entries V)) (table old new one : Entries V) → IsOfAll tables table old → Contains tables one → IsOfTwo old one new → IsOfAll tables table new
  of_all_more tables table old new one of there two = λ q told is. elim (two q told is) [
    | inl before ↦ of q told before
    | inr here ↦ inl (one, there, here)
  ]

  -- the table at a place is one of them
  pub contains_at : (tables : List (Entries V)) (i : ℕ) (d : Entries V) → i < length tables → Contains tables (get_or tables i d)
  contains_at tables i d below = Contains-get_or tables i d below

  -- some tables, and one of the others and another
  pub of_parts : (tables older newer : List (Entries V)) (table made : Entries V) → tables ≡ older ++ newer → IsOfAll newer table made → AreOf tables table (older ++ made ∷ [])
  of_parts tables older newer table made parts of = λ q told found. elim (Contains-append_cases older (made ∷ []) found.0 found.1) [
    | inl old ↦ inl (found.0, subst (λ (ts : List (Entries V)). Contains ts found.0) (sym parts) (Contains-append_left older newer found.0 old), found.2)
    | inr last ↦ elim (of q told (subst (λ (t : Entries V). Has t q told) (sym (contains_one made found.0 last)) found.2)) [
      | inl new ↦ inl (new.0, subst (λ (ts : List (Entries V)). Contains ts new.0) (sym parts) (Contains-append_right older newer new.0 new.1), new.2)
      | inr here ↦ inr here
    ]
  ]

  -- what is in the first table that has one is in one of them
  pub first_is_one : (tables : List (Entries V)) (id : ObjectId) (value : V) → first_in tables id ≡ Some value → HasOne tables id value
  first_is_one [] id value is = let none_told : Option V = None in let bad : none_told ≡ Some value = is in cc
  first_is_one (table ∷ tables) id value is = by_table (λ rest. let found = first_is_one tables id value rest in (found.0, contains_there table tables found.0 found.1, found.2)) (lookup (same_id id) table) refl is
    where
      by_table : (first_in tables id ≡ Some value → HasOne (table ∷ tables) id value) → (o : Option V) → lookup (same_id id) table ≡ o → option_or o (first_in tables id) ≡ Some value → HasOne (table ∷ tables) id value
      by_table rest None e is = rest is
      by_table rest (Some v) e is = (table, contains_here table tables, e ∙ is)
