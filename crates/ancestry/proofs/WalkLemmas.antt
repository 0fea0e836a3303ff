-- What walks meet, by their lengths.
use Rattle.std.proofs.Common.{◌≡◌, ℕ, zero, suc, ◌+◌, ◌<◌, ◌≤◌, nat_le, Bool, true, false, cond, List, [], ◌∷◌, ◌++◌, length, map, Option, None, Some, Contains, filter, flat_map, refl, sym, ◌∙◌, ap, subst, arith, ◌⊎◌, inl, inr}
use Rattle.std.proofs.lemmas.List.Elements.{Contains-append_left, Contains-append_right, Contains-append_cases}
use Rattle.std.proofs.lemmas.Bool.Decides.{nat_tests}
use Rattle.std.specs.List.{list_any}
use Rattle.std.specs.Option.{option_map_or}
use Rattle.git_object.specs.Content.{Content}
use Rattle.git_object.specs.Object.{links_of, object_name}
use Rattle.git_object.specs.declared.object_id.ObjectId.{ObjectId}
use Rattle.git_object.specs.declared.kind.Kind.{Kind}
use Rattle.ref_store.specs.Objects.{same_id, first_named}
use Rattle.ref_store.proofs.ObjectLemmas.{id_is, id_itself}
use Rattle.ancestry.specs.Order.{least, IsLeast}
use Rattle.ancestry.specs.Walk.{Want, IsMet, Root, Link, links_at, wanted_by, met_within, met}
use Rattle.ancestry.proofs.ListLemmas.{contains_none, contains_here, contains_there, contains_one, contains_map, map_contains, contains_flat_map, flat_map_contains, contains_filter, filter_contains, any_contains, contains_any, filter_le, SameTest, filter_grows}
use Rattle.ancestry.proofs.OrderLemmas.{least_is_least, least_of_same}

-- the object of a name that is found is in the list, and has the name
pub found_there : (objects : List Content) (id : ObjectId) (o : Content) → first_named objects id ≡ Some o → Contains objects o × (id ≡ object_name o)
found_there [] id o is = cc
found_there (p ∷ objects) id o is = by_test (λ e. let found = found_there objects id o e in (contains_there p objects o found.0, found.1)) (same_id id (object_name p)) refl is
  where
    by_test : (first_named objects id ≡ Some o → Contains (p ∷ objects) o × (id ≡ object_name o)) → (b : Bool) → same_id id (object_name p) ≡ b → cond b (Some p) (first_named objects id) ≡ Some o
        → Contains (p ∷ objects) o × (id ≡ object_name o)
    by_test rest true e is =
        let same : p ≡ o = cc in
        (subst (λ (q : Content). Contains (p ∷ objects) q) same (contains_here p objects), id_is id (object_name p) e ∙ ap object_name same)
    by_test rest false e is = rest is

-- what has a link is there
pub linked_there : (objects : List Content) (id : ObjectId) (to : Want) → Contains (links_at objects id) to → (o : Content) × (first_named objects id ≡ Some o)
linked_there objects id to c = by_find (first_named objects id) refl c
  where
    by_find : (f : Option Content) → first_named objects id ≡ f → Contains (option_map_or (λ o. wanted_by (links_of o.kind o.body)) f []) to → (o : Content) × (first_named objects id ≡ Some o)
    by_find None e c = absurd (contains_none to c)
    by_find (Some o) e c = (o, e)

-- the links of an object, by its name
pub links_there : (objects : List Content) (id : ObjectId) (o : Content) → first_named objects id ≡ Some o → links_at objects id ≡ wanted_by (links_of o.kind o.body)
links_there objects id o is = ap (λ f. option_map_or (λ (o : Content). wanted_by (links_of o.kind o.body)) f []) is

pub no_links : (objects : List Content) (id : ObjectId) → first_named objects id ≡ None → links_at objects id ≡ []
no_links objects id none = ap (λ f. option_map_or (λ (o : Content). wanted_by (links_of o.kind o.body)) f []) none

pub wanted_by-append : (xs ys : List (ObjectId × Kind)) → wanted_by (xs ++ ys) ≡ wanted_by xs ++ wanted_by ys
wanted_by-append [] ys = refl
wanted_by-append (x ∷ xs) ys = ap (λ wants. (x.0, Some x.1) ∷ wants) (wanted_by-append xs ys)

module _ (objects : List Content) (root : ObjectId) (kind : Option Kind) where
  abbrev Within : ℕ → Want → Type 0
  Within n want = Contains (met_within objects root kind n) want

  -- walks of so many links meet only what walks meet
  pub met_by_walk : (n : ℕ) (want : Want) → Within n want → IsMet objects root kind want
  met_by_walk zero want c = subst (λ (w : Want). IsMet objects root kind w) (contains_one (root, kind) want c) Root
  met_by_walk (suc n) want c =
      elim (Contains-append_cases (met_within objects root kind n) (flat_map (λ m. links_at objects m.0) (met_within objects root kind n)) want c) [
        | inl d ↦ met_by_walk n want d
        | inr d ↦
            let from = flat_map_contains (λ (m : Want). links_at objects m.0) (met_within objects root kind n) want d in
            Link from.0 want (met_by_walk n from.0 from.1) from.2
      ]

  one_more : (n : ℕ) (want : Want) → Within n want → Within (suc n) want
  one_more n want c = Contains-append_left (met_within objects root kind n) (flat_map (λ m. links_at objects m.0) (met_within objects root kind n)) want c

  one_link : (n : ℕ) (from want : Want) → Within n from → Contains (links_at objects from.0) want → Within (suc n) want
  one_link n from want c link =
      Contains-append_right (met_within objects root kind n) (flat_map (λ m. links_at objects m.0) (met_within objects root kind n)) want
      (contains_flat_map (λ (m : Want). links_at objects m.0) (met_within objects root kind n) from want c link)

  -- longer walks meet no less
  no_less : (j n : ℕ) (want : Want) → j ≤ n → Within j want → Within n want
  no_less j zero want le c = let is : j ≡ 0 = omega (arith, le) in subst (λ (i : ℕ). Within i want) is c
  no_less j (suc n) want le c = by_order (λ less. one_more n want (no_less j n want less c)) (nat_le j n) refl
    where
      by_order : (j ≤ n → Within (suc n) want) → (b : Bool) → nat_le j n ≡ b → Within (suc n) want
      by_order rest true e = rest (grind (arith, nat_tests))
      by_order rest false e = let is : j ≡ suc n = grind (arith, nat_tests) in subst (λ (i : ℕ). Within i want) is c

  -- whether walks of so many links meet the object
  abbrev meets : ℕ → Content → Bool
  meets n o = list_any (λ m. same_id m.0 (object_name o)) (met_within objects root kind n)

  meets_of : (n : ℕ) (o : Content) (want : Want) → Within n want → want.0 ≡ object_name o → meets n o ≡ true
  meets_of n o want c is = contains_any (λ (m : Want). same_id m.0 (object_name o)) (met_within objects root kind n) want c (ap (λ (i : ObjectId). same_id want.0 i) (sym is) ∙ id_itself want.0)

  of_meets : (n : ℕ) (o : Content) → meets n o ≡ true → (want : Want) × Within n want × (want.0 ≡ object_name o)
  of_meets n o is = let found = any_contains (λ (m : Want). same_id m.0 (object_name o)) (met_within objects root kind n) is in (found.0, found.1, id_is found.0.0 (object_name o) found.2)

  meets_wider : (n : ℕ) (o : Content) → meets n o ≡ true → meets (suc n) o ≡ true
  meets_wider n o is = let found = of_meets n o is in meets_of (suc n) o found.0 (one_more n found.0 found.1) found.2

  -- one more link meets no other object
  abbrev IsClosed : ℕ → Type 0
  IsClosed n = SameTest (meets n) (meets (suc n)) objects

  abbrev how_many : ℕ → ℕ
  how_many n = length (filter (meets n) objects)

  -- then all that is met is met within one link more
  closed_all : (n : ℕ) → IsClosed n → (want : Want) → IsMet objects root kind want → Within (suc n) want
  closed_all n closed want Root = no_less 0 (suc n) (root, kind) (omega arith) (contains_here (root, kind) [])
  closed_all n closed want (Link from to met link) =
      let there = linked_there objects from.0 to link in
      let named = found_there objects from.0 there.0 there.1 in
      let now = meets_of (suc n) there.0 from (closed_all n closed from met) named.1 in
      let before = of_meets n there.0 (closed there.0 named.0 now) in
      let same : from.0 ≡ before.0.0 = named.1 ∙ sym before.2 in
      one_link n before.0 to before.1 (subst (λ (i : ObjectId). Contains (links_at objects i) to) same link)

  -- until no other object is met, each link more meets one more object at least
  closed_or_more : (n : ℕ) → ((j : ℕ) × (j < n) × IsClosed j) ⊎ (n + how_many 0 ≤ how_many n)
  closed_or_more zero = inr (omega arith)
  closed_or_more (suc n) = by_rest (closed_or_more n) (filter_grows (meets n) (meets (suc n)) (meets_wider n) objects)
    where
      by_rest : ((j : ℕ) × (j < n) × IsClosed j) ⊎ (n + how_many 0 ≤ how_many n) → IsClosed n ⊎ (how_many n + 1 ≤ how_many (suc n))
          → ((j : ℕ) × (j < suc n) × IsClosed j) ⊎ (suc n + how_many 0 ≤ how_many (suc n))
      by_rest (inl w) step = inl (w.0, omega (arith, w.1), w.2)
      by_rest (inr more) (inl closed) = inl (n, omega arith, closed)
      by_rest (inr more) (inr grows) = inr (omega (arith, more, grows))

  -- where the root isn't there nothing else is met
  root_alone : first_named objects root ≡ None → (want : Want) → IsMet objects root kind want → (root, kind) ≡ want
  root_alone none want Root = refl
  root_alone none want (Link from to met link) =
      let there = linked_there objects from.0 to link in
      let same : root ≡ from.0 = ap (λ (w : Want). w.0) (root_alone none from met) in
      let some = ap (first_named objects) same ∙ there.1 in
      absurd (cc (none, some))

  meets_root : (o : Content) → first_named objects root ≡ Some o → 1 ≤ how_many 0
  meets_root o is =
      let named = found_there objects root o is in
      let c = contains_filter (meets 0) objects o named.0 (meets_of 0 o (root, kind) (contains_here (root, kind) []) named.1) in
      omega (arith, c.1)

  pub met_early : (want : Want) → IsMet objects root kind want → Within (length objects) want
  met_early want is = by_root (first_named objects root) refl
    where
      enough : 1 ≤ how_many 0 → ((j : ℕ) × (j < length objects) × IsClosed j) ⊎ (length objects + how_many 0 ≤ how_many (length objects)) → Within (length objects) want
      enough some (inl w) = no_less (suc w.0) (length objects) want (omega (arith, w.1)) (closed_all w.0 w.2 want is)
      enough some (inr more) = absurd (omega (arith, some, more, filter_le (meets (length objects)) objects))

      by_root : (f : Option Content) → first_named objects root ≡ f → Within (length objects) want
      by_root None e = no_less 0 (length objects) want (omega arith) (subst (λ (w : Want). Within 0 w) (root_alone e want is) (contains_here (root, kind) []))
      by_root (Some o) e = enough (meets_root o e) (closed_or_more (length objects))

  -- the least of those that pass a test is the least that a walk meets
  pub least_met : (test : Want → Bool)
      → IsLeast (λ id. (wanted : Option Kind) × IsMet objects root kind (id, wanted) × (test (id, wanted) ≡ true)) (least (map (λ want. want.0) (filter test (met objects root kind))))
  least_met test =
      let all = met objects root kind in
      least_of_same (Contains (map (λ (w : Want). w.0) (filter test all))) _ (least (map (λ (w : Want). w.0) (filter test all)))
      (λ id c.
      let found = map_contains (λ (w : Want). w.0) (filter test all) id c in
      let among = filter_contains test all found.0 found.1 in
      let same : found.0 ≡ (id, found.0.1) = ap (λ (i : ObjectId). (i, found.0.1)) found.2 in
      (found.0.1, subst (λ (w : Want). IsMet objects root kind w) same (met_by_walk (length objects) found.0 among.0), ap test (sym same) ∙ among.1))
      (λ id found. contains_map (λ (w : Want). w.0) (filter test all) (id, found.0) (contains_filter test all (id, found.0) (met_early (id, found.0) found.1) found.2))
      (least_is_least (map (λ (w : Want). w.0) (filter test all)))

  -- where the least is none nothing that is met passes the test
  pub none_met : (test : Want → Bool) → least (map (λ want. want.0) (filter test (met objects root kind))) ≡ None → (want : Want) → IsMet objects root kind want → test want ≡ false
  none_met test none want is = by_test (test want) refl
    where
      by_test : (b : Bool) → test want ≡ b → test want ≡ false
      by_test true e =
          absurd (subst (λ (o : Option ObjectId). IsLeast (λ id. (wanted : Option Kind) × IsMet objects root kind (id, wanted) × (test (id, wanted) ≡ true)) o) none (least_met test) want.0 (want.1, is, e))
      by_test false e = e
