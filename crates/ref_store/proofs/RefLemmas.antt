-- Refs in the byte order of their names.
use Rattle.std.proofs.Common.{◌≡◌, ℕ, ◌+◌, ◌<◌, ◌≤◌, Bool, true, false, ◌&&◌, cond, nat_eq, nat_le, nat_lt, List, [], ◌∷◌, ◌++◌, take, drop, length, get_or, Option, None, Some, refl, sym, ◌∙◌, ap, subst, arith, inl, inr, length-append, append_assoc}
use Rattle.std.proofs.lemmas.Bool.Decides.{nat_tests}
use Rattle.std.proofs.lemmas.Cmp.{nat_cmp_total, nat_list_cmp_total, tied_itself, upto}
use Rattle.std.proofs.lemmas.List.{take-append-drop, drop_more, take_at, get_or_at, take-take}
use Rattle.std.specs.Prelude.{IfSome, IsSome, is_some}
use Rattle.std.specs.BTreeMap as tree
use Rattle.std.specs.BTreeMap.{BTreeMap}
use Rattle.std.specs.BTreeMap.Range.{IsRangeOf}
use Rattle.std.specs.declared.ops.Bound.TheVariants.{Included, Unbounded}
use Rattle.std.specs.declared.cmp.Ordering.{Ordering}
use Rattle.std.specs.declared.cmp.Ordering.TheVariants.{Less, Equal, Greater}
use Rattle.std.specs.Ordering.{nat_cmp, is_gt, is_lt, ordering_then, ordering_reverse, eq_by_cmp}
use Rattle.std.specs.Cmp.Lexicographic.{slice_cmp}
use Rattle.std.specs.FinMap.{get, from_entries, insert, remove, empty, get-insert, get-remove, get-empty}
use lib.Pointwise.{pointwise}
use Rattle.base_types.proofs.NameMaps.{get-entries}
use Rattle.git_object.specs.declared.object_id.ObjectId.{ObjectId}
use Rattle.ref_store.specs.Refs.{Name, Refs, zero_id, moved, HasRefNames, HasNoZero, IsLe, IsLeastFrom, IsGreatestTo, IsLeastAtOdds, HasNoneAtOdds}
use Rattle.std.specs.Cmp.Lexicographic.{texts_ties}
use Rattle.ref_store.specs.Objects.{same_id}
use Rattle.ref_store.specs.RefName.{is_ref_name}
use Rattle.ref_store.specs.Odds.{HasNoDirectory}
use Rattle.ref_store.proofs.ObjectLemmas.{same_bytes, id_itself}

some_is : (o : Option ObjectId) (id : ObjectId) → o ≡ Some id → IsSome o
some_is None id is = cc
some_is (Some i) id is = refl

pub none_isnt : (o : Option ObjectId) → IsSome o → o ≡ None → ⊥
none_isnt None some is = let bad : false ≡ true = some in cc
none_isnt (Some i) some is = cc

-- the first of what a range gives
pub least_some : (refs : Refs) (m : BTreeMap Name ObjectId) (from n : Name) (id : ObjectId) (r t : List (Name × ObjectId)) → from_entries m.entries ≡ refs
    → IsRangeOf (slice_cmp nat_cmp) (Included from) Unbounded m r → r ≡ (n, id) ∷ t → IsLeastFrom refs from (Some n)
least_some refs m from n id r t is range first =
    let at = λ (q : Name). get-entries m q in
    let here = rw first at range.1 in (
      some_is (get refs n) id (ap (λ (s : Refs). get s n) (sym is) ∙ get-entries m n ∙ here.1),
      here.0.0,
      λ q from_q some. rw first at (range.2 q (from_q, tt) (subst IsSome (ap (λ (s : Refs). get s q) (sym is) ∙ get-entries m q) some)),
    )

pub least_none : (refs : Refs) (m : BTreeMap Name ObjectId) (from : Name) (r : List (Name × ObjectId)) → from_entries m.entries ≡ refs
    → IsRangeOf (slice_cmp nat_cmp) (Included from) Unbounded m r → r ≡ [] → IsLeastFrom refs from None
least_none refs m from r is range empty = λ q from_q. ap (λ (s : Refs). get s q) (sym is) ∙ get-entries m q ∙ range.5 empty q (from_q, tt)

not_less : (n q : Name) → is_lt (slice_cmp nat_cmp n q) ≡ false → IsLe q n
not_less n q least = by_order (slice_cmp nat_cmp n q) refl least
  where
    by_order : (o : Ordering) → slice_cmp nat_cmp n q ≡ o → is_lt o ≡ false → IsLe q n
    by_order Less is bad = cc bad
    by_order Equal is same = ap is_gt (nat_list_cmp_total.antisymm q n ∙ ap ordering_reverse is)
    by_order Greater is less = ap is_gt (nat_list_cmp_total.antisymm q n ∙ ap ordering_reverse is)

-- the last name of all is the nearest to one that is behind it
module _ (refs : Refs) (m : BTreeMap Name ObjectId) (last name : Name) (id : ObjectId) (is : from_entries m.entries ≡ refs) (there : tree.get (slice_cmp nat_cmp) m last ≡ Some id)
    (greatest : (q : Name) → IsSome (tree.get (slice_cmp nat_cmp) m q) → is_lt (slice_cmp nat_cmp last q) ≡ false) (before : is_lt (slice_cmp nat_cmp last name) ≡ true) where
  got : (q : Name) → get refs q ≡ tree.get (slice_cmp nat_cmp) m q
  got q = ap (λ (s : Refs). get s q) (sym is) ∙ get-entries m q

  not_behind : (q : Name) → IsSome (get refs q) → IsLe q last
  not_behind q some = not_less last q (greatest q (subst IsSome (got q) some))

  pub last_nearest : IsGreatestTo refs name (Some last)
  last_nearest = (some_is (get refs last) id (got last ∙ there), by_order (slice_cmp nat_cmp last name) before, λ q _ some. not_behind q some)
    where
      by_order : (o : Ordering) → is_lt o ≡ true → is_gt o ≡ false
      by_order Less less = refl
      by_order Equal less = refl
      by_order Greater less = cc less

  pub none_behind_last : IsLeastFrom refs name None
  none_behind_last q from_q = by_value (get refs q) refl
    where
      turned : (o : Ordering) → is_lt o ≡ true → is_gt (ordering_reverse o) ≡ true
      turned Less less = refl
      turned Equal less = cc less
      turned Greater less = cc less

      by_value : (o : Option ObjectId) → get refs q ≡ o → get refs q ≡ None
      by_value None none = none
      by_value (Some i) some =
          let le = upto nat_list_cmp_total name q last from_q (not_behind q (some_is (get refs q) i some)) in
          let gt = ap is_gt (nat_list_cmp_total.antisymm name last) ∙ turned (slice_cmp nat_cmp last name) before in
          let bad : true ≡ false = sym gt ∙ le in cc bad

-- where the last name of all is before one, that one isn't there
pub not_there : {A : Type 0} → (last : Option A) → (refs : Refs) (name : Name) → IfSome last (λ _. IsLeastFrom refs name None) → is_some last ≡ true → None ≡ get refs name
not_there None refs name behind some = cc some
not_there (Some a) refs name behind some = sym (behind name (ap is_gt (tied_itself nat_list_cmp_total name)))

-- the last of what a range gives
pub greatest_some : (refs : Refs) (m : BTreeMap Name ObjectId) (to n : Name) (id : ObjectId) (r t : List (Name × ObjectId)) → from_entries m.entries ≡ refs
    → IsRangeOf (slice_cmp nat_cmp) Unbounded (Included to) m r → r ≡ t ++ (n, id) ∷ [] → IsGreatestTo refs to (Some n)
greatest_some refs m to n id r t is range last =
    let here = range.3 (n, id) t last in (
      some_is (get refs n) id (ap (λ (s : Refs). get s n) (sym is) ∙ get-entries m n ∙ here.1),
      here.0.1,
      λ q to_q some. not_less n q (range.4 (n, id) t last q (tt, to_q) (subst IsSome (ap (λ (s : Refs). get s q) (sym is) ∙ get-entries m q) some)),
    )

pub greatest_none : (refs : Refs) (m : BTreeMap Name ObjectId) (to : Name) (r : List (Name × ObjectId)) → from_entries m.entries ≡ refs
    → IsRangeOf (slice_cmp nat_cmp) Unbounded (Included to) m r → r ≡ [] → IsGreatestTo refs to None
greatest_none refs m to r is range empty = λ q to_q. ap (λ (s : Refs). get s q) (sym is) ∙ get-entries m q ∙ range.5 empty q (tt, to_q)

-- a beginning is not behind the whole
pub prefix_le : (xs ys : Name) → IsLe xs (xs ++ ys)
prefix_le [] [] = refl
prefix_le [] (y ∷ ys) = refl
prefix_le (x ∷ xs) ys = ap (λ o. is_gt (ordering_then o (slice_cmp nat_cmp xs (xs ++ ys)))) (tied_itself nat_cmp_total x) ∙ prefix_le xs ys

past_step : (f e : ℕ) (b : Bool) (r s : Ordering) → (is_gt r ≡ false → b ≡ false → is_gt s ≡ true) → is_gt (ordering_then (nat_cmp f e) r) ≡ false → (nat_eq f e && b) ≡ false → is_gt (ordering_then (nat_cmp e f) s) ≡ true
past_step f e b r s rest le unlike = by_order (nat_lt f e) refl (nat_eq f e) refl
  where
    by_order : (c : Bool) → nat_lt f e ≡ c → (d : Bool) → nat_eq f e ≡ d → is_gt (ordering_then (nat_cmp e f) s) ≡ true
    by_order true lt d eq = let o : nat_cmp e f ≡ Greater = grind (arith, nat_tests) in ap (λ o. is_gt (ordering_then o s)) o
    by_order false lt true eq =
        let o : nat_cmp e f ≡ Equal = grind (arith, nat_tests) in
        let p : nat_cmp f e ≡ Equal = grind (arith, nat_tests) in
        ap (λ o. is_gt (ordering_then o s)) o ∙ rest (ap (λ o. is_gt (ordering_then o r)) (sym p) ∙ le) (ap (λ c. c && b) (sym eq) ∙ unlike)
    by_order false lt false eq =
        let p : nat_cmp f e ≡ Greater = grind (arith, nat_tests) in
        let bad = ap (λ o. is_gt (ordering_then o r)) (sym p) ∙ le in
        absurd (cc bad)

-- what is not before some bytes and doesn't begin with them is behind all that does
past_front : (front found rest : Name) → IsLe front found → pointwise nat_eq front (take (length front) found) ≡ false → is_gt (slice_cmp nat_cmp found (front ++ rest)) ≡ true
past_front [] found rest le unlike = cc
past_front (f ∷ fs) [] rest le unlike = cc
past_front (f ∷ fs) (e ∷ es) rest le unlike = past_step f e (pointwise nat_eq fs (take (length fs) es)) (slice_cmp nat_cmp fs es) (slice_cmp nat_cmp es (fs ++ rest)) (past_front fs es rest) le unlike

-- where a directory of the name ends
pub dir_ends : (name dir rest : Name) → name ≡ dir ++ 47 ∷ rest → (length dir < length name) × (get_or name (length dir) 0 ≡ 47) × (take (length dir) name ≡ dir)
dir_ends name dir rest is = (
  omega (arith, ap length is, length-append dir (47 ∷ rest)),
  ap (λ (l : Name). get_or l (length dir) 0) is ∙ get_or_at dir 47 rest 0 (length dir) refl,
  ap (take (length dir)) is ∙ take_at dir (47 ∷ rest) (length dir) refl,
)

pub no_directory : (refs : Refs) (name : Name) → ((j : ℕ) → j < length name → get_or name j 0 ≡ 47 → get refs (take j name) ≡ None) → HasNoDirectory refs name
no_directory refs name none q some below =
    let ends = dir_ends name q below.0 below.1 in
    none_isnt (get refs q) some (ap (get refs) (sym ends.2) ∙ none (length q) ends.0 ends.1)

-- the first directory of the name that is a ref is the least ref at odds with it
pub first_directory : (refs : Refs) (name : Name) (i : ℕ) → i < length name → get_or name i 0 ≡ 47 → IsSome (get refs (take i name)) → ((j : ℕ) → j < i → get_or name j 0 ≡ 47 → get refs (take j name) ≡ None) → IsLeastAtOdds refs name (take i name)
first_directory refs name i below slash some none = record {
  there = some;
  at_odds = inr (drop (i + 1) name, sym (take-append-drop i name) ∙ ap (λ l. take i name ++ l) (drop_more name i 0 below ∙ ap (λ c. c ∷ drop (i + 1) name) slash));
  least = λ q some_q odds. elim odds [
    | inl w ↦ subst (IsLe (take i name)) (sym (append_assoc (take i name) (drop i name) (47 ∷ w.0)) ∙ ap (λ l. l ++ 47 ∷ w.0) (take-append-drop i name) ∙ sym w.1) (prefix_le (take i name) (drop i name ++ 47 ∷ w.0))
    | inr w ↦ longer q some_q w.0 w.1 (nat_lt (length q) i) refl
  ];
}
  where
    longer : (q : Name) → IsSome (get refs q) → (rest : Name) → name ≡ q ++ 47 ∷ rest → (b : Bool) → nat_lt (length q) i ≡ b → IsLe (take i name) q
    longer q some_q rest is true shorter =
        let ends = dir_ends name q rest is in
        let lt : length q < i = grind (arith, nat_tests) in
        absurd (none_isnt (get refs q) some_q (ap (get refs) (sym ends.2) ∙ none (length q) lt ends.1))
    longer q some_q rest is false e =
        let ends = dir_ends name q rest is in
        let le : i ≤ length q = grind (arith, nat_tests) in
        let same : take i name ≡ take i q = sym (take-take i (length q) name le) ∙ ap (take i) ends.2 in
        subst (λ (d : Name). IsLe d q) (sym same) (subst (IsLe (take i q)) (take-append-drop i q) (prefix_le (take i q) (drop i q)))

behind_front : (name rest : Name) → name ++ 47 ∷ rest ≡ (name ++ 47 ∷ []) ++ rest
behind_front name rest = sym (append_assoc name (47 ∷ []) rest)

pub below_found : (refs : Refs) (name front found : Name) → front ≡ name ++ 47 ∷ [] → HasNoDirectory refs name → IsLeastFrom refs front (Some found) → pointwise nat_eq front (take (length front) found) ≡ true → IsLeastAtOdds refs name found
below_found refs name front found is none first starts = record {
  there = first.0;
  at_odds = inl (
    drop (length front) found,
    sym (take-append-drop (length front) found) ∙ ap (λ l. l ++ drop (length front) found) (sym (same_bytes front (take (length front) found) starts) ∙ is) ∙ sym (behind_front name (drop (length front) found)),
  );
  least = λ q some odds. elim odds [
    | inl w ↦ first.2 q (subst (IsLe front) (ap (λ l. l ++ w.0) is ∙ sym (behind_front name w.0) ∙ sym w.1) (prefix_le front w.0)) some
    | inr w ↦ absurd (none q some w)
  ];
}

pub below_past : (refs : Refs) (name front found : Name) → front ≡ name ++ 47 ∷ [] → HasNoDirectory refs name → IsLeastFrom refs front (Some found) → pointwise nat_eq front (take (length front) found) ≡ false → HasNoneAtOdds refs name
below_past refs name front found is none first unlike = λ q some odds. elim odds [
  | inl w ↦
      let there : front ++ w.0 ≡ q = ap (λ l. l ++ w.0) is ∙ sym (behind_front name w.0) ∙ sym w.1 in
      let le = first.2 q (subst (IsLe front) there (prefix_le front w.0)) some in
      let gt = ap (λ l. is_gt (slice_cmp nat_cmp found l)) (sym there) ∙ past_front front found w.0 first.1 unlike in
      cc (le, gt)
  | inr w ↦ none q some w
]

pub below_none : (refs : Refs) (name front : Name) → front ≡ name ++ 47 ∷ [] → HasNoDirectory refs name → IsLeastFrom refs front None → HasNoneAtOdds refs name
below_none refs name front is none first = λ q some odds. elim odds [
  | inl w ↦ none_isnt (get refs q) some (first q (subst (IsLe front) (ap (λ l. l ++ w.0) is ∙ sym (behind_front name w.0) ∙ sym w.1) (prefix_le front w.0)))
  | inr w ↦ none q some w
]

pub no_ref_names : HasRefNames empty
no_ref_names q some = absurd (none_isnt (get empty q) some (get-empty {X = ObjectId} (slice_cmp nat_cmp) q))

-- a ref more, whose name is one
pub one_ref_more : (refs : Refs) (name : Name) (id : ObjectId) → is_ref_name name ≡ true → HasRefNames refs → HasRefNames (insert refs name id)
one_ref_more refs name id good all q some = by_name (eq_by_cmp (slice_cmp nat_cmp) q name) refl (subst IsSome (get-insert nat_list_cmp_total refs name id q) some)
  where
    by_name : (b : Bool) → eq_by_cmp (slice_cmp nat_cmp) q name ≡ b → IsSome (cond b (Some id) (get refs q)) → is_ref_name q ≡ true
    by_name true same here = ap is_ref_name (same_bytes q name (texts_ties q name ∙ same)) ∙ good
    by_name false other here = all q here

pub one_ref_less : (refs : Refs) (name : Name) → HasRefNames refs → HasRefNames (remove refs name)
one_ref_less refs name all q some = by_name (eq_by_cmp (slice_cmp nat_cmp) q name) (subst IsSome (get-remove nat_list_cmp_total refs name q) some)
  where
    by_name : (b : Bool) → IsSome (cond b None (get refs q)) → is_ref_name q ≡ true
    by_name true here = let bad : false ≡ true = here in cc
    by_name false here = all q here

pub no_zero : HasNoZero empty
no_zero q id is = let none = get-empty {X = ObjectId} (slice_cmp nat_cmp) q in absurd (cc (none, is))

pub no_zero_more : (refs : Refs) (name : Name) (new : ObjectId) → same_id new zero_id ≡ false → HasNoZero refs → HasNoZero (insert refs name new)
no_zero_more refs name new other all q id is zero = by_name (eq_by_cmp (slice_cmp nat_cmp) q name) (sym (get-insert nat_list_cmp_total refs name new q) ∙ is)
  where
    by_name : (b : Bool) → cond b (Some new) (get refs q) ≡ Some id → ⊥
    by_name true here =
        let e : new ≡ id = cc in
        let same : same_id new zero_id ≡ true = ap (λ (i : ObjectId). same_id i zero_id) (e ∙ zero) ∙ id_itself zero_id in
        cc (same, other)
    by_name false here = all q id here zero

pub no_zero_less : (refs : Refs) (name : Name) → HasNoZero refs → HasNoZero (remove refs name)
no_zero_less refs name all q id is zero = by_name (eq_by_cmp (slice_cmp nat_cmp) q name) (sym (get-remove nat_list_cmp_total refs name q) ∙ is)
  where
    by_name : (b : Bool) → cond b None (get refs q) ≡ Some id → ⊥
    by_name true here = cc here
    by_name false here = all q id here zero

-- a value that isn't zero is put in place
pub moved_some : (refs : Refs) (name : Name) (new : ObjectId) → same_id new zero_id ≡ false → insert refs name new ≡ moved refs name new
moved_some refs name new other = sym (ap (λ b. cond b (remove refs name) (insert refs name new)) other)

-- a name that a ref may have has 1,024 bytes at most
pub name_short : (name : Name) → is_ref_name name ≡ true → length name ≤ 1024
name_short name is = by_length (nat_le (length name) 1024) refl
  where
    first_true : (a b : Bool) → (a && b) ≡ true → a ≡ true
    first_true true b both = refl
    first_true false b both = cc

    by_length : (b : Bool) → nat_le (length name) 1024 ≡ b → length name ≤ 1024
    by_length true le = grind (arith, nat_tests)
    by_length false le = let yes : nat_le (length name) 1024 ≡ true = first_true _ _ (first_true _ _ (first_true _ _ (first_true _ _ (first_true _ _ (first_true _ _ (first_true _ _ is)))))) in absurd (cc (yes, le))
