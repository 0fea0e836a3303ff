-- No ref is a directory of another, and where a directory of a name then ends.
use Rattle.std.proofs.Common.{◌≡◌, ◌⊎◌, inl, inr, ℕ, suc, ◌+◌, ◌<◌, ◌≤◌, nat_lt, [], ◌∷◌, ◌++◌, take, drop, refl, sym, ◌∙◌, ap, subst, Bool, true, false, cond, length, get_or, length-append, arith}
use Rattle.std.proofs.lemmas.Bool.Decides.{nat_tests}
use Rattle.std.proofs.lemmas.Cmp.{nat_list_cmp_total}
use Rattle.std.proofs.lemmas.List.{take-append-drop, drop_more, drop_all, length-take-le}
use Rattle.std.specs.Prelude.{Option, Some, None, IsSome, is_some, ◌==◌, Result, Ok, Err, IfOk}
use Rattle.base_types.specs.declared.no_memory.NoMemory.{NoMemory}
use Rattle.std.specs.Option.{unwrap_or}
use Rattle.std.specs.declared.cmp.Ordering.TheVariants.{Equal, Greater}
use Rattle.std.specs.Ordering.{nat_cmp, is_gt, eq_by_cmp, ordering_then}
use Rattle.std.specs.Cmp.Lexicographic.{slice_cmp, texts_ties}
use Rattle.std.specs.FinMap.{get, insert, remove, empty, get-insert, get-remove, get-empty}
use Rattle.git_object.specs.declared.object_id.ObjectId.{ObjectId}
use Rattle.ref_store.specs.Objects.{same_id}
use Rattle.ref_store.specs.Refs.{Name, Refs, zero_id, value, moved, IsLe, IsBelow, AreAtOdds, HasNoneAtOdds, HasRefsApart, IsGreatestTo, IsLeastAtOdds}
use Rattle.ref_store.specs.Odds.{common, HasNoDirectory, TellsOfDirectory, TellsOfPlace}
use Rattle.ref_store.proofs.ObjectLemmas.{same_bytes, id_itself}
use Rattle.ref_store.proofs.RefLemmas.{none_isnt, prefix_le, dir_ends, first_directory}

-- I. What keeps refs apart

below_itself : (name : Name) → IsBelow name name → ⊥
below_itself name below = omega (arith, ap length below.1, length-append name (47 ∷ below.0))

odds_itself : (name : Name) → ¬ AreAtOdds name name
odds_itself name (inl below) = below_itself name below
odds_itself name (inr below) = below_itself name below

odds_swapped : (a b : Name) → AreAtOdds a b → AreAtOdds b a
odds_swapped a b (inl below) = inr below
odds_swapped a b (inr below) = inl below

inserted : (refs : Refs) (name : Name) (id : ObjectId) (q : Name) → IsSome (get (insert refs name id) q) → (q ≡ name) ⊎ IsSome (get refs q)
inserted refs name id q some = by_name (eq_by_cmp (slice_cmp nat_cmp) q name) refl (subst IsSome (get-insert nat_list_cmp_total refs name id q) some)
  where
    by_name : (b : Bool) → eq_by_cmp (slice_cmp nat_cmp) q name ≡ b → IsSome (cond b (Some id) (get refs q)) → (q ≡ name) ⊎ IsSome (get refs q)
    by_name true same some = inl (same_bytes q name (texts_ties q name ∙ same))
    by_name false other some = inr some

pub apart-insert : (refs : Refs) (name : Name) (id : ObjectId) → HasNoneAtOdds refs name → HasRefsApart refs → HasRefsApart (insert refs name id)
apart-insert refs name id none apart one one_there two two_there = by_names (inserted refs name id one one_there) (inserted refs name id two two_there)
  where
    by_names : (one ≡ name) ⊎ IsSome (get refs one) → (two ≡ name) ⊎ IsSome (get refs two) → ¬ AreAtOdds two one
    by_names (inl new) (inl also) odds = odds_itself name (subst (λ (n : Name). AreAtOdds n name) also (subst (λ (n : Name). AreAtOdds two n) new odds))
    by_names (inl new) (inr there) odds = none two there (subst (λ (n : Name). AreAtOdds two n) new odds)
    by_names (inr there) (inl new) odds = none one there (odds_swapped name one (subst (λ (n : Name). AreAtOdds n one) new odds))
    by_names (inr there) (inr also) odds = apart one there two also odds

removed : (refs : Refs) (name q : Name) → IsSome (get (remove refs name) q) → IsSome (get refs q)
removed refs name q some = by_name (eq_by_cmp (slice_cmp nat_cmp) q name) (subst IsSome (get-remove nat_list_cmp_total refs name q) some)
  where
    by_name : (b : Bool) → IsSome (cond b None (get refs q)) → IsSome (get refs q)
    by_name true some = let bad : false ≡ true = some in cc
    by_name false some = some

pub apart-remove : (refs : Refs) (name : Name) → HasRefsApart refs → HasRefsApart (remove refs name)
apart-remove refs name apart one one_there two two_there = apart one (removed refs name one one_there) two (removed refs name two two_there)

pub apart-moved : (refs : Refs) (name : Name) (new : ObjectId) → HasNoneAtOdds refs name → HasRefsApart refs → HasRefsApart (moved refs name new)
apart-moved refs name new none apart = by_zero (same_id new zero_id)
  where
    by_zero : (b : Bool) → HasRefsApart (cond b (remove refs name) (insert refs name new))
    by_zero true = apart-remove refs name apart
    by_zero false = apart-insert refs name new none apart

pub apart-empty : HasRefsApart empty
apart-empty name some = let bad : false ≡ true = ap is_some (sym (get-empty {X = ObjectId} (slice_cmp nat_cmp) name)) ∙ some in cc

-- a ref whose value is another than zero is there
pub there_by_value : (refs : Refs) (name : Name) (old : ObjectId) → value refs name ≡ old → same_id old zero_id ≡ false → IsSome (get refs name)
there_by_value refs name old is other = by_get (get refs name) is
  where
    by_get : (o : Option ObjectId) → unwrap_or o zero_id ≡ old → IsSome o
    by_get None is = let zero : same_id old zero_id ≡ true = ap (λ (id : ObjectId). same_id id zero_id) (sym is) ∙ id_itself zero_id in cc (zero, other)
    by_get (Some id) is = refl

-- II. Where a directory of a name ends

-- what lies between a beginning and the whole has that beginning
between : (d q r : Name) → IsLe d q → IsLe q (d ++ r) → (e : Name) × (q ≡ d ++ e)
between [] q r from to = (q, refl)
between (x ∷ d) [] r from to = let bad : true ≡ false = from in cc
between (x ∷ d) (y ∷ q) r from to = by_order (between d q r) (nat_lt x y) refl (nat_lt y x) refl
  where
    by_order : (IsLe d q → IsLe q (d ++ r) → (e : Name) × (q ≡ d ++ e)) → (b : Bool) → nat_lt x y ≡ b → (c : Bool) → nat_lt y x ≡ c → (e : Name) × ((y ∷ q) ≡ (x ∷ d) ++ e)
    by_order go true lt c e =
        let o : nat_cmp y x ≡ Greater = grind (arith, nat_tests) in
        let bad = ap (λ o. is_gt (ordering_then o (slice_cmp nat_cmp q (d ++ r)))) (sym o) ∙ to in
        absurd (cc bad)
    by_order go false lt true gt =
        let o : nat_cmp x y ≡ Greater = grind (arith, nat_tests) in
        let bad = ap (λ o. is_gt (ordering_then o (slice_cmp nat_cmp d q))) (sym o) ∙ from in
        absurd (cc bad)
    by_order go false lt false gt =
        let same : x ≡ y = grind (arith, nat_tests) in
        let there : nat_cmp x y ≡ Equal = grind (arith, nat_tests) in
        let back : nat_cmp y x ≡ Equal = grind (arith, nat_tests) in
        let rest = go
        (ap (λ o. is_gt (ordering_then o (slice_cmp nat_cmp d q))) (sym there) ∙ from)
        (ap (λ o. is_gt (ordering_then o (slice_cmp nat_cmp q (d ++ r)))) (sym back) ∙ to) in
        (rest.0, ap (λ (n : ℕ). n ∷ q) (sym same) ∙ ap (λ (l : Name). x ∷ l) rest.1)

itself : (x : ℕ) → (x == x) ≡ true
itself x = grind (arith, nat_tests)

-- what follows a common beginning
common_behind : (d a b : Name) → common (d ++ a) (d ++ b) ≡ length d + common a b
common_behind [] a b = omega (arith)
common_behind (x ∷ d) a b =
    let first : common ((x ∷ d) ++ a) ((x ∷ d) ++ b) ≡ suc (common (d ++ a) (d ++ b)) = ap (λ t. cond t (suc (common (d ++ a) (d ++ b))) 0) (itself x) in
    omega (arith, first, common_behind d a b)

-- a directory of the name ends where the name and the nearest ref before it part
ends_there : (refs : Refs) (name q d rest : Name) → HasRefsApart refs → IsGreatestTo refs name (Some q) → IsSome (get refs d) → name ≡ d ++ 47 ∷ rest → length d ≡ common q name
ends_there refs name q d rest apart greatest there is = by_rest part.0 part.1
  where
    before : IsLe d name
    before = subst (IsLe d) (sym is) (prefix_le d (47 ∷ rest))

    part : (e : Name) × (q ≡ d ++ e)
    part = between d q (47 ∷ rest) (greatest.2 d before there) (subst (IsLe q) is greatest.1)

    at : (e : Name) → q ≡ d ++ e → common e (47 ∷ rest) ≡ 0 → length d ≡ common q name
    at e of none = omega (arith, none, common_behind d e (47 ∷ rest)) ∙ sym (ap (λ (l : Name). common l name) of ∙ ap (common (d ++ e)) is)

    by_byte : (c : ℕ) (e : Name) → q ≡ d ++ c ∷ e → (b : Bool) → (c == 47) ≡ b → length d ≡ common q name
    by_byte c e of true slash =
        let same : c ≡ 47 = grind (arith, nat_tests) in
        absurd (apart d there q greatest.0 (inl (e, of ∙ ap (λ (n : ℕ). d ++ n ∷ e) same)))
    by_byte c e of false other = at (c ∷ e) of (ap (λ t. cond t (suc (common e rest)) 0) other)

    by_rest : (e : Name) → q ≡ d ++ e → length d ≡ common q name
    by_rest [] of = at [] of refl
    by_rest (c ∷ e) of = by_byte c e of (c == 47) refl

-- where there is no ref before the name, none is a directory of it
pub none_before : (refs : Refs) (name : Name) → IsGreatestTo refs name None → HasNoDirectory refs name
none_before refs name none q some below = none_isnt (get refs q) some (none q (subst (IsLe q) (sym below.1) (prefix_le q (47 ∷ below.0))))

-- where the two part at the name's end, none is
pub none_at_end : (refs : Refs) (name q : Name) → HasRefsApart refs → IsGreatestTo refs name (Some q) → length name ≤ common q name → HasNoDirectory refs name
none_at_end refs name q apart greatest end d some below =
    let ends = dir_ends name d below.0 below.1 in
    omega (arith, ends.0, end, ends_there refs name q d below.0 apart greatest some below.1)

-- where what ends there is no ref, none is
none_there : (refs : Refs) (name q : Name) → HasRefsApart refs → IsGreatestTo refs name (Some q) → (get_or name (common q name) 0 ≡ 47 → get refs (take (common q name) name) ≡ None) → HasNoDirectory refs name
none_there refs name q apart greatest none d some below =
    let ends = dir_ends name d below.0 below.1 in
    let end = ends_there refs name q d below.0 apart greatest some below.1 in
    none_isnt (get refs d) some (ap (get refs) (sym ends.2 ∙ ap (λ n. take n name) end) ∙ none (ap (λ n. get_or name n 0) (sym end) ∙ ends.1))

at_slash : (name : Name) (j : ℕ) → j < length name → get_or name j 0 ≡ 47 → name ≡ take j name ++ 47 ∷ drop (j + 1) name
at_slash name j below slash = sym (take-append-drop j name) ∙ ap (λ l. take j name ++ l) (drop_more name j 0 below ∙ ap (λ c. c ∷ drop (j + 1) name) slash)

-- a ref that ends there is the least ref at odds with the name
least_there : (refs : Refs) (name q : Name) → HasRefsApart refs → IsGreatestTo refs name (Some q) → common q name < length name → get_or name (common q name) 0 ≡ 47 → IsSome (get refs (take (common q name) name)) → IsLeastAtOdds refs name (take (common q name) name)
least_there refs name q apart greatest below slash some = first_directory refs name (common q name) below slash some (λ j lt slash_j. by_get j lt slash_j (get refs (take j name)) refl)
  where
    by_get : (j : ℕ) → j < common q name → get_or name j 0 ≡ 47 → (o : Option ObjectId) → get refs (take j name) ≡ o → get refs (take j name) ≡ None
    by_get j lt slash_j None is = is
    by_get j lt slash_j (Some id) is =
        let end = ends_there refs name q (take j name) (drop (j + 1) name) apart greatest (ap is_some is) (at_slash name j (omega (arith, lt, below)) slash_j) in
        absurd (omega (arith, lt, end, length-take-le j name (omega (arith, lt, below))))

-- what is told of the place where a name and the nearest ref before it part, is told of all directories of
-- the name
told_there : (refs : Refs) (name q : Name) (i : ℕ) → HasRefsApart refs → IsGreatestTo refs name (Some q) → i ≡ common q name → i < length name → (told : Option Name) → TellsOfPlace refs name i told → TellsOfDirectory refs name told
told_there refs name q i apart greatest is below None none = none_there refs name q apart greatest (subst (λ (n : ℕ). get_or name n 0 ≡ 47 → get refs (take n name) ≡ None) is none)
told_there refs name q i apart greatest is below (Some r) told =
    subst (IsLeastAtOdds refs name) (sym told.1)
    (subst (λ (n : ℕ). IsLeastAtOdds refs name (take n name)) (sym is)
    (least_there refs name q apart greatest (subst (λ (n : ℕ). n < length name) is below) (subst (λ (n : ℕ). get_or name n 0 ≡ 47) is told.0) (subst (λ (n : ℕ). IsSome (get refs (take n name))) is told.2)))

pub all_told_there : (refs : Refs) (name q : Name) (i : ℕ) → HasRefsApart refs → IsGreatestTo refs name (Some q) → i ≡ common q name → i < length name → (r : Result (Option Name) NoMemory) → IfOk r (TellsOfPlace refs name i) → IfOk r (TellsOfDirectory refs name)
all_told_there refs name q i apart greatest is below (Ok told) there = told_there refs name q i apart greatest is below told there
all_told_there refs name q i apart greatest is below (Err e) there = tt

-- III. What two names have in common

common_nothing : (a : Name) → common a [] ≡ 0
common_nothing [] = refl
common_nothing (x ∷ a) = refl

pub common_past : (a b : Name) (i : ℕ) → length b ≤ i → common (drop i a) (drop i b) ≡ 0
common_past a b i le = ap (common (drop i a)) (drop_all i b le) ∙ common_nothing (drop i a)
