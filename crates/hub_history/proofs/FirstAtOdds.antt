-- The first ref at odds with a name is the least.
use Rattle.std.proofs.Common.{◌≡◌, ◌⊎◌, inl, inr, ℕ, List, [], ◌∷◌, ◌++◌, take, drop, length, append_assoc, refl, sym, ◌∙◌, ap, subst, Bool, true, false, ◌&&◌, ◌||◌, cond, map, T}
use Rattle.std.proofs.lemmas.List.{take-append-drop}
use Rattle.std.proofs.lemmas.Cmp.{nat_list_cmp_total, tied_itself}
use Rattle.std.specs.Prelude.{Some, IsSome, is_some}
use Rattle.std.specs.List.{find as first_of}
use Rattle.std.specs.declared.cmp.Ordering.{Ordering}
use Rattle.std.specs.declared.cmp.Ordering.TheVariants.{Less, Equal, Greater}
use Rattle.std.specs.Ordering.{nat_cmp, is_gt, is_lt, is_eq, eq_by_cmp}
use Rattle.std.specs.Cmp.Lexicographic.{slice_cmp, texts_ties}
use Rattle.std.specs.FinMap.{entries, entries_sorted, find, is_sorted, get-entries}
use Rattle.std.specs.FinMap.Entries.{below_all}
use Rattle.git_object.specs.declared.object_id.ObjectId.{ObjectId}
use Rattle.ref_store.specs.Refs.{AreAtOdds, IsBelow, IsLe, IsLeastAtOdds, Name, Refs, are_at_odds, first_at_odds, is_below}
use Rattle.ref_store.proofs.ObjectLemmas.{same_bytes}
use Rattle.ref_store.proofs.OddsLemmas.{test_of_odds}
use Rattle.hub_history.proofs.HistoryLemmas.{some_same}

-- ---- what the tests say

below_by_test : (name dir : Name) → is_below name dir ≡ true → IsBelow name dir
below_by_test name dir is =
    let n : ℕ = length (dir ++ 47 ∷ []) in
    (drop n name, sym (take-append-drop n name) ∙ ap (λ l. l ++ drop n name) (sym (same_bytes (dir ++ 47 ∷ []) (take n name) is)) ∙ append_assoc dir (47 ∷ []) (drop n name))

odds_by_test : (a b : Name) → are_at_odds a b ≡ true → AreAtOdds a b
odds_by_test a b is = by_tests (is_below a b) refl is
  where
    by_tests : (t : Bool) → is_below a b ≡ t → (t || is_below b a) ≡ true → AreAtOdds a b
    by_tests true below is = inl (below_by_test a b below)
    by_tests false apart is = inr (below_by_test b a is)

-- ---- in order

abbrev cmp : Name → Name → Ordering
cmp = slice_cmp nat_cmp

le_itself : (a : Name) → IsLe a a
le_itself a = ap is_gt (tied_itself nat_list_cmp_total a)

less_le : (a b : Name) → T (is_lt (cmp a b)) → IsLe a b
less_le a b less = by_order (cmp a b) less
  where
    by_order : (o : Ordering) → T (is_lt o) → is_gt o ≡ false
    by_order Less t = refl
    by_order Equal t = refl
    by_order Greater t = absurd t

both_of : (a b : Bool) → T (a && b) → T a × T b
both_of true b both = (tt, both)
both_of false b both = absurd both

here_or_later : (q : Name) (e : Name × ObjectId) (es : List (Name × ObjectId)) → IsSome (find cmp q (e ∷ es)) → (q ≡ e.0) ⊎ IsSome (find cmp q es)
here_or_later q e es some = by_tie (eq_by_cmp cmp q e.0) refl some
  where
    by_tie : (b : Bool) → eq_by_cmp cmp q e.0 ≡ b → IsSome (cond b (Some e.1) (find cmp q es)) → (q ≡ e.0) ⊎ IsSome (find cmp q es)
    by_tie true tie here = inl (same_bytes q e.0 (texts_ties q e.0 ∙ tie))
    by_tie false tie later = inr later

-- what stands behind is not less
behind_le : (a q : Name) (es : List (Name × ObjectId)) → T (below_all cmp a es) → IsSome (find cmp q es) → IsLe a q
behind_le a q [] below some = let bad : false ≡ true = some in cc
behind_le a q (e ∷ es) below some =
    let parts = both_of (is_lt (cmp a e.0)) (below_all cmp a es) below in
    elim (here_or_later q e es some) [
      | inl same ↦ subst (IsLe a) (sym same) (less_le a e.0 parts.0)
      | inr later ↦ behind_le a q es parts.1 later
    ]

-- the first that passes is there, and is the least that does
record IsLeastPassing (p : Name → Bool) (es : List (Name × ObjectId)) (r : Name) : Type 0 where
  pub there : IsSome (find cmp r es)
  pub passes : p r ≡ true
  pub least : (q : Name) → IsSome (find cmp q es) → p q ≡ true → IsLe r q

first_least : (p : Name → Bool) (r : Name) (es : List (Name × ObjectId)) → T (is_sorted cmp es) → first_of p (map (λ e. e.0) es) ≡ Some r → IsLeastPassing p es r
first_least p r [] sorted first = cc
first_least p r (e ∷ es) sorted first = by_test (p e.0) refl first (λ later. first_least p r es parts.1 later)
  where
    parts : T (below_all cmp e.0 es) × T (is_sorted cmp es)
    parts = both_of (below_all cmp e.0 es) (is_sorted cmp es) sorted

    here : e.0 ≡ r → p e.0 ≡ true → IsLeastPassing p (e ∷ es) r
    here same passes = subst (IsLeastPassing p (e ∷ es)) same (record {
      there = ap (λ o. is_some (cond (is_eq o) (Some e.1) (find cmp e.0 es))) (tied_itself nat_list_cmp_total e.0);
      passes = passes;
      least = λ q some passes_q. elim (here_or_later q e es some) [ inl same_q ↦ subst (IsLe e.0) (sym same_q) (le_itself e.0) | inr later ↦ behind_le e.0 q es parts.0 later ];
    })

    later_there : (b : Bool) → IsSome (find cmp r es) → IsSome (cond b (Some e.1) (find cmp r es))
    later_there true some = refl
    later_there false some = some

    behind : p e.0 ≡ false → IsLeastPassing p es r → IsLeastPassing p (e ∷ es) r
    behind fails rest = record {
      there = later_there (eq_by_cmp cmp r e.0) rest.there;
      passes = rest.passes;
      least = λ q some passes_q. elim (here_or_later q e es some) [ inl same ↦ absurd (let bad : true ≡ false = sym passes_q ∙ ap p same ∙ fails in cc) | inr later ↦ rest.least q later passes_q ];
    }

    by_test : (b : Bool) → p e.0 ≡ b → cond b (Some e.0) (first_of p (map (λ (x : Name × ObjectId). x.0) es)) ≡ Some r → (first_of p (map (λ (x : Name × ObjectId). x.0) es) ≡ Some r → IsLeastPassing p es r) → IsLeastPassing p (e ∷ es) r
    by_test true passes first rest = here (some_same first) passes
    by_test false fails first rest = behind fails (rest first)

pub first_is_least : (refs : Refs) (name r : Name) → first_at_odds refs name ≡ Some r → IsLeastAtOdds refs name r
first_is_least refs name r first =
    let least = first_least (λ q. are_at_odds q name) r (entries refs) (entries_sorted refs) first in
    record {
      there = subst IsSome (sym (get-entries refs r)) least.there;
      at_odds = odds_by_test r name least.passes;
      least = λ q some odds. least.least q (subst IsSome (get-entries refs q) some) (test_of_odds q name odds);
    }
