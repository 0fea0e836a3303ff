-- The first of the refs, in byte order, that can't stand beside a name.
use Rattle.std.proofs.Common.{◌≡◌, ℕ, Bool, true, false, ◌||◌, ◌&&◌, cond, nat_eq, List, [], ◌∷◌, ◌++◌, map, take, drop, length, Option, None, Some, refl, sym, ◌∙◌, ap, subst, T, inl, inr, append_assoc, ◌⊎◌}
use Rattle.std.proofs.lemmas.Cmp.{nat_list_cmp_total, tied_itself}
use Rattle.std.proofs.lemmas.List.{take-append-drop, take_at}
use Rattle.std.specs.Prelude.{IsSome, is_some}
use Rattle.std.specs.List.{find as first_of}
use Rattle.std.specs.declared.cmp.Ordering.{Ordering}
use Rattle.std.specs.declared.cmp.Ordering.TheVariants.{Less, Equal, Greater}
use Rattle.std.specs.Ordering.{nat_cmp, is_gt, is_lt, is_eq, eq_by_cmp, ordering_reverse}
use Rattle.std.specs.Cmp.Lexicographic.{slice_cmp, texts_ties}
use Rattle.std.specs.FinMap.{get, entries, entries_sorted, find, is_sorted, get-entries}
use Rattle.std.specs.FinMap.Entries.{below_all}
use lib.Pointwise.{pointwise}
use Rattle.git_object.specs.declared.object_id.ObjectId.{ObjectId}
use Rattle.ref_store.specs.Refs.{Name, Refs, IsLe, IsBelow, AreAtOdds, TellsOfOdds, is_below, are_at_odds, first_at_odds}
use Rattle.ref_store.proofs.ObjectLemmas.{same_bytes}

same_itself : (xs : List ℕ) → pointwise nat_eq xs xs ≡ true
same_itself xs = texts_ties xs xs ∙ ap is_eq (tied_itself nat_list_cmp_total xs)

-- the tests say what the relations say
below_by_test : (name dir : Name) → is_below name dir ≡ true → IsBelow name dir
below_by_test name dir is =
    let n : ℕ = length (dir ++ 47 ∷ []) in
    (drop n name, sym (take-append-drop n name) ∙ ap (λ l. l ++ drop n name) (sym (same_bytes (dir ++ 47 ∷ []) (take n name) is)) ∙ append_assoc dir (47 ∷ []) (drop n name))

test_of_below : (name dir : Name) → IsBelow name dir → is_below name dir ≡ true
test_of_below name dir below =
    let is : name ≡ (dir ++ 47 ∷ []) ++ below.0 = below.1 ∙ sym (append_assoc dir (47 ∷ []) below.0) in
    ap (λ (l : Name). pointwise nat_eq (dir ++ 47 ∷ []) (take (length (dir ++ 47 ∷ [])) l)) is
    ∙ ap (λ (l : Name). pointwise nat_eq (dir ++ 47 ∷ []) l) (take_at (dir ++ 47 ∷ []) below.0 (length (dir ++ 47 ∷ [])) refl)
    ∙ same_itself (dir ++ 47 ∷ [])

one_of_two : (a b : Bool) → (a || b) ≡ true → (a ≡ true) ⊎ (b ≡ true)
one_of_two true b is = inl refl
one_of_two false b is = inr is

odds_by_test : (a b : Name) → are_at_odds a b ≡ true → AreAtOdds a b
odds_by_test a b is = elim (one_of_two (is_below a b) (is_below b a) is) [
  | inl l ↦ inl (below_by_test a b l)
  | inr r ↦ inr (below_by_test b a r)
]

either_way : (b : Bool) → (b || true) ≡ true
either_way true = refl
either_way false = refl

pub test_of_odds : (a b : Name) → AreAtOdds a b → are_at_odds a b ≡ true
test_of_odds a b odds = elim odds [
  | inl l ↦ ap (λ t. t || is_below b a) (test_of_below a b l)
  | inr r ↦ ap (λ t. is_below a b || t) (test_of_below b a r) ∙ either_way (is_below a b)
]

abbrev Entries : Type 0
Entries = List (Name × ObjectId)

abbrev cmp : Name → Name → Ordering
cmp = slice_cmp nat_cmp

head_there : (e : Name × ObjectId) (es : Entries) → IsSome (find cmp e.0 (e ∷ es))
head_there e es = ap (λ o. is_some (cond (is_eq o) (Some e.1) (find cmp e.0 es))) (tied_itself nat_list_cmp_total e.0)

later_there : (q : Name) (e : Name × ObjectId) (es : Entries) → IsSome (find cmp q es) → IsSome (find cmp q (e ∷ es))
later_there q e es some = elim (eq_by_cmp cmp q e.0) as (λ b. IsSome (cond b (Some e.1) (find cmp q es))) [ true ↦ refl | false ↦ some ]

here_or_later : (q : Name) (e : Name × ObjectId) (es : Entries) → IsSome (find cmp q (e ∷ es)) → (q ≡ e.0) ⊎ IsSome (find cmp q es)
here_or_later q e es some = by_tie (eq_by_cmp cmp q e.0) refl some
  where
    by_tie : (b : Bool) → eq_by_cmp cmp q e.0 ≡ b → IsSome (cond b (Some e.1) (find cmp q es)) → (q ≡ e.0) ⊎ IsSome (find cmp q es)
    by_tie true tie here = inl (same_bytes q e.0 (texts_ties q e.0 ∙ tie))
    by_tie false tie later = inr later

both_of : (a b : Bool) → T (a && b) → T a × T b
both_of true b h = (tt, h)
both_of false b h = absurd h

-- what stands behind is greater
above : (a q : Name) (es : Entries) → T (below_all cmp a es) → IsSome (find cmp q es) → T (is_lt (cmp a q))
above a q [] below some = let bad : false ≡ true = some in cc
above a q (e ∷ es) below some =
    let parts = both_of (is_lt (cmp a e.0)) (below_all cmp a es) below in
    elim (here_or_later q e es some) [
      | inl same ↦ subst (λ (n : Name). T (is_lt (cmp a n))) (sym same) parts.0
      | inr later ↦ above a q es parts.1 later
    ]

less_not_le : (a q : Name) → T (is_lt (cmp a q)) → IsLe q a → ⊥
less_not_le a q less le = by_order (cmp a q) refl less
  where
    by_order : (o : Ordering) → cmp a q ≡ o → T (is_lt o) → ⊥
    by_order Less is t = let gt : is_gt (cmp q a) ≡ true = ap is_gt (nat_list_cmp_total.antisymm q a ∙ ap ordering_reverse is) in cc (gt, le)
    by_order Equal is t = absurd t
    by_order Greater is t = absurd t

none_passes : (p : Name → Bool) (es : Entries) → ((q : Name) → IsSome (find cmp q es) → p q ≡ false) → first_of p (map (λ e. e.0) es) ≡ None
none_passes p [] none = refl
none_passes p (e ∷ es) none =
    ap (λ b. cond b (Some e.0) (first_of p (map (λ (e : Name × ObjectId). e.0) es))) (none e.0 (head_there e es)) ∙ none_passes p es (λ q some. none q (later_there q e es some))

least_passes : (p : Name → Bool) (r : Name) (es : Entries) → T (is_sorted cmp es) → IsSome (find cmp r es) → p r ≡ true → ((q : Name) → IsSome (find cmp q es) → p q ≡ true → IsLe r q)
    → first_of p (map (λ e. e.0) es) ≡ Some r
least_passes p r [] sorted some here least = let bad : false ≡ true = some in cc
least_passes p r (e ∷ es) sorted some here least =
    by_test (p e.0) refl (here_or_later r e es some) (λ later. least_passes p r es (both_of (below_all cmp e.0 es) (is_sorted cmp es) sorted).1 later here (λ q some_q. least q (later_there q e es some_q)))
  where
    by_test : (b : Bool) → p e.0 ≡ b → (r ≡ e.0) ⊎ IsSome (find cmp r es) → (IsSome (find cmp r es) → first_of p (map (λ (e : Name × ObjectId). e.0) es) ≡ Some r) → first_of p (e.0 ∷ map (λ e. e.0) es) ≡ Some r
    by_test true t (inl same) rest = ap (λ b. cond b (Some e.0) (first_of p (map (λ (e : Name × ObjectId). e.0) es))) t ∙ ap (λ (n : Name). Some n) (sym same)
    by_test true t (inr later) rest = absurd (less_not_le e.0 r (above e.0 r es (both_of (below_all cmp e.0 es) (is_sorted cmp es) sorted).0 later) (least e.0 (head_there e es) t))
    by_test false t (inl same) rest = let bad : true ≡ false = sym here ∙ ap p same ∙ t in cc
    by_test false t (inr later) rest = ap (λ b. cond b (Some e.0) (first_of p (map (λ (e : Name × ObjectId). e.0) es))) t ∙ rest later

found : (refs : Refs) (q : Name) → IsSome (find cmp q (entries refs)) → IsSome (get refs q)
found refs q some = subst IsSome (sym (get-entries refs q)) some

-- what is told of the refs at odds with a name is the first of them
pub first_is : (refs : Refs) (name : Name) (o : Option Name) → TellsOfOdds refs name o → first_at_odds refs name ≡ o
first_is refs name None none = none_passes (λ q. are_at_odds q name) (entries refs) (λ q some. by_test q some (are_at_odds q name) refl)
  where
    by_test : (q : Name) → IsSome (find cmp q (entries refs)) → (b : Bool) → are_at_odds q name ≡ b → are_at_odds q name ≡ false
    by_test q some true t = absurd (none q (found refs q some) (odds_by_test q name t))
    by_test q some false t = t
first_is refs name (Some r) least =
    least_passes (λ q. are_at_odds q name) r (entries refs) (entries_sorted refs) (subst IsSome (get-entries refs r) least.there) (test_of_odds r name least.at_odds)
    (λ q some t. least.least q (found refs q some) (odds_by_test q name t))
