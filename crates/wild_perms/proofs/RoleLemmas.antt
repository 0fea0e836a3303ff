-- Sets of roles: their order, searches in them, and entries put in and taken out.
use Rattle.std.proofs.Common.{◌≡◌, ℕ, zero, suc, ◌<◌, ◌≤◌, true, false, cond, not, List, [], ◌∷◌, ◌++◌, filter, take, drop, length, get_or, Result, Ok, Err, Contains, refl, sym, ◌∙◌, ap, ap₂, arith, ◌⊎◌, inl, inr}
use Rattle.std.proofs.lemmas.Bool.{cases_lt}
use Rattle.std.proofs.lemmas.Cmp.{nat_list_cmp_total, tied_itself, alike_right, then_total, on_total}
use Rattle.std.specs.Cmp.{IsTotalOrder}
use Rattle.std.specs.Result.{is_ok}
use Rattle.std.specs.List.Sorted.{IsBinarySearchResult, IsNonDecreasingBy, IsSearchInRange}
use Rattle.std.specs.declared.cmp.Ordering.{Ordering}
use Rattle.std.specs.declared.cmp.Ordering.TheVariants.{Less, Equal, Greater}
use Rattle.std.specs.Ordering.{nat_cmp, is_lt, is_eq, is_gt, ordering_then, ordering_index, ordering_reverse}
use Rattle.std.specs.Cmp.Lexicographic.{slice_cmp, same_text, texts_ties}
use Rattle.wild_perms.specs.Roles.{AllAbove, IsRoleSet, entry_cmp, with_entry, without_entry}
use Rattle.wild_perms.specs.Places.{IsGap}
use Rattle.wild_perms.specs.declared.role.RoleEntry.{RoleEntry}

entry_total : IsTotalOrder entry_cmp
entry_total = then_total (on_total (λ (e : RoleEntry). e.role) nat_list_cmp_total) (on_total (λ (e : RoleEntry). e.user) nat_list_cmp_total)

both_equal : (a b : Ordering) → ordering_then a b ≡ Equal → (a ≡ Equal) × (b ≡ Equal)
both_equal Less b is = cc is
both_equal Equal b is = (refl, is)
both_equal Greater b is = cc is

texts_equal : (a b : List ℕ) → slice_cmp nat_cmp a b ≡ Equal → a ≡ b
texts_equal a b is = same_text a b (sym (texts_ties a b ∙ ap is_eq is))

same_entry : (a b : RoleEntry) → entry_cmp a b ≡ Equal → a ≡ b
same_entry a b is =
    let both = both_equal (slice_cmp nat_cmp a.role b.role) (slice_cmp nat_cmp a.user b.user) is in
    ap₂ (λ (r u : List ℕ). record { role = r; user = u }) (texts_equal a.role b.role both.0) (texts_equal a.user b.user both.1)

turned : (a b : RoleEntry) → entry_cmp a b ≡ Greater → entry_cmp b a ≡ Less
turned a b is = entry_total.antisymm b a ∙ ap ordering_reverse is

-- ---- a set by its places

above_at : (e : RoleEntry) (es : List RoleEntry) → AllAbove e es → (j : ℕ) (d : RoleEntry) → j < length es → entry_cmp e (get_or es j d) ≡ Less
above_at e [] all j d within = absurd (omega (arith, within))
above_at e (x ∷ es) all zero d within = all.0
above_at e (x ∷ es) all (suc j) d within = above_at e es all.1 j d (omega (arith, within))

in_order : (es : List RoleEntry) → IsRoleSet es → (i j : ℕ) (d : RoleEntry) → i < j → j < length es → entry_cmp (get_or es i d) (get_or es j d) ≡ Less
in_order [] set i j d less within = absurd (omega (arith, within))
in_order (e ∷ es) set zero zero d less within = absurd (omega (arith, less))
in_order (e ∷ es) set zero (suc j) d less within = above_at e es set.0 j d (omega (arith, within))
in_order (e ∷ es) set (suc i) zero d less within = absurd (omega (arith, less))
in_order (e ∷ es) set (suc i) (suc j) d less within = in_order es set.1 i j d (omega (arith, less)) (omega (arith, within))

rank : (o : Ordering) → ordering_index o ≤ 2
rank Less = omega arith
rank Equal = omega arith
rank Greater = omega arith

no_greater : (q a b : RoleEntry) (o : Ordering) → entry_cmp b q ≡ o → entry_cmp a b ≡ Less → ordering_index (entry_cmp a q) ≤ ordering_index o
no_greater q a b Less is less = omega (arith, ap ordering_index (entry_total.trans a b q less is))
no_greater q a b Equal is less = omega (arith, ap ordering_index (sym (alike_right entry_total b q a is) ∙ less))
no_greater q a b Greater is less = rank (entry_cmp a q)

rises : (es : List RoleEntry) (q : RoleEntry) → IsRoleSet es → IsNonDecreasingBy (λ e. ordering_index (entry_cmp e q)) es
rises es q set i j d le within = by_place (cases_lt i j)
  where
    by_place : (i < j) ⊎ (j ≤ i) → ordering_index (entry_cmp (get_or es i d) q) ≤ ordering_index (entry_cmp (get_or es j d) q)
    by_place (inl less) = no_greater q (get_or es i d) (get_or es j d) (entry_cmp (get_or es j d) q) refl (in_order es set i j d less within)
    by_place (inr same) = let is : i ≡ j = omega (arith, le, same) in omega (arith, ap (λ (k : ℕ). ordering_index (entry_cmp (get_or es k d) q)) is)

-- ---- what a search tells

pub gap_found : (es : List RoleEntry) (q : RoleEntry) (at : ℕ) → IsRoleSet es → IsSearchInRange (Err at) (length es) → IsBinarySearchResult (λ e. entry_cmp e q) es (Err at) → IsGap es q at
gap_found es q at set within parted = record {
  within = within;
  before = λ k d less. (parted (rises es q set)).0 k d (omega arith) less;
  behind = λ k d from inside. (parted (rises es q set)).1 k d from inside;
}

pub held_found : (es : List RoleEntry) (q : RoleEntry) (at : ℕ) → IsSearchInRange (Ok at) (length es) → IsBinarySearchResult (λ e. entry_cmp e q) es (Ok at) → Contains es q
held_found es q at within equal = (at, within, same_entry (get_or es at q) q (equal q))

itself : (es : List RoleEntry) (q : RoleEntry) (k : ℕ) → get_or es k q ≡ q → entry_cmp (get_or es k q) q ≡ Equal
itself es q k is = ap (λ (e : RoleEntry). entry_cmp e q) is ∙ tied_itself entry_total q

pub not_held : (es : List RoleEntry) (q : RoleEntry) (at : ℕ) → IsGap es q at → ¬ Contains es q
not_held es q at gap c = by_place (cases_lt c.0 at)
  where
    by_place : (c.0 < at) ⊎ (at ≤ c.0) → ⊥
    by_place (inl before) = let bad : Equal ≡ Less = sym (itself es q c.0 c.2) ∙ gap.before c.0 q before in cc bad
    by_place (inr behind) = let bad : Equal ≡ Greater = sym (itself es q c.0 c.2) ∙ gap.behind c.0 q behind c.1 in cc bad

pub held_iff : (es : List RoleEntry) (q : RoleEntry) (r : Result ℕ ℕ) → IsRoleSet es → IsSearchInRange r (length es) → IsBinarySearchResult (λ e. entry_cmp e q) es r → (is_ok r ≡ true → Contains es q) × (Contains es q → is_ok r ≡ true)
held_iff es q (Ok at) set within equal = (λ is. held_found es q at within equal, λ held. refl)
held_iff es q (Err at) set within parted = (λ is. let bad : false ≡ true = is in cc, λ held. absurd (not_held es q at (gap_found es q at set within parted) held))

-- ---- an entry put in

gap_behind : (e : RoleEntry) (es : List RoleEntry) (q : RoleEntry) (at : ℕ) → IsGap (e ∷ es) q (suc at) → IsGap es q at
gap_behind e es q at gap = record {
  within = omega (arith, gap.within);
  before = λ k d less. gap.before (suc k) d (omega (arith, less));
  behind = λ k d from inside. gap.behind (suc k) d (omega (arith, from)) (omega (arith, inside));
}

gap_front : (e : RoleEntry) (es : List RoleEntry) (q : RoleEntry) → IsGap (e ∷ es) q 0 → IsGap es q 0
gap_front e es q gap = record {
  within = omega arith;
  before = λ k d less. absurd (omega (arith, less));
  behind = λ k d from inside. gap.behind (suc k) d (omega arith) (omega (arith, inside));
}

abbrev less_of : List RoleEntry → RoleEntry → List RoleEntry
less_of es q = filter (λ e. is_lt (entry_cmp e q)) es

abbrev greater_of : List RoleEntry → RoleEntry → List RoleEntry
greater_of es q = filter (λ e. is_gt (entry_cmp e q)) es

less_taken : (es : List RoleEntry) (q : RoleEntry) (at : ℕ) → IsGap es q at → filter (λ e. is_lt (entry_cmp e q)) es ≡ take at es
less_taken [] q zero gap = refl
less_taken [] q (suc at) gap = absurd (omega (arith, gap.within))
less_taken (e ∷ es) q zero gap = ap (λ o. cond (is_lt o) (e ∷ less_of es q) (less_of es q)) (gap.behind 0 e (omega arith) (omega arith)) ∙ less_taken es q 0 (gap_front e es q gap)
less_taken (e ∷ es) q (suc at) gap = ap (λ o. cond (is_lt o) (e ∷ less_of es q) (less_of es q)) (gap.before 0 e (omega arith)) ∙ ap (λ (l : List RoleEntry). e ∷ l) (less_taken es q at (gap_behind e es q at gap))

greater_left : (es : List RoleEntry) (q : RoleEntry) (at : ℕ) → IsGap es q at → filter (λ e. is_gt (entry_cmp e q)) es ≡ drop at es
greater_left [] q zero gap = refl
greater_left [] q (suc at) gap = absurd (omega (arith, gap.within))
greater_left (e ∷ es) q zero gap = ap (λ o. cond (is_gt o) (e ∷ greater_of es q) (greater_of es q)) (gap.behind 0 e (omega arith) (omega arith)) ∙ ap (λ (l : List RoleEntry). e ∷ l) (greater_left es q 0 (gap_front e es q gap))
greater_left (e ∷ es) q (suc at) gap = ap (λ o. cond (is_gt o) (e ∷ greater_of es q) (greater_of es q)) (gap.before 0 e (omega arith)) ∙ greater_left es q at (gap_behind e es q at gap)

pub put_is : (es : List RoleEntry) (q : RoleEntry) (at : ℕ) → IsGap es q at → take at es ++ q ∷ drop at es ≡ with_entry es q
put_is es q at gap = sym (ap₂ (λ (a b : List RoleEntry). a ++ q ∷ b) (less_taken es q at gap) (greater_left es q at gap))

above_further : (low e : RoleEntry) (es : List RoleEntry) → entry_cmp low e ≡ Less → AllAbove e es → AllAbove low es
above_further low e [] less all = tt
above_further low e (x ∷ es) less all = (entry_total.trans low e x less all.0, above_further low e es less all.1)

above_put : (e q : RoleEntry) (es : List RoleEntry) (at : ℕ) → AllAbove e es → entry_cmp e q ≡ Less → AllAbove e (take at es ++ q ∷ drop at es)
above_put e q es zero all less = (less, all)
above_put e q [] (suc at) all less = (less, tt)
above_put e q (x ∷ es) (suc at) all less = (all.0, above_put e q es at all.1 less)

pub set_put : (es : List RoleEntry) (q : RoleEntry) (at : ℕ) → IsRoleSet es → IsGap es q at → IsRoleSet (take at es ++ q ∷ drop at es)
set_put [] q zero set gap = (tt, tt)
set_put [] q (suc at) set gap = absurd (omega (arith, gap.within))
set_put (e ∷ es) q zero set gap =
    let less = turned e q (gap.behind 0 e (omega arith) (omega arith)) in
    ((less, above_further q e es less set.0), set)
set_put (e ∷ es) q (suc at) set gap = (above_put e q es at set.0 (gap.before 0 e (omega arith)), set_put es q at set.1 (gap_behind e es q at gap))

-- ---- an entry taken out

abbrev other_of : List RoleEntry → RoleEntry → List RoleEntry
other_of es q = filter (λ e. not (is_eq (entry_cmp e q))) es

all_kept : (e : RoleEntry) (es : List RoleEntry) (q : RoleEntry) → e ≡ q → AllAbove e es → filter (λ e. not (is_eq (entry_cmp e q))) es ≡ es
all_kept e [] q is all = refl
all_kept e (x ∷ es) q is all =
    let greater : entry_cmp x q ≡ Greater = ap (entry_cmp x) (sym is) ∙ entry_total.antisymm x e ∙ ap ordering_reverse all.0 in
    ap (λ o. cond (not (is_eq o)) (x ∷ other_of es q) (other_of es q)) greater ∙ ap (λ (l : List RoleEntry). x ∷ l) (all_kept e es q is all.1)

pub taken_is : (es : List RoleEntry) (q : RoleEntry) (at : ℕ) → IsRoleSet es → at < length es → entry_cmp (get_or es at q) q ≡ Equal → take at es ++ drop (suc at) es ≡ without_entry es q
taken_is [] q at set within equal = absurd (omega (arith, within))
taken_is (e ∷ es) q zero set within equal = sym (ap (λ o. cond (not (is_eq o)) (e ∷ other_of es q) (other_of es q)) equal ∙ all_kept e es q (same_entry e q equal) set.0)
taken_is (e ∷ es) q (suc at) set within equal =
    let inside : at < length es = omega (arith, within) in
    let less : entry_cmp e q ≡ Less = sym (alike_right entry_total (get_or es at q) q e equal) ∙ above_at e es set.0 at q inside in
    ap (λ (l : List RoleEntry). e ∷ l) (taken_is es q at set.1 inside equal) ∙ sym (ap (λ o. cond (not (is_eq o)) (e ∷ other_of es q) (other_of es q)) less)

above_taken : (e : RoleEntry) (es : List RoleEntry) (at : ℕ) → AllAbove e es → AllAbove e (take at es ++ drop (suc at) es)
above_taken e [] zero all = tt
above_taken e [] (suc at) all = tt
above_taken e (x ∷ es) zero all = all.1
above_taken e (x ∷ es) (suc at) all = (all.0, above_taken e es at all.1)

pub set_taken : (es : List RoleEntry) (at : ℕ) → IsRoleSet es → IsRoleSet (take at es ++ drop (suc at) es)
set_taken [] zero set = tt
set_taken [] (suc at) set = tt
set_taken (e ∷ es) zero set = set.1
set_taken (e ∷ es) (suc at) set = (above_taken e es at set.0, set_taken es at set.1)
