-- Sets of roles: who is in a set with an entry, and in one without.
use Rattle.std.proofs.Common.{◌≡◌, ◌<◌, ℕ, zero, suc, Bool, true, false, cond, not, ◌&&◌, ◌||◌, List, [], ◌∷◌, ◌++◌, filter, length, get_or, Contains, refl, sym, ◌∙◌, ap, ap₂, subst, arith, ◌⊎◌, inl, inr}
use Rattle.std.proofs.lemmas.Cmp.{nat_list_cmp_total, tied_itself, then_total, on_total}
use Rattle.std.proofs.lemmas.List.Elements.{Contains-append_cases, Contains-append_left, Contains-append_right}
use Rattle.std.specs.Cmp.{IsTotalOrder}
use Rattle.std.specs.List.{AllByRecursion, list_any}
use Rattle.std.specs.Str.{bytes_eq}
use Rattle.std.specs.declared.cmp.Ordering.{Ordering}
use Rattle.std.specs.declared.cmp.Ordering.TheVariants.{Less, Equal, Greater}
use Rattle.std.specs.Ordering.{nat_cmp, is_lt, is_eq, is_gt, ordering_then, ordering_reverse}
use Rattle.std.specs.Cmp.Lexicographic.{bytes_decides, slice_cmp, same_text, texts_ties}
use Rattle.wild_perms.specs.Roles.{AllAbove, IsRoleSet, entry_cmp, with_entry, without_entry}
use Rattle.wild_perms.specs.declared.role.RoleEntry.{RoleEntry}

-- ---- the order of entries

entry_total : IsTotalOrder entry_cmp
entry_total = then_total (on_total (λ (e : RoleEntry). e.role) nat_list_cmp_total) (on_total (λ (e : RoleEntry). e.user) nat_list_cmp_total)

both_equal : (a b : Ordering) → ordering_then a b ≡ Equal → (a ≡ Equal) × (b ≡ Equal)
both_equal Less b is = cc is
both_equal Equal b is = (refl, is)
both_equal Greater b is = cc is

texts_equal : (a b : List ℕ) → slice_cmp nat_cmp a b ≡ Equal → a ≡ b
texts_equal a b is = same_text a b (sym (texts_ties a b ∙ ap is_eq is))

same_entry : (a b : RoleEntry) → entry_cmp a b ≡ Equal → a ≡ b
same_entry a b is =
    let both = both_equal (slice_cmp nat_cmp a.role b.role) (slice_cmp nat_cmp a.user b.user) is in
    ap₂ (λ (r u : List ℕ). record { role = r; user = u }) (texts_equal a.role b.role both.0) (texts_equal a.user b.user both.1)

turned : (a b : RoleEntry) → entry_cmp a b ≡ Greater → entry_cmp b a ≡ Less
turned a b is = entry_total.antisymm b a ∙ ap ordering_reverse is

-- ---- what a list contains

module _ {X : Type 0} where
  pub contains_none : (x : X) → Contains [] x → ⊥
  contains_none x c = absurd (omega (arith, c.1))

  pub contains_first : (x : X) (xs : List X) → Contains (x ∷ xs) x
  contains_first x xs = (0, omega arith, refl)

  pub contains_later : (y x : X) (xs : List X) → Contains xs x → Contains (y ∷ xs) x
  contains_later y x xs c = (suc c.0, omega (arith, c.1), c.2)

  contains_cases : (y x : X) (xs : List X) → Contains (y ∷ xs) x → (y ≡ x) ⊎ Contains xs x
  contains_cases y x xs c = by_place c.0 c.1 c.2
    where
      by_place : (k : ℕ) → k < length (y ∷ xs) → get_or (y ∷ xs) k x ≡ x → (y ≡ x) ⊎ Contains xs x
      by_place zero within is = inl is
      by_place (suc k) within is = inr (k, omega (arith, within), is)

  module _ (f : X → Bool) where
    contains_filter : (xs : List X) (x : X) → Contains xs x → f x ≡ true → Contains (filter f xs) x
    contains_filter [] x c is = absurd (contains_none x c)
    contains_filter (y ∷ xs) x c is = by_test (f y) refl (contains_cases y x xs c) (λ later. contains_filter xs x later is)
      where
        by_test : (b : Bool) → f y ≡ b → (y ≡ x) ⊎ Contains xs x → (Contains xs x → Contains (filter f xs) x) → Contains (cond b (y ∷ filter f xs) (filter f xs)) x
        by_test true kept (inl same) rest = subst (Contains (y ∷ filter f xs)) same (contains_first y (filter f xs))
        by_test true kept (inr later) rest = contains_later y x (filter f xs) (rest later)
        by_test false left (inl same) rest = let clash : true ≡ false = sym is ∙ ap f (sym same) ∙ left in cc
        by_test false left (inr later) rest = rest later

    filter_contains : (xs : List X) (x : X) → Contains (filter f xs) x → Contains xs x × (f x ≡ true)
    filter_contains [] x c = absurd (contains_none x c)
    filter_contains (y ∷ xs) x c = by_test (f y) refl c (filter_contains xs x)
      where
        later : Contains xs x × (f x ≡ true) → Contains (y ∷ xs) x × (f x ≡ true)
        later found = (contains_later y x xs found.0, found.1)

        by_case : f y ≡ true → (y ≡ x) ⊎ Contains (filter f xs) x → (Contains (filter f xs) x → Contains xs x × (f x ≡ true)) → Contains (y ∷ xs) x × (f x ≡ true)
        by_case kept (inl same) rest = (subst (Contains (y ∷ xs)) same (contains_first y xs), ap f (sym same) ∙ kept)
        by_case kept (inr found) rest = later (rest found)

        by_test : (b : Bool) → f y ≡ b → Contains (cond b (y ∷ filter f xs) (filter f xs)) x → (Contains (filter f xs) x → Contains xs x × (f x ≡ true)) → Contains (y ∷ xs) x × (f x ≡ true)
        by_test true kept c rest = by_case kept (contains_cases y x (filter f xs) c) rest
        by_test false left c rest = later (rest c)

-- ---- an entry put in, and one taken out

pub with_has : (es : List RoleEntry) (q e : RoleEntry) → Contains (with_entry es q) e → (e ≡ q) ⊎ Contains es e
with_has es q e c = by_part (Contains-append_cases (filter (λ e. is_lt (entry_cmp e q)) es) (q ∷ filter (λ e. is_gt (entry_cmp e q)) es) e c)
  where
    by_case : (q ≡ e) ⊎ Contains (filter (λ e. is_gt (entry_cmp e q)) es) e → (e ≡ q) ⊎ Contains es e
    by_case (inl same) = inl (sym same)
    by_case (inr above) = inr (filter_contains (λ e. is_gt (entry_cmp e q)) es e above).0

    by_part : Contains (filter (λ e. is_lt (entry_cmp e q)) es) e ⊎ Contains (q ∷ filter (λ e. is_gt (entry_cmp e q)) es) e → (e ≡ q) ⊎ Contains es e
    by_part (inl below) = inr (filter_contains (λ e. is_lt (entry_cmp e q)) es e below).0
    by_part (inr rest) = by_case (contains_cases q e (filter (λ e. is_gt (entry_cmp e q)) es) rest)

pub has_with : (es : List RoleEntry) (q e : RoleEntry) → (e ≡ q) ⊎ Contains es e → Contains (with_entry es q) e
has_with es q e (inl same) =
    subst (Contains (with_entry es q)) (sym same) (Contains-append_right (filter (λ e. is_lt (entry_cmp e q)) es) (q ∷ filter (λ e. is_gt (entry_cmp e q)) es) q (contains_first q (filter (λ e. is_gt (entry_cmp e q)) es)))
has_with es q e (inr c) = by_order (entry_cmp e q) refl
  where
    below : List RoleEntry
    below = filter (λ e. is_lt (entry_cmp e q)) es

    above : List RoleEntry
    above = filter (λ e. is_gt (entry_cmp e q)) es

    by_order : (o : Ordering) → entry_cmp e q ≡ o → Contains (filter (λ e. is_lt (entry_cmp e q)) es ++ q ∷ filter (λ e. is_gt (entry_cmp e q)) es) e
    by_order Less is = Contains-append_left below (q ∷ above) e (contains_filter (λ e. is_lt (entry_cmp e q)) es e c (ap is_lt is))
    by_order Equal is = subst (Contains (below ++ q ∷ above)) (sym (same_entry e q is)) (Contains-append_right below (q ∷ above) q (contains_first q above))
    by_order Greater is = Contains-append_right below (q ∷ above) e (contains_later q e above (contains_filter (λ e. is_gt (entry_cmp e q)) es e c (ap is_gt is)))

pub without_has : (es : List RoleEntry) (q e : RoleEntry) → Contains (without_entry es q) e → Contains es e × ¬ (e ≡ q)
without_has es q e c =
    let found = filter_contains (λ e. not (is_eq (entry_cmp e q))) es e c in
    (found.0, λ same. let clash : false ≡ true = ap (λ (o : Ordering). not (is_eq o)) (sym (tied_itself entry_total q)) ∙ ap (λ (x : RoleEntry). not (is_eq (entry_cmp x q))) (sym same) ∙ found.1 in cc clash)

pub has_without : (es : List RoleEntry) (q e : RoleEntry) → Contains es e → ¬ (e ≡ q) → Contains (without_entry es q) e
has_without es q e c other = contains_filter (λ e. not (is_eq (entry_cmp e q))) es e c (by_order (entry_cmp e q) refl)
  where
    by_order : (o : Ordering) → entry_cmp e q ≡ o → not (is_eq (entry_cmp e q)) ≡ true
    by_order Less is = ap (λ (o : Ordering). not (is_eq o)) is
    by_order Equal is = absurd (other (same_entry e q is))
    by_order Greater is = ap (λ (o : Ordering). not (is_eq o)) is

-- ---- sets stay sets

above_filter : (f : RoleEntry → Bool) (low : RoleEntry) (es : List RoleEntry) → AllAbove low es → AllAbove low (filter f es)
above_filter f low [] all = tt
above_filter f low (e ∷ es) all = by_test (f e) (above_filter f low es all.1)
  where
    by_test : (b : Bool) → AllAbove low (filter f es) → AllAbove low (cond b (e ∷ filter f es) (filter f es))
    by_test true rest = (all.0, rest)
    by_test false rest = rest

set_filter : (f : RoleEntry → Bool) (es : List RoleEntry) → IsRoleSet es → IsRoleSet (filter f es)
set_filter f [] set = tt
set_filter f (e ∷ es) set = by_test (f e) (set_filter f es set.1)
  where
    by_test : (b : Bool) → IsRoleSet (filter f es) → IsRoleSet (cond b (e ∷ filter f es) (filter f es))
    by_test true rest = (above_filter f e es set.0, rest)
    by_test false rest = rest

above_further : (low e : RoleEntry) (es : List RoleEntry) → entry_cmp low e ≡ Less → AllAbove e es → AllAbove low es
above_further low e [] less all = tt
above_further low e (x ∷ es) less all = (entry_total.trans low e x less all.0, above_further low e es less all.1)

above_append : (low : RoleEntry) (es more : List RoleEntry) → AllAbove low es → AllAbove low more → AllAbove low (es ++ more)
above_append low [] more all rest = rest
above_append low (e ∷ es) more all rest = (all.0, above_append low es more all.1 rest)

abbrev AllBelow : RoleEntry → List RoleEntry → Type 0
AllBelow q es = AllByRecursion (λ (e : RoleEntry). entry_cmp e q ≡ Less) es

below_filter : (es : List RoleEntry) (q : RoleEntry) → AllBelow q (filter (λ e. is_lt (entry_cmp e q)) es)
below_filter [] q = tt
below_filter (e ∷ es) q = by_order (entry_cmp e q) refl (below_filter es q)
  where
    by_order : (o : Ordering) → entry_cmp e q ≡ o → AllBelow q (filter (λ e. is_lt (entry_cmp e q)) es)
        → AllBelow q (cond (is_lt o) (e ∷ filter (λ e. is_lt (entry_cmp e q)) es) (filter (λ e. is_lt (entry_cmp e q)) es))
    by_order Less is rest = (is, rest)
    by_order Equal is rest = rest
    by_order Greater is rest = rest

above_greater : (es : List RoleEntry) (q : RoleEntry) → AllAbove q (filter (λ e. is_gt (entry_cmp e q)) es)
above_greater [] q = tt
above_greater (e ∷ es) q = by_order (entry_cmp e q) refl (above_greater es q)
  where
    by_order : (o : Ordering) → entry_cmp e q ≡ o → AllAbove q (filter (λ e. is_gt (entry_cmp e q)) es)
        → AllAbove q (cond (is_gt o) (e ∷ filter (λ e. is_gt (entry_cmp e q)) es) (filter (λ e. is_gt (entry_cmp e q)) es))
    by_order Less is rest = rest
    by_order Equal is rest = rest
    by_order Greater is rest = (turned e q is, rest)

set_joined : (below above : List RoleEntry) (q : RoleEntry) → AllBelow q below → IsRoleSet below → AllAbove q above → IsRoleSet above → IsRoleSet (below ++ q ∷ above)
set_joined [] above q less set more rest = (more, rest)
set_joined (e ∷ below) above q less set more rest =
    (above_append e below (q ∷ above) set.0 (less.0, above_further e q above less.0 more), set_joined below above q less.1 set.1 more rest)

pub set_with : (es : List RoleEntry) (q : RoleEntry) → IsRoleSet es → IsRoleSet (with_entry es q)
set_with es q set =
    set_joined (filter (λ e. is_lt (entry_cmp e q)) es) (filter (λ e. is_gt (entry_cmp e q)) es) q (below_filter es q) (set_filter (λ e. is_lt (entry_cmp e q)) es set) (above_greater es q)
    (set_filter (λ e. is_gt (entry_cmp e q)) es set)

pub set_without : (es : List RoleEntry) (q : RoleEntry) → IsRoleSet es → IsRoleSet (without_entry es q)
set_without es q set = set_filter (λ e. not (is_eq (entry_cmp e q))) es set

-- ---- whether an entry is in a list

same_entry_by : (a b : RoleEntry) → (bytes_eq a.role b.role && bytes_eq a.user b.user) ≡ true → a ≡ b
same_entry_by a b same = by_role (bytes_eq a.role b.role) refl same
  where
    by_role : (r : Bool) → bytes_eq a.role b.role ≡ r → (r && bytes_eq a.user b.user) ≡ true → a ≡ b
    by_role true role user = ap₂ (λ (r u : List ℕ). record { role = r; user = u }) (same_text a.role b.role (sym role)) (same_text a.user b.user (sym user))
    by_role false role user = absurd cc

itself_by : (a : RoleEntry) → (bytes_eq a.role a.role && bytes_eq a.user a.user) ≡ true
itself_by a = ap₂ (λ (x y : Bool). x && y) ((bytes_decides a.role a.role).1 refl) ((bytes_decides a.user a.user).1 refl)

pub entry_contained : (es : List RoleEntry) (q : RoleEntry) → list_any (λ e. bytes_eq e.role q.role && bytes_eq e.user q.user) es ≡ true → Contains es q
entry_contained [] q is = absurd cc
entry_contained (e ∷ es) q is = by_test (bytes_eq e.role q.role && bytes_eq e.user q.user) refl is (entry_contained es q)
  where
    by_test : (b : Bool) → (bytes_eq e.role q.role && bytes_eq e.user q.user) ≡ b → (b || list_any (λ e. bytes_eq e.role q.role && bytes_eq e.user q.user) es) ≡ true
        → (list_any (λ e. bytes_eq e.role q.role && bytes_eq e.user q.user) es ≡ true → Contains es q) → Contains (e ∷ es) q
    by_test true same is rest = subst (Contains (e ∷ es)) (same_entry_by e q same) (contains_first e es)
    by_test false other is rest = contains_later e q es (rest is)

pub contained_entry : (es : List RoleEntry) (q : RoleEntry) → Contains es q → list_any (λ e. bytes_eq e.role q.role && bytes_eq e.user q.user) es ≡ true
contained_entry [] q c = absurd (contains_none q c)
contained_entry (e ∷ es) q c = by_case (contains_cases e q es c) (contained_entry es q)
  where
    or_true : (b : Bool) → (b || true) ≡ true
    or_true true = refl
    or_true false = refl

    by_case : (e ≡ q) ⊎ Contains es q → (Contains es q → list_any (λ e. bytes_eq e.role q.role && bytes_eq e.user q.user) es ≡ true) → list_any (λ e. bytes_eq e.role q.role && bytes_eq e.user q.user) (e ∷ es) ≡ true
    by_case (inl same) rest =
        ap (λ (b : Bool). b || list_any (λ e. bytes_eq e.role q.role && bytes_eq e.user q.user) es)
        (ap (λ (x : RoleEntry). bytes_eq x.role q.role && bytes_eq x.user q.user) same ∙ itself_by q)
    by_case (inr later) rest = ap (λ (b : Bool). (bytes_eq e.role q.role && bytes_eq e.user q.user) || b) (rest later) ∙ or_true (bytes_eq e.role q.role && bytes_eq e.user q.user)
