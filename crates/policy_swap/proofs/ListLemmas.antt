-- Lists without repeats, and lists side by side.
use Rattle.std.proofs.Common.{◌≡◌, ℕ, suc, ◌≤◌, Bool, true, false, cond, List, [], ◌∷◌, ◌++◌, length, get_or, map, None, Some, Contains, refl, sym, ◌∙◌, ap, subst, ◌⊎◌, inl, inr}
use Rattle.std.specs.List.{AllByRecursion, AllZip, IsDistinct}
use Rattle.std.specs.Cmp.{eq_by_cmp_equiv}
use Rattle.std.specs.Ordering.{nat_cmp, eq_by_cmp}
use Rattle.std.specs.Cmp.Lexicographic.{slice_cmp, nat_list_cmp_total, nat_list_eq_equiv}
use Rattle.std.specs.Str.{bytes_eq}
use Rattle.std.proofs.lemmas.List.Elements.{Contains-push_cases}
use Rattle.std.proofs.lemmas.Map.Made.{length-le_from_is_member}
use Rattle.std.proofs.lemmas.Map.Text.{is_eq-slice_cmp}
use Rattle.std.proofs.lemmas.Map.Views.{Contains-from_any, list_any-from_Contains}
use Rattle.ref_store.proofs.ObjectLemmas.{same_bytes}
use Rattle.ancestry.proofs.ListLemmas.{contains_none, contains_here, contains_there, contains_cases}
use Rattle.git_object.specs.Tree.{Entry}
use Rattle.vref.specs.Rows.{Name, Path, entry_named}
use Rattle.policy_swap.specs.Conf.{AreOnce}

-- ---- the last of a list

pub last_same : {X : Type 0} (xs ys : List X) (x y : X) → xs ++ x ∷ [] ≡ ys ++ y ∷ [] → (xs ≡ ys) × (x ≡ y)
last_same [] [] x y is = (refl, cc)
last_same [] (z ∷ []) x y is = absurd cc
last_same [] (z ∷ w ∷ ys) x y is = absurd cc
last_same (z ∷ []) [] x y is = absurd cc
last_same (z ∷ w ∷ xs) [] x y is = absurd cc
last_same {X = X} (z ∷ xs) (w ∷ ys) x y is =
    let head : z ≡ w = cc in
    let tail : xs ++ x ∷ [] ≡ ys ++ y ∷ [] = cc in
    let rest = last_same xs ys x y tail in
    ((λ i. head i ∷ rest.0 i), rest.1)

-- ---- no repeats

pub once_push : (paths : List Path) (path : Path) → AreOnce paths → (Contains paths path → ⊥) → AreOnce (paths ++ path ∷ [])
once_push [] path once new = ((λ c. contains_none path c), tt)
once_push (p ∷ paths) path once new = (
  λ c. elim (Contains-push_cases paths path p c) [
    | inl there ↦ once.0 there
    | inr same ↦ new (subst (λ (q : Path). Contains (p ∷ paths) q) (sym same) (contains_here p paths))
  ],
  once_push paths path once.1 (λ c. new (contains_there p paths path c)),
)

pub tied : (p q : Path) → eq_by_cmp (slice_cmp nat_cmp) p q ≡ true → p ≡ q
tied p q is = same_bytes p q (sym (is_eq-slice_cmp p q) ∙ is)

apart : (p : Path) (paths : List Path) → (Contains paths p → ⊥) → AllByRecursion (λ q. eq_by_cmp (slice_cmp nat_cmp) p q ≡ false) paths
apart p [] none = tt
apart p (q ∷ paths) none = (by_test (eq_by_cmp (slice_cmp nat_cmp) p q) refl, apart p paths (λ c. none (contains_there q paths p c)))
  where
    by_test : (b : Bool) → eq_by_cmp (slice_cmp nat_cmp) p q ≡ b → b ≡ false
    by_test true is = absurd (none (subst (λ (r : Path). Contains (q ∷ paths) r) (sym (tied p q is)) (contains_here q paths)))
    by_test false is = refl

distinct : (paths : List Path) → AreOnce paths → IsDistinct (eq_by_cmp (slice_cmp nat_cmp)) paths
unfolding IsDistinct
distinct [] once = tt
distinct (p ∷ paths) once = (apart p paths once.0, distinct paths once.1)

-- paths that are all in another list are no more than those
pub fewer : (paths more : List Path) → AreOnce paths → ((p : Path) → Contains paths p → Contains more p) → length paths ≤ length more
fewer paths more once within =
    length-le_from_is_member (eq_by_cmp_equiv nat_list_cmp_total) paths more (distinct paths once)
    (λ q is. list_any-from_Contains (eq_by_cmp_equiv nat_list_cmp_total) q more (within q (Contains-from_any tied q paths is)))

-- ---- side by side

module _ {X Y : Type 0} (R : X → Y → Type 0) where
  pub zip_push : (xs : List X) (ys : List Y) (x : X) (y : Y) → AllZip R xs ys → R x y → AllZip R (xs ++ x ∷ []) (ys ++ y ∷ [])
  zip_push [] [] x y all is = (is, tt)
  zip_push [] (w ∷ ys) x y all is = absurd all
  zip_push (z ∷ xs) [] x y all is = absurd all
  zip_push (z ∷ xs) (w ∷ ys) x y all is = (all.0, zip_push xs ys x y all.1 is)

  pub zip_length : (xs : List X) (ys : List Y) → AllZip R xs ys → length xs ≡ length ys
  zip_length [] [] all = refl
  zip_length [] (w ∷ ys) all = absurd all
  zip_length (z ∷ xs) [] all = absurd all
  zip_length (z ∷ xs) (w ∷ ys) all = ap (λ (n : ℕ). suc n) (zip_length xs ys all.1)

  pub zip_first : (xs : List X) (ys : List Y) (x : X) → AllZip R xs ys → Contains xs x → (y : Y) × Contains ys y × R x y
  zip_first [] ys x all c = absurd (contains_none x c)
  zip_first (z ∷ xs) [] x all c = absurd all
  zip_first (z ∷ xs) (w ∷ ys) x all c =
      elim (contains_cases z xs x c) [
        | inl same ↦ (w, contains_here w ys, subst (λ (a : X). R a w) same all.0)
        | inr there ↦ let rest = zip_first xs ys x all.1 there in (rest.0, contains_there w ys rest.0 rest.1, rest.2)
      ]

  pub zip_second : (xs : List X) (ys : List Y) (y : Y) → AllZip R xs ys → Contains ys y → (x : X) × Contains xs x × R x y
  zip_second xs [] y all c = absurd (contains_none y c)
  zip_second [] (w ∷ ys) y all c = absurd all
  zip_second (z ∷ xs) (w ∷ ys) y all c =
      elim (contains_cases w ys y c) [
        | inl same ↦ (z, contains_here z xs, subst (λ (b : Y). R z b) same all.0)
        | inr there ↦ let rest = zip_second xs ys y all.1 there in (rest.0, contains_there z xs rest.0 rest.1, rest.2)
      ]

  -- what is beside the first one behind some others
  pub zip_at : (before after : List X) (x : X) (ys : List Y) (d : Y) → AllZip R (before ++ x ∷ after) ys → R x (get_or ys (length before) d)
  zip_at [] after x [] d all = absurd all
  zip_at [] after x (w ∷ ys) d all = all.0
  zip_at (z ∷ before) after x [] d all = absurd all
  zip_at (z ∷ before) after x (w ∷ ys) d all = zip_at before after x ys d all.1

-- ---- entries by their names

pub not_seen : (seen : List Entry) (name : Name) → entry_named seen name ≡ None → Contains (map (λ (e : Entry). e.name) seen) name → ⊥
not_seen [] name none c = contains_none name c
not_seen (e ∷ seen) name none c = by_test (not_seen seen name) (bytes_eq e.name name) refl none (contains_cases e.name (map (λ (f : Entry). f.name) seen) name c)
  where
    by_test : (entry_named seen name ≡ None → Contains (map (λ (f : Entry). f.name) seen) name → ⊥) → (b : Bool) → bytes_eq e.name name ≡ b → cond b (Some e) (entry_named seen name) ≡ None → (e.name ≡ name) ⊎ Contains (map (λ (f : Entry). f.name) seen) name → ⊥
    by_test rest true is none c = absurd cc
    by_test rest false is none (inl same) = absurd (cc (is, nat_list_eq_equiv.refl name, ap (λ (n : Name). bytes_eq n name) same))
    by_test rest false is none (inr there) = rest none there

pub is_seen : (es : List Entry) (name : Name) → (entry_named es name ≡ None → ⊥) → Contains (map (λ (e : Entry). e.name) es) name
is_seen [] name some = absurd (some refl)
is_seen (e ∷ es) name some = by_test (is_seen es name) (bytes_eq e.name name) refl some
  where
    by_test : ((entry_named es name ≡ None → ⊥) → Contains (map (λ (f : Entry). f.name) es) name) → (b : Bool) → bytes_eq e.name name ≡ b → (cond b (Some e) (entry_named es name) ≡ None → ⊥) → Contains (e.name ∷ map (λ (f : Entry). f.name) es) name
    by_test rest true is some = subst (λ (n : Name). Contains (e.name ∷ map (λ (f : Entry). f.name) es) n) (same_bytes e.name name is) (contains_here e.name (map (λ (f : Entry). f.name) es))
    by_test rest false is some = contains_there e.name (map (λ (f : Entry). f.name) es) name (rest some)
