-- The order of a tree's entries, and which of those before may have an entry's name.
use Rattle.std.proofs.Common.{◌≡◌, ℕ, zero, suc, ◌<◌, ◌≤◌, Bool, true, false, cond, ◌&&◌, ◌||◌, List, [], ◌∷◌, ◌++◌, map, length, get_or, Result, Ok, Err, refl, sym, ◌∙◌, ap, ap₂, arith, append-nil, length-append, Bor, ◌⊎◌, inl, inr}
use Rattle.std.proofs.lemmas.Bool.{cases_lt}
use Rattle.std.proofs.lemmas.Cmp.{nat_cmp_total, nat_list_cmp_total, tied_itself, alike_right}
use Rattle.std.proofs.lemmas.Map.Text.{is_eq-slice_cmp}
use Rattle.std.proofs.lemmas.List.{get_or_append_left, get_or-map, length-map}
use Rattle.std.specs.Result.{is_ok}
use Rattle.std.proofs.Math.Seq.{get_or-append_seam}
use Rattle.std.proofs.lemmas.List.Folds.{list_any-append}
use Rattle.std.specs.List.{list_any}
use Rattle.std.specs.List.Sorted.{IsBinarySearchResult, IsNonDecreasingBy, IsSearchInRange}
use Rattle.std.specs.Str.{bytes_eq}
use Rattle.std.specs.declared.cmp.Ordering.{Ordering}
use Rattle.std.specs.declared.cmp.Ordering.TheVariants.{Less, Equal, Greater}
use Rattle.std.specs.Ordering.{nat_cmp, is_lt, is_eq, ordering_then, ordering_index}
use Rattle.std.specs.Cmp.Lexicographic.{slice_cmp, same_text}
use Rattle.git_object.specs.Tree.{Entry, is_directory, sort_key, sorts_below}
use Rattle.git_object.specs.Before.{file_names, AllBelow, Rise}

abbrev cmp : List ℕ → List ℕ → Ordering
cmp = slice_cmp nat_cmp

is_less : (o : Ordering) → is_lt o ≡ true → o ≡ Less
is_less Less is = refl
is_less Equal is = cc is
is_less Greater is = cc is

-- what follows a common beginning decides
cmp_behind : (n a b : List ℕ) → cmp (n ++ a) (n ++ b) ≡ cmp a b
cmp_behind [] a b = refl
cmp_behind (x ∷ n) a b = ap (λ o. ordering_then o (cmp (n ++ a) (n ++ b))) (tied_itself nat_cmp_total x) ∙ cmp_behind n a b

-- an entry sorts above another of its name only where it is a directory and the other isn't
pub file_and_directory : (f e : Entry) → sorts_below f e ≡ true → f.name ≡ e.name → (is_directory f ≡ false) × (is_directory e ≡ true)
file_and_directory f e below same = by_kinds (is_directory f) (is_directory e) refl refl
  where
    keys : (d c : Bool) → is_directory f ≡ d → is_directory e ≡ c → cmp (cond d (47 ∷ []) []) (cond c (47 ∷ []) []) ≡ Less
    keys d c of oe =
        sym (cmp_behind e.name (cond d (47 ∷ []) []) (cond c (47 ∷ []) []))
        ∙ ap₂ (λ (a b : List ℕ). cmp a b) (ap (λ (n : List ℕ). n ++ cond d (47 ∷ []) []) (sym same) ∙ ap (λ (b : Bool). f.name ++ cond b (47 ∷ []) []) (sym of)) (ap (λ (b : Bool). e.name ++ cond b (47 ∷ []) []) (sym oe))
        ∙ is_less (cmp (sort_key f) (sort_key e)) below

    by_kinds : (d c : Bool) → is_directory f ≡ d → is_directory e ≡ c → (is_directory f ≡ false) × (is_directory e ≡ true)
    by_kinds false true of oe = (of, oe)
    by_kinds false false of oe = let bad : Equal ≡ Less = keys false false of oe in cc
    by_kinds true true of oe = let bad : Equal ≡ Less = keys true true of oe in cc
    by_kinds true false of oe = let bad : Greater ≡ Less = keys true false of oe in cc

below_further : (es : List Entry) (nearest e : Entry) → AllBelow es nearest → sorts_below nearest e ≡ true → AllBelow es e
below_further [] nearest e all below = tt
below_further (f ∷ fs) nearest e all below = (
  ap is_lt (nat_list_cmp_total.trans (sort_key f) (sort_key nearest) (sort_key e) (is_less _ all.0) (is_less _ below)),
  below_further fs nearest e all.1 below,
)

-- all sort below what the nearest sorts below
pub all_below : (nearest e : Entry) (others : List Entry) → Rise (nearest ∷ others) → sorts_below nearest e ≡ true → AllBelow (nearest ∷ others) e
all_below nearest e others rise below = (below, below_further others nearest e rise.0 below)

-- ---- whether one before has an entry's name

or_true : (b : Bool) → (b || true) ≡ true
or_true true = refl
or_true false = refl

or_none : (b : Bool) → (b || false) ≡ b
or_none true = refl
or_none false = refl

any_one_more : (q : List ℕ) (names : List (List ℕ)) (name : List ℕ) → list_any (λ n. bytes_eq n q) (names ++ name ∷ []) ≡ (list_any (λ n. bytes_eq n q) names || bytes_eq name q)
any_one_more q names name = list_any-append (λ n. bytes_eq n q) names (name ∷ []) ∙ ap (λ b. list_any (λ n. bytes_eq n q) names || b) (or_none (bytes_eq name q))

-- only a directory may stand behind one of its name, and that is a file
pub same_name_is_file : (before : List Entry) (e : Entry) → AllBelow before e
    → list_any (λ f. bytes_eq f.name e.name) before ≡ (is_directory e && list_any (λ n. bytes_eq n e.name) (file_names before))
same_name_is_file [] e all = by_kind (is_directory e)
  where
    by_kind : (c : Bool) → false ≡ (c && false)
    by_kind true = refl
    by_kind false = refl
same_name_is_file (f ∷ fs) e all = by_tests (bytes_eq f.name e.name) (is_directory f) refl refl (same_name_is_file fs e all.1)
  where
    rest : Bool
    rest = list_any (λ n. bytes_eq n e.name) (file_names fs)

    by_tests : (b d : Bool) → bytes_eq f.name e.name ≡ b → is_directory f ≡ d → list_any (λ f. bytes_eq f.name e.name) fs ≡ (is_directory e && rest)
        → (b || list_any (λ f. bytes_eq f.name e.name) fs) ≡ (is_directory e && list_any (λ n. bytes_eq n e.name) (cond d (file_names fs) (file_names fs ++ f.name ∷ [])))
    by_tests true d same of behind =
        let kinds = file_and_directory f e all.0 (same_text f.name e.name (sym same)) in
        let file : d ≡ false = sym of ∙ kinds.0 in
        sym (ap₂ ◌&&◌ kinds.1 (ap (λ (d : Bool). list_any (λ n. bytes_eq n e.name) (cond d (file_names fs) (file_names fs ++ f.name ∷ []))) file ∙ any_one_more e.name (file_names fs) f.name ∙ ap (λ b. rest || b) same ∙ or_true rest))
    by_tests false true other of behind = behind
    by_tests false false other of behind = behind ∙ ap (λ b. is_directory e && b) (sym (any_one_more e.name (file_names fs) f.name ∙ ap (λ b. rest || b) other ∙ or_none rest))

-- ---- the names of the files ascend

abbrev pub Ascend : List (List ℕ) → Type 0
Ascend names = (i j : ℕ) (d : List ℕ) → i < j → j < length names → cmp (get_or names i d) (get_or names j d) ≡ Less

plain_key : (e : Entry) → is_directory e ≡ false → sort_key e ≡ e.name
plain_key e file = ap (λ (b : Bool). e.name ++ cond b (47 ∷ []) []) file ∙ append-nil e.name

last_of : (names : List (List ℕ)) (name d : List ℕ) (i : ℕ) → i ≡ length names → get_or (names ++ name ∷ []) i d ≡ name
last_of names name d i is = ap (λ k. get_or (names ++ name ∷ []) k d) is ∙ get_or-append_seam names name [] d

names_below : (es : List Entry) (e : Entry) → AllBelow es e → is_directory e ≡ false → (i : ℕ) (d : List ℕ) → i < length (file_names es) → cmp (get_or (file_names es) i d) e.name ≡ Less
names_below [] e all file i d within = absurd (omega (arith, within))
names_below (f ∷ fs) e all file i d within = by_kind (is_directory f) refl within (names_below fs e all.1 file i d)
  where
    by_place : is_directory f ≡ false → i < length (file_names fs ++ f.name ∷ []) → (i < length (file_names fs)) ⊎ (length (file_names fs) ≤ i) → (i < length (file_names fs) → cmp (get_or (file_names fs) i d) e.name ≡ Less) → cmp (get_or (file_names fs ++ f.name ∷ []) i d) e.name ≡ Less
    by_place of within (inl inside) rest = ap (λ (n : List ℕ). cmp n e.name) (get_or_append_left (file_names fs) (f.name ∷ []) d i inside) ∙ rest inside
    by_place of within (inr past) rest =
        let last : i ≡ length (file_names fs) = omega (arith, within, past, length-append (file_names fs) (f.name ∷ [])) in
        ap (λ (n : List ℕ). cmp n e.name) (last_of (file_names fs) f.name d i last)
        ∙ ap₂ (λ (a b : List ℕ). cmp a b) (sym (plain_key f of)) (sym (plain_key e file))
        ∙ is_less (cmp (sort_key f) (sort_key e)) all.0

    by_kind : (c : Bool) → is_directory f ≡ c → i < length (cond c (file_names fs) (file_names fs ++ f.name ∷ [])) → (i < length (file_names fs) → cmp (get_or (file_names fs) i d) e.name ≡ Less) → cmp (get_or (cond c (file_names fs) (file_names fs ++ f.name ∷ [])) i d) e.name ≡ Less
    by_kind true of within rest = rest within
    by_kind false of within rest = by_place of within (cases_lt i (length (file_names fs))) rest

pub files_ascend : (es : List Entry) → Rise es → Ascend (file_names es)
files_ascend [] rise i j d less within = absurd (omega (arith, within))
files_ascend (e ∷ es) rise i j d less within = by_kind (is_directory e) refl within (files_ascend es rise.1 i j d less)
  where
    by_place : is_directory e ≡ false → j < length (file_names es ++ e.name ∷ []) → (j < length (file_names es)) ⊎ (length (file_names es) ≤ j) → (j < length (file_names es) → cmp (get_or (file_names es) i d) (get_or (file_names es) j d) ≡ Less) → cmp (get_or (file_names es ++ e.name ∷ []) i d) (get_or (file_names es ++ e.name ∷ []) j d) ≡ Less
    by_place of within (inl inside) rest =
        ap₂ (λ (a b : List ℕ). cmp a b) (get_or_append_left (file_names es) (e.name ∷ []) d i (omega (arith, less, inside))) (get_or_append_left (file_names es) (e.name ∷ []) d j inside)
        ∙ rest inside
    by_place of within (inr past) rest =
        let last : j ≡ length (file_names es) = omega (arith, within, past, length-append (file_names es) (e.name ∷ [])) in
        let before : i < length (file_names es) = omega (arith, less, last) in
        ap₂ (λ (a b : List ℕ). cmp a b) (get_or_append_left (file_names es) (e.name ∷ []) d i before) (last_of (file_names es) e.name d j last)
        ∙ names_below es e rise.0 of i d before

    by_kind : (c : Bool) → is_directory e ≡ c → j < length (cond c (file_names es) (file_names es ++ e.name ∷ [])) → (j < length (file_names es) → cmp (get_or (file_names es) i d) (get_or (file_names es) j d) ≡ Less) → cmp (get_or (cond c (file_names es) (file_names es ++ e.name ∷ [])) i d) (get_or (cond c (file_names es) (file_names es ++ e.name ∷ [])) j d) ≡ Less
    by_kind true of within rest = rest within
    by_kind false of within rest = by_place of within (cases_lt j (length (file_names es))) rest

-- ---- a search among the names

any_at : {X : Type 0} (p : X → Bool) (xs : List X) (i : ℕ) (d : X) → i < length xs → p (get_or xs i d) ≡ true → list_any p xs ≡ true
any_at p [] i d within is = absurd (omega (arith, within))
any_at p (x ∷ xs) zero d within is = ap (λ b. b || list_any p xs) is
any_at p (x ∷ xs) (suc i) d within is = ap (λ b. p x || b) (any_at p xs i d (omega (arith, within)) is) ∙ or_true (p x)

none_at : {X : Type 0} (p : X → Bool) (xs : List X) → ((i : ℕ) (d : X) → i < length xs → p (get_or xs i d) ≡ false) → list_any p xs ≡ false
none_at p [] none = refl
none_at p (x ∷ xs) none = ap (λ b. b || list_any p xs) (none 0 x (omega arith)) ∙ none_at p xs (λ i d within. none (suc i) d (omega (arith, within)))

any_map : {X Y : Type 0} (f : X → Y) (p : Y → Bool) (xs : List X) → list_any p (map f xs) ≡ list_any (λ x. p (f x)) xs
any_map f p [] = refl
any_map f p (x ∷ xs) = ap (λ b. p (f x) || b) (any_map f p xs)

rank : (o : Ordering) → ordering_index o ≤ 2
rank Less = omega arith
rank Equal = omega arith
rank Greater = omega arith

module _ (items : List (Bor (List ℕ))) (q : Bor (List ℕ)) (ascend : Ascend (map (λ f. f.now) items)) where
  beside : Bor (List ℕ) → Ordering
  beside f = cmp f.now q.now

  in_order : (i j : ℕ) (d : Bor (List ℕ)) → i < j → j < length items → cmp (get_or items i d).now (get_or items j d).now ≡ Less
  in_order i j d less within =
      ap₂ (λ (a b : List ℕ). cmp a b) (sym (get_or-map (λ (f : Bor (List ℕ)). f.now) items i d d.now (omega (arith, less, within)))) (sym (get_or-map (λ (f : Bor (List ℕ)). f.now) items j d d.now within))
      ∙ ascend i j d.now less (omega (arith, within, length-map items (λ (f : Bor (List ℕ)). f.now)))

  no_greater : (a b : List ℕ) (o : Ordering) → cmp b q.now ≡ o → cmp a b ≡ Less → ordering_index (cmp a q.now) ≤ ordering_index o
  no_greater a b Less is less = omega (arith, ap ordering_index (nat_list_cmp_total.trans a b q.now less is))
  no_greater a b Equal is less = omega (arith, ap ordering_index (sym (alike_right nat_list_cmp_total b q.now a is) ∙ less))
  no_greater a b Greater is less = rank (cmp a q.now)

  rises : IsNonDecreasingBy (λ f. ordering_index (cmp f.now q.now)) items
  rises i j d le within = by_place (cases_lt i j)
    where
      by_place : (i < j) ⊎ (j ≤ i) → ordering_index (cmp (get_or items i d).now q.now) ≤ ordering_index (cmp (get_or items j d).now q.now)
      by_place (inl less) = no_greater (get_or items i d).now (get_or items j d).now (cmp (get_or items j d).now q.now) refl (in_order i j d less within)
      by_place (inr same) = let is : i ≡ j = omega (arith, le, same) in omega (arith, ap (λ (k : ℕ). ordering_index (cmp (get_or items k d).now q.now)) is)

  differs : (o : Ordering) (f : Bor (List ℕ)) → cmp f.now q.now ≡ o → is_eq o ≡ false → bytes_eq f.now q.now ≡ false
  differs o f is other = sym (is_eq-slice_cmp f.now q.now) ∙ ap is_eq is ∙ other

  -- what a search tells
  pub searched : (r : Result ℕ ℕ) → IsSearchInRange r (length items) → IsBinarySearchResult (λ f. cmp f.now q.now) items r → is_ok r ≡ list_any (λ n. bytes_eq n q.now) (map (λ f. f.now) items)
  searched (Ok at) within equal =
      sym (any_map (λ (f : Bor (List ℕ)). f.now) (λ n. bytes_eq n q.now) items
      ∙ any_at (λ (f : Bor (List ℕ)). bytes_eq f.now q.now) items at q within (sym (is_eq-slice_cmp (get_or items at q).now q.now) ∙ ap is_eq (equal q)))
  searched (Err at) within parted =
      sym (any_map (λ (f : Bor (List ℕ)). f.now) (λ n. bytes_eq n q.now) items
      ∙ none_at (λ (f : Bor (List ℕ)). bytes_eq f.now q.now) items (λ i d inside. by_place i d inside (cases_lt i at)))
    where
      by_place : (i : ℕ) (d : Bor (List ℕ)) → i < length items → (i < at) ⊎ (at ≤ i) → bytes_eq (get_or items i d).now q.now ≡ false
      by_place i d inside (inl before) = differs Less (get_or items i d) ((parted rises).0 i d (omega arith) before) refl
      by_place i d inside (inr behind) = differs Greater (get_or items i d) ((parted rises).1 i d behind inside) refl
