-- Entries by their names, and the names at which two trees differ.
use Rattle.std.proofs.Common.{◌≡◌, ℕ, Bool, true, false, cond, List, [], ◌∷◌, ◌++◌, map, length, Option, None, Some, All, Contains, refl, sym, ◌∙◌, ap, subst, Bor, ◌⊎◌, inl, inr, ◌+◌, ◌<◌, take, get_or}
use Rattle.std.proofs.lemmas.List.{take_more}
use Rattle.std.specs.Prelude.{is_some}
use Rattle.std.specs.Option.{option_or}
use Rattle.std.specs.List.{AllByRecursion}
use Rattle.std.specs.List.Sorted.{IsStrictlySortedBy}
use Rattle.std.specs.Str.{bytes_eq}
use Rattle.std.specs.Cmp.{IsTotalOrder}
use Rattle.std.specs.Ordering.{nat_cmp, is_eq}
use Rattle.std.specs.declared.cmp.Ordering.{Ordering}
use Rattle.std.specs.declared.cmp.Ordering.TheVariants.{Less}
use Rattle.std.specs.Cmp.Lexicographic.{slice_cmp}
use Rattle.std.specs.BTreeMap.{BTreeMap, IsOrdered, get, Updates, is_at}
use Rattle.std.specs.Map.{lookup}
use Rattle.std.proofs.lemmas.Cmp.{nat_list_cmp_total, on_total}
use Rattle.std.proofs.lemmas.List.Folds.{find-append}
use Rattle.std.proofs.lemmas.List.Elements.{All-nil, All-push, All-weaker, All-map, All-contains, recursion_from_All, Contains-append_left, Contains-push, Contains-push_cases}
use Rattle.std.proofs.lemmas.Map.Text.{is_eq-slice_cmp}
use Rattle.std.proofs.lemmas.Map.Views.{All-before_last, All-found}
use Rattle.ref_store.proofs.ObjectLemmas.{same_bytes}
use Rattle.ancestry.proofs.ListLemmas.{contains_none, contains_here, contains_there, contains_map}
use Rattle.git_object.specs.Tree.{Entry, entry_of}
use Rattle.git_object.specs.declared.tree.TreeEntry.{TreeEntry}
use Rattle.vref.specs.Rows.{Name, entry_named}
use Rattle.vref.specs.Differences.{name_cmp, name_of, old_of, new_of, old_entry, new_entry, difference_of, FindsBoth, Joins, IsDifference, IsNamed, AreDifferences, AreSifted}
use Rattle.vref.specs.Through.{HasSides}
use Rattle.vref.specs.declared.differences.Difference.{Difference}
use Rattle.vref.specs.declared.differences.Sides.{Sides}

-- ---- lists in order

pub map_push : {X Y : Type 0} (f : X → Y) (xs : List X) (x : X) → map f (xs ++ x ∷ []) ≡ map f xs ++ f x ∷ []
map_push f [] x = refl
map_push {X} {Y} f (y ∷ xs) x = ap (λ (ys : List Y). f y ∷ ys) (map_push f xs x)

all_front : {X : Type 0} (P : X → Type 0) (xs : List X) (y : X) → AllByRecursion P (xs ++ y ∷ []) → AllByRecursion P xs
all_front P [] y all = tt
all_front P (x ∷ xs) y all = (all.0, all_front P xs y all.1)

all_pushed : {X : Type 0} (P : X → Type 0) (xs : List X) (y : X) → AllByRecursion P xs → P y → AllByRecursion P (xs ++ y ∷ [])
all_pushed P [] y all is = (is, tt)
all_pushed P (x ∷ xs) y all is = (all.0, all_pushed P xs y all.1 is)

pub sorted_front : {K : Type 0} (R : K → K → Ordering) (xs : List K) (y : K) → IsStrictlySortedBy R (xs ++ y ∷ []) → IsStrictlySortedBy R xs
unfolding IsStrictlySortedBy
sorted_front R [] y up = tt
sorted_front R (x ∷ xs) y up = (all_front (λ z. R x z ≡ Less) xs y up.0, sorted_front R xs y up.1)

pub sorted_push : {K : Type 0} (R : K → K → Ordering) (xs : List K) (y : K) → IsStrictlySortedBy R xs → AllByRecursion (λ x. R x y ≡ Less) xs → IsStrictlySortedBy R (xs ++ y ∷ [])
unfolding IsStrictlySortedBy
sorted_push R [] y up below = (tt, tt)
sorted_push R (x ∷ xs) y up below = (all_pushed (λ z. R x z ≡ Less) xs y up.0 below.0, sorted_push R xs y up.1 below.1)

pub sorted_none : {K : Type 0} (R : K → K → Ordering) → IsStrictlySortedBy R []
unfolding IsStrictlySortedBy
sorted_none R = tt

-- ---- the entries so far, by their names

entry_named_push : (es : List Entry) (e : Entry) (name : Name) → entry_named (es ++ e ∷ []) name ≡ option_or (entry_named es name) (cond (bytes_eq e.name name) (Some e) None)
entry_named_push es e name = find-append (λ f. bytes_eq f.name name) es (e ∷ [])

or_none : {X : Type 0} (o : Option X) → option_or o None ≡ o
or_none None = refl
or_none (Some x) = refl

or_some : {X : Type 0} (a b : Option X) → ¬ (a ≡ None) → option_or a b ≡ a
or_some None b some = absurd (some refl)
or_some (Some x) b some = refl

pub got : (m n : BTreeMap (Bor Name) Sides) (key : Bor Name) (s : Sides) → Updates name_cmp m n key (Some s) → (name : Bor Name) → get name_cmp n name ≡ cond (bytes_eq key.now name.now) (Some s) (get name_cmp m name)
got m n key s updates name = updates.0 name ∙ ap (λ b. cond b (Some s) (get name_cmp m name)) (is_eq-slice_cmp key.now name.now)

module _ (side : Option Sides → Option Entry) where
  abbrev Finds : List Entry → BTreeMap (Bor Name) Sides → Type 0
  Finds es m = (name : Bor Name) → side (get name_cmp m name) ≡ entry_named es name.now

  -- an entry of a new name is put in
  side_more : (es : List Entry) (m n : BTreeMap (Bor Name) Sides) (e : TreeEntry) (s : Sides) → Finds es m → Updates name_cmp m n e.name (Some s) → side (get name_cmp m e.name) ≡ None → side (Some s) ≡ Some (entry_of e) → Finds (es ++ entry_of e ∷ []) n
  side_more es m n e s finds updates none some name = ap side (got m n e.name s updates name) ∙ by_test (bytes_eq e.name.now name.now) refl ∙ sym (entry_named_push es (entry_of e) name.now)
    where
      by_test : (b : Bool) → bytes_eq e.name.now name.now ≡ b → side (cond (bytes_eq e.name.now name.now) (Some s) (get name_cmp m name)) ≡ option_or (entry_named es name.now) (cond (bytes_eq e.name.now name.now) (Some (entry_of e)) None)
      by_test true same =
          let free : entry_named es name.now ≡ None = ap (entry_named es) (sym (same_bytes e.name.now name.now same)) ∙ sym (finds e.name) ∙ none in
          rw same (some ∙ sym (ap (λ (o : Option Entry). option_or o (Some (entry_of e))) free))
      by_test false other = rw other (finds name ∙ sym (or_none (entry_named es name.now)))

  -- what is put in leaves this side as it was
  side_kept : (es : List Entry) (m n : BTreeMap (Bor Name) Sides) (key : Bor Name) (s : Sides) → Finds es m → Updates name_cmp m n key (Some s) → side (Some s) ≡ side (get name_cmp m key) → Finds es n
  side_kept es m n key s finds updates kept name = ap side (got m n key s updates name) ∙ by_test (bytes_eq key.now name.now) refl
    where
      by_test : (b : Bool) → bytes_eq key.now name.now ≡ b → side (cond (bytes_eq key.now name.now) (Some s) (get name_cmp m name)) ≡ entry_named es name.now
      by_test true same = rw same (kept ∙ finds key ∙ ap (entry_named es) (same_bytes key.now name.now same))
      by_test false other = rw other (finds name)

  -- an entry of a name that is there already changes nothing
  side_known : (es : List Entry) (m : BTreeMap (Bor Name) Sides) (e : TreeEntry) → Finds es m → ¬ (side (get name_cmp m e.name) ≡ None) → Finds (es ++ entry_of e ∷ []) m
  side_known es m e finds some name = finds name ∙ by_test (bytes_eq e.name.now name.now) refl ∙ sym (entry_named_push es (entry_of e) name.now)
    where
      by_test : (b : Bool) → bytes_eq e.name.now name.now ≡ b → entry_named es name.now ≡ option_or (entry_named es name.now) (cond (bytes_eq e.name.now name.now) (Some (entry_of e)) None)
      by_test true same = sym (or_some (entry_named es name.now) _ (λ none. some (finds e.name ∙ ap (entry_named es) (same_bytes e.name.now name.now same) ∙ none)))
      by_test false other = sym (ap (λ b. option_or (entry_named es name.now) (cond b (Some (entry_of e)) None)) other ∙ or_none (entry_named es name.now))

pub finds_none : (m : BTreeMap (Bor Name) Sides) → m.entries ≡ [] → IsOrdered name_cmp m → FindsBoth [] [] m
finds_none m none ordered = record { old_is = λ name. ap old_of (nothing name); new_is = λ name. ap new_of (nothing name); filled = λ name _ _. nothing name; ordered = ordered }
  where
    nothing : (name : Bor Name) → get name_cmp m name ≡ None
    nothing name = ap (λ (es : List (Bor Name × Sides)). lookup (is_at (name_cmp name)) es) none

filled_more : (m n : BTreeMap (Bor Name) Sides) (key : Bor Name) (s : Sides) → Updates name_cmp m n key (Some s) → ¬ (old_of (Some s) ≡ None) ⊎ ¬ (new_of (Some s) ≡ None)
    → ((name : Bor Name) → old_of (get name_cmp m name) ≡ None → new_of (get name_cmp m name) ≡ None → get name_cmp m name ≡ None)
    → (name : Bor Name) → old_of (get name_cmp n name) ≡ None → new_of (get name_cmp n name) ≡ None → get name_cmp n name ≡ None
filled_more m n key s updates some filled name no_old no_new =
    got m n key s updates name ∙ by_test (bytes_eq key.now name.now) (sym (ap old_of (got m n key s updates name)) ∙ no_old) (sym (ap new_of (got m n key s updates name)) ∙ no_new)
  where
    by_some : ¬ (old_of (Some s) ≡ None) ⊎ ¬ (new_of (Some s) ≡ None) → old_of (Some s) ≡ None → new_of (Some s) ≡ None → ⊥
    by_some (inl is) o n = is o
    by_some (inr is) o n = is n

    by_test : (b : Bool) → old_of (cond b (Some s) (get name_cmp m name)) ≡ None → new_of (cond b (Some s) (get name_cmp m name)) ≡ None → cond b (Some s) (get name_cmp m name) ≡ None
    by_test true o n = absurd (by_some some o n)
    by_test false o n = filled name o n

-- ---- the entries by their places

next_entry : (es : List TreeEntry) (i : ℕ) (d : TreeEntry) → i < length es → map entry_of (take i es) ++ entry_of (get_or es i d) ∷ [] ≡ map entry_of (take (i + 1) es)
next_entry es i d below = sym (ap (map entry_of) (take_more es i d below) ∙ map_push entry_of (take i es) (get_or es i d))

not_none : {X : Type 0} (o : Option X) (x : X) → o ≡ Some x → ¬ (o ≡ None)
not_none o x is none = absurd cc

pub old_known : (es : List TreeEntry) (i : ℕ) (d : TreeEntry) (m : BTreeMap (Bor Name) Sides) → i < length es → FindsBoth (map entry_of (take i es)) [] m → is_some (get name_cmp m (get_or es i d).name) ≡ true → FindsBoth (map entry_of (take (i + 1) es)) [] m
old_known es i d m below finds known =
    subst (λ (xs : List Entry). FindsBoth xs [] m) (next_entry es i d below)
    (record {
      old_is = side_known old_of (map entry_of (take i es)) m (get_or es i d) finds.old_is (λ none. absurd (let e = finds.filled (get_or es i d).name none (finds.new_is (get_or es i d).name) in cc (e, known, ap is_some e)));
      new_is = finds.new_is;
      filled = finds.filled;
      ordered = finds.ordered;
    })

none_of : {X : Type 0} (o : Option X) → is_some o ≡ false → o ≡ None
none_of None is = refl
none_of (Some x) is = absurd cc

pub old_more : (es : List TreeEntry) (i : ℕ) (d : TreeEntry) (m n : BTreeMap (Bor Name) Sides) → i < length es → FindsBoth (map entry_of (take i es)) [] m → is_some (get name_cmp m (get_or es i d).name) ≡ false
    → Updates name_cmp m n (get_or es i d).name (Some (record { old = Some (get_or es i d); new = None })) → IsOrdered name_cmp n → FindsBoth (map entry_of (take (i + 1) es)) [] n
old_more es i d m n below finds unknown updates ordered =
    let none = none_of (get name_cmp m (get_or es i d).name) unknown in
    subst (λ (xs : List Entry). FindsBoth xs [] n) (next_entry es i d below)
    (record {
      old_is = side_more old_of (map entry_of (take i es)) m n (get_or es i d) _ finds.old_is updates (ap old_of none) refl;
      new_is = side_kept new_of [] m n (get_or es i d).name _ finds.new_is updates (sym (ap new_of none));
      filled = filled_more m n (get_or es i d).name _ updates (inl (not_none _ _ refl)) finds.filled;
      ordered = ordered;
    })

pub new_known : (old : List Entry) (es : List TreeEntry) (i : ℕ) (d : TreeEntry) (m : BTreeMap (Bor Name) Sides) (sides : Option Sides) → i < length es → FindsBoth old (map entry_of (take i es)) m → sides ≡ get name_cmp m (get_or es i d).name
    → ¬ (new_of sides ≡ None) → FindsBoth old (map entry_of (take (i + 1) es)) m
new_known old es i d m sides below finds is known =
    subst (λ (xs : List Entry). FindsBoth old xs m) (next_entry es i d below)
    (record { old_is = finds.old_is; new_is = side_known new_of (map entry_of (take i es)) m (get_or es i d) finds.new_is (λ none. known (ap new_of is ∙ none)); filled = finds.filled; ordered = finds.ordered })

pub new_more : (old : List Entry) (es : List TreeEntry) (i : ℕ) (d : TreeEntry) (m n : BTreeMap (Bor Name) Sides) (sides : Option Sides) (s : Sides) → i < length es → FindsBoth old (map entry_of (take i es)) m → sides ≡ get name_cmp m (get_or es i d).name
    → Joins sides (get_or es i d) (Some s) → Updates name_cmp m n (get_or es i d).name (Some s) → IsOrdered name_cmp n → FindsBoth old (map entry_of (take (i + 1) es)) n
new_more old es i d m n sides s below finds is joins updates ordered =
    subst (λ (xs : List Entry). FindsBoth old xs n) (next_entry es i d below)
    (record {
      old_is = side_kept old_of old m n (get_or es i d).name s finds.old_is updates (joins.1 ∙ ap old_of is);
      new_is = side_more new_of (map entry_of (take i es)) m n (get_or es i d) s finds.new_is updates (sym (ap new_of is) ∙ joins.0) joins.2;
      filled = filled_more m n (get_or es i d).name s updates (inr (not_none _ _ joins.2)) finds.filled;
      ordered = ordered;
    })

-- ---- the names whose sides differ

pub sift_none : (list : List Difference) → list ≡ [] → AreSifted [] list
sift_none list none = subst (λ (l : List Difference). AreSifted [] l) (sym none) (record { each = All-nil _; all = λ e c. absurd (contains_none e c); ascend = λ _. sorted_none (slice_cmp nat_cmp) })

abbrev Named : List (Bor Name × Sides) → Difference → Type 0
Named names d = (e : Bor Name × Sides) × Contains names e × (d ≡ difference_of e) × ¬ (old_entry d ≡ new_entry d)

named_more : (names : List (Bor Name × Sides)) (e : Bor Name × Sides) (d : Difference) → Named names d → Named (names ++ e ∷ []) d
named_more names e d is = (is.0, Contains-append_left names (e ∷ []) is.0 is.1, is.2, is.3)

pub sift_same : (names : List (Bor Name × Sides)) (list : List Difference) (e : Bor Name × Sides) → AreSifted names list → old_of (Some e.1) ≡ new_of (Some e.1) → AreSifted (names ++ e ∷ []) list
sift_same names list e sifted same = record {
  each = All-weaker (Named names) (Named (names ++ e ∷ [])) (named_more names e) list sifted.each;
  all = λ f c. elim (Contains-push_cases names e f c) [
    | inl there ↦ sifted.all f there
    | inr is ↦ inl (subst (λ (g : Bor Name × Sides). old_of (Some g.1) ≡ new_of (Some g.1)) is same)
  ];
  ascend = λ up. sifted.ascend (sorted_front name_cmp (map (λ f. f.0) names) e.0 (subst (λ (ns : List (Bor Name)). IsStrictlySortedBy name_cmp ns) (map_push (λ f. f.0) names e) up));
}

pub sift_other : (names : List (Bor Name × Sides)) (list more : List Difference) (e : Bor Name × Sides) → AreSifted names list → ¬ (old_of (Some e.1) ≡ new_of (Some e.1)) → more ≡ list ++ difference_of e ∷ [] → AreSifted (names ++ e ∷ []) more
sift_other names list more e sifted differ push = subst (λ (l : List Difference). AreSifted (names ++ e ∷ []) l) (sym push) (record {
  each = All-push (Named (names ++ e ∷ [])) list (difference_of e) (All-weaker (Named names) (Named (names ++ e ∷ [])) (named_more names e) list sifted.each) (e, Contains-push names e, refl, differ);
  all = λ f c. elim (Contains-push_cases names e f c) [
    | inl there ↦ still f (sifted.all f there)
    | inr is ↦ inr (subst (λ (g : Bor Name × Sides). Contains (list ++ difference_of e ∷ []) (difference_of g)) is (Contains-push list (difference_of e)))
  ];
  ascend = λ up. rises (subst (λ (ns : List (Bor Name)). IsStrictlySortedBy name_cmp ns) (map_push (λ f. f.0) names e) up);
})
  where
    still : (f : Bor Name × Sides) → (old_of (Some f.1) ≡ new_of (Some f.1)) ⊎ Contains list (difference_of f) → (old_of (Some f.1) ≡ new_of (Some f.1)) ⊎ Contains (list ++ difference_of e ∷ []) (difference_of f)
    still f (inl same) = inl same
    still f (inr there) = inr (Contains-append_left list (difference_of e ∷ []) (difference_of f) there)

    rises : IsStrictlySortedBy name_cmp (map (λ f. f.0) names ++ e.0 ∷ []) → IsStrictlySortedBy (slice_cmp nat_cmp) (map name_of (list ++ difference_of e ∷ []))
    rises up =
        let before : All (λ q. name_cmp q e.0 ≡ Less) (map (λ f. f.0) names) = All-before_last name_cmp (map (λ f. f.0) names) e.0 up in
        let below : All (λ (d : Difference). slice_cmp nat_cmp (name_of d) e.0.now ≡ Less) list =
        All-weaker (Named names) (λ d. slice_cmp nat_cmp (name_of d) e.0.now ≡ Less)
        (λ d is. ap (λ (g : Difference). slice_cmp nat_cmp (name_of g) e.0.now) is.2 ∙ All-contains (λ q. name_cmp q e.0 ≡ Less) (map (λ f. f.0) names) is.0.0 before (contains_map (λ f. f.0) names is.0 is.1)) list sifted.each in
        subst (λ (ns : List Name). IsStrictlySortedBy (slice_cmp nat_cmp) ns) (sym (map_push name_of list (difference_of e)))
        (sorted_push (slice_cmp nat_cmp) (map name_of list) e.0.now (sifted.ascend (sorted_front name_cmp (map (λ f. f.0) names) e.0 up))
        (recursion_from_All (λ q. slice_cmp nat_cmp q e.0.now ≡ Less) (map name_of list) (All-map (λ q. slice_cmp nat_cmp q e.0.now ≡ Less) name_of list below)))

-- an entry that a look-up found
looked_up : (key : Bor Name) (es : List (Bor Name × Sides)) (s : Sides) → lookup (is_at (name_cmp key)) es ≡ Some s → (e : Bor Name × Sides) × Contains es e × (key.now ≡ e.0.now) × (e.1 ≡ s)
looked_up key [] s is = absurd cc
looked_up key (e ∷ es) s is = by_test (looked_up key es s) (is_eq (name_cmp key e.0)) refl is
  where
    by_test : (lookup (is_at (name_cmp key)) es ≡ Some s → (f : Bor Name × Sides) × Contains es f × (key.now ≡ f.0.now) × (f.1 ≡ s)) → (b : Bool) → is_eq (name_cmp key e.0) ≡ b
        → cond b (Some e.1) (lookup (is_at (name_cmp key)) es) ≡ Some s → (f : Bor Name × Sides) × Contains (e ∷ es) f × (key.now ≡ f.0.now) × (f.1 ≡ s)
    by_test rest true same is = (e, contains_here e es, same_bytes key.now e.0.now (sym (is_eq-slice_cmp key.now e.0.now) ∙ same), cc)
    by_test rest false other is = let f = rest is in (f.0, contains_there e es f.0 f.1, f.2, f.3)

name_total : IsTotalOrder name_cmp
name_total = on_total (λ (b : Bor Name). b.now) nat_list_cmp_total

-- of a map that has what is on either side wherever two trees differ, what is left differs just where they do
pub sifted_sides : (old new : List Entry) (m : BTreeMap (Bor Name) Sides) (list : List Difference) → HasSides (entry_named old) (entry_named new) m → AreSifted m.entries list → AreDifferences old new list
sifted_sides old new m list has sifted = record {
  ascend = sifted.ascend has.ordered;
  each = All-weaker (Named m.entries) (IsDifference old new) is_difference list sifted.each;
  all = λ name differ. by_found name differ (get name_cmp m (record { ref_ptr = (0, 0); now = name })) refl;
}
  where
    there : (e : Bor Name × Sides) → Contains m.entries e → get name_cmp m e.0 ≡ Some e.1
    there e c = All-contains (λ f. get name_cmp m f.0 ≡ Some f.1) m.entries e (All-found name_total m has.ordered) c

    is_difference : (d : Difference) → Named m.entries d → IsDifference old new d
    is_difference d is = record {
      old_is = ap old_entry is.2 ∙ has.old_is is.0.0 is.0.1 (there is.0 is.1) ∙ sym (ap (λ (g : Difference). entry_named old g.name.now) is.2);
      new_is = ap new_entry is.2 ∙ has.new_is is.0.0 is.0.1 (there is.0 is.1) ∙ sym (ap (λ (g : Difference). entry_named new g.name.now) is.2);
      differ = is.3;
    }

    by_found : (name : Name) → ¬ (entry_named old name ≡ entry_named new name) → (o : Option Sides) → get name_cmp m (record { ref_ptr = (0, 0); now = name }) ≡ o → IsNamed old new list name
    by_found name differ None none = absurd (differ (has.alike (record { ref_ptr = (0, 0); now = name }) none))
    by_found name differ (Some s) some =
        let found = looked_up (record { ref_ptr = (0, 0); now = name }) m.entries s some in
        elim (sifted.all found.0 found.1) [
          | inl same ↦ absurd (differ (
              sym (has.old_is (record { ref_ptr = (0, 0); now = name }) s some) ∙ ap (λ (t : Sides). old_of (Some t)) (sym found.3) ∙ same
              ∙ ap (λ (t : Sides). new_of (Some t)) found.3 ∙ has.new_is (record { ref_ptr = (0, 0); now = name }) s some))
          | inr listed ↦ (difference_of found.0, listed, sym found.2)
        ]

-- a map that has what both trees have has it where they differ
sides_of_both : (old new : List Entry) (m : BTreeMap (Bor Name) Sides) → FindsBoth old new m → HasSides (entry_named old) (entry_named new) m
sides_of_both old new m finds = record {
  old_is = λ name s some. sym (ap old_of some) ∙ finds.old_is name;
  new_is = λ name s some. sym (ap new_of some) ∙ finds.new_is name;
  alike = λ name none. sym (sym (ap old_of none) ∙ finds.old_is name) ∙ (sym (ap new_of none) ∙ finds.new_is name);
  ordered = finds.ordered;
}

pub sifted_differences : (old new : List Entry) (m : BTreeMap (Bor Name) Sides) (list : List Difference) → FindsBoth old new m → AreSifted m.entries list → AreDifferences old new list
sifted_differences old new m list finds sifted = sifted_sides old new m list (sides_of_both old new m finds) sifted
