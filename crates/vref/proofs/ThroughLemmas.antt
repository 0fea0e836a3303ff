-- Where two trees differ, by where each differs from a third.
use Rattle.std.proofs.Common.{◌≡◌, ℕ, Bool, true, false, cond, ◌&&◌, ◌||◌, List, [], ◌∷◌, ◌++◌, map, take, length, ◌<◌, ◌+◌, get_or, Option, None, Some, Contains, refl, sym, ◌∙◌, ap, subst, Bor, ◌⊎◌, inl, inr}
use Rattle.std.proofs.lemmas.Cmp.{nat_list_eq_equiv}
use Rattle.std.proofs.lemmas.List.{take_more}
use Rattle.std.proofs.lemmas.List.Elements.{All-map, All-nil, All-weaker}
use Rattle.std.specs.List.{list_any}
use Rattle.std.specs.List.Sorted.{IsStrictlySortedBy}
use Rattle.std.specs.Str.{bytes_eq}
use Rattle.std.specs.Ordering.{nat_cmp}
use Rattle.std.specs.Cmp.Lexicographic.{slice_cmp}
use Rattle.std.specs.BTreeMap.{BTreeMap, IsOrdered, get, Updates, is_at}
use Rattle.std.specs.Map.{lookup}
use Rattle.ref_store.specs.Objects.{same_id}
use Rattle.ref_store.proofs.ObjectLemmas.{same_bytes, id_is, id_itself}
use Rattle.ancestry.proofs.ListLemmas.{contains_none, contains_cases, contains_map}
use Rattle.git_object.specs.Tree.{Entry}
use Rattle.vref.specs.Rows.{Name, entry_named}
use Rattle.vref.specs.Differences.{name_cmp, name_of, old_of, new_of, old_entry, new_entry, IsDifference, AreDifferences}
use Rattle.vref.specs.Through.{HasSides, first_entry, turned}
use Rattle.vref.specs.declared.differences.Difference.{Difference}
use Rattle.vref.specs.declared.differences.Sides.{Sides}
use Rattle.vref.proofs.DifferenceLemmas.{got, sorted_none}

-- ---- two entries are one, or they aren't

both_are : (a b : Bool) → (a && b) ≡ true → (a ≡ true) × (b ≡ true)
both_are true b is = (refl, is)
both_are false b is = absurd cc

abbrev same_entry : Option Entry → Option Entry → Bool
same_entry None None = true
same_entry None (Some b) = false
same_entry (Some a) None = false
same_entry (Some a) (Some b) = bytes_eq a.mode b.mode && (bytes_eq a.name b.name && same_id a.id b.id)

entry_is : (a b : Option Entry) → same_entry a b ≡ true → a ≡ b
entry_is None None is = refl
entry_is None (Some b) is = absurd cc
entry_is (Some a) None is = absurd cc
entry_is (Some a) (Some b) is =
    let first = both_are (bytes_eq a.mode b.mode) (bytes_eq a.name b.name && same_id a.id b.id) is in
    let rest = both_are (bytes_eq a.name b.name) (same_id a.id b.id) first.1 in
    let mode = same_bytes a.mode b.mode first.0 in
    let name = same_bytes a.name b.name rest.0 in
    let id = id_is a.id b.id rest.1 in
    λ i. Some (record { mode = mode i; name = name i; id = id i })

all_true : (a b c : Bool) → a ≡ true → b ≡ true → c ≡ true → (a && (b && c)) ≡ true
all_true a b c p q r = rw p (rw q r)

entry_itself : (a : Option Entry) → same_entry a a ≡ true
entry_itself None = refl
entry_itself (Some a) = all_true (bytes_eq a.mode a.mode) (bytes_eq a.name a.name) (same_id a.id a.id) (nat_list_eq_equiv.refl a.mode) (nat_list_eq_equiv.refl a.name) (id_itself a.id)

-- what can't differ is the same
stable : (a b : Option Entry) → ¬ ¬ (a ≡ b) → a ≡ b
stable a b not_not = by_test (same_entry a b) refl
  where
    by_test : (t : Bool) → same_entry a b ≡ t → a ≡ b
    by_test true is = entry_is a b is
    by_test false other = absurd (not_not (λ same. absurd (let there : same_entry a b ≡ true = ap (λ (e : Option Entry). same_entry a e) (sym same) ∙ entry_itself a in cc (there, other))))

-- ---- names of differences

abbrev has_name : List Difference → Name → Bool
has_name list name = list_any (λ d. bytes_eq d.name.now name) list

or_assoc : (a b c : Bool) → ((a || b) || c) ≡ (a || (b || c))
or_assoc true b c = refl
or_assoc false b c = refl

or_false : (a : Bool) → (a || false) ≡ a
or_false true = refl
or_false false = refl

has_name_push : (list : List Difference) (d : Difference) (name : Name) → has_name (list ++ d ∷ []) name ≡ (has_name list name || bytes_eq d.name.now name)
has_name_push [] d name = or_false (bytes_eq d.name.now name)
has_name_push (e ∷ list) d name = ap (λ b. bytes_eq e.name.now name || b) (has_name_push list d name) ∙ sym (or_assoc (bytes_eq e.name.now name) (has_name list name) (bytes_eq d.name.now name))

named_is : (list : List Difference) (name : Name) (d : Difference) → Contains list d → d.name.now ≡ name → has_name list name ≡ true
named_is [] name d there is = absurd (contains_none d there)
named_is (e ∷ list) name d there is = by_case (λ behind. named_is list name d behind is) (contains_cases e list d there)
  where
    by_case : (Contains list d → has_name list name ≡ true) → (e ≡ d) ⊎ Contains list d → (bytes_eq e.name.now name || has_name list name) ≡ true
    by_case rest (inl same) =
        let here : bytes_eq e.name.now name ≡ true = ap (λ (x : Difference). bytes_eq x.name.now name) same ∙ ap (bytes_eq d.name.now) (sym is) ∙ nat_list_eq_equiv.refl d.name.now in
        rw here refl
    by_case rest (inr behind) = or_true (bytes_eq e.name.now name) (has_name list name) (rest behind)
      where
        or_true : (a b : Bool) → b ≡ true → (a || b) ≡ true
        or_true true b t = refl
        or_true false b t = t

-- ---- what is put under the names of a list, one difference after another

-- what is under a name once these differences are put in
abbrev reached : List Entry → List Entry → List Difference → Name → Option Entry
reached second last done name = cond (has_name done name) (entry_named last name) (entry_named second name)

pub record Changing (first second last : List Entry) (done : List Difference) (names : BTreeMap (Bor Name) Sides) : Type 0 where
  pub sides : HasSides (entry_named first) (reached second last done) names
  pub there : (name : Bor Name) → has_name done name.now ≡ true → ¬ (get name_cmp names name ≡ None)

pub changing_none : (first second last : List Entry) (names : BTreeMap (Bor Name) Sides) → HasSides (entry_named first) (entry_named second) names → Changing first second last [] names
changing_none first second last names has = record { sides = record { old_is = has.old_is; new_is = has.new_is; alike = has.alike; ordered = has.ordered }; there = λ name no. absurd cc }

some_not_none : {X : Type 0} (o : Option X) (x : X) → o ≡ Some x → ¬ (o ≡ None)
some_not_none o x is none = absurd cc

changing_step : (first second last : List Entry) (done : List Difference) (d : Difference) (m n : BTreeMap (Bor Name) Sides) (known : Option Sides) (s : Sides) → Changing first second last done m → IsDifference second last d
    → known ≡ get name_cmp m d.name → old_of (Some s) ≡ first_entry known d → new_of (Some s) ≡ new_entry d → Updates name_cmp m n d.name (Some s) → IsOrdered name_cmp n → Changing first second last (done ++ d ∷ []) n
changing_step first second last done d m n known s so is known_is old_put new_put updates ordered = record {
  sides = record {
    old_is = λ name t there. old_at name t (bytes_eq d.name.now name.now) refl there;
    new_is = λ name t there. new_at name t (bytes_eq d.name.now name.now) refl there;
    alike = λ name none. alike_at name (bytes_eq d.name.now name.now) refl none;
    ordered = ordered;
  };
  there = λ name named none. there_at name (bytes_eq d.name.now name.now) refl named none;
}
  where
    at : (name : Bor Name) → get name_cmp n name ≡ cond (bytes_eq d.name.now name.now) (Some s) (get name_cmp m name)
    at name = got m n d.name s updates name

    here : (name : Bor Name) → bytes_eq d.name.now name.now ≡ true → get name_cmp n name ≡ Some s
    here name same = at name ∙ ap (λ b. cond b (Some s) (get name_cmp m name)) same

    elsewhere : (name : Bor Name) → bytes_eq d.name.now name.now ≡ false → get name_cmp n name ≡ get name_cmp m name
    elsewhere name other = at name ∙ ap (λ b. cond b (Some s) (get name_cmp m name)) other

    known_old : (k : Option Sides) → k ≡ get name_cmp m d.name → first_entry k d ≡ entry_named first d.name.now
    known_old (Some t) found = so.sides.old_is d.name t (sym found)
    known_old None found =
        let none : get name_cmp m d.name ≡ None = sym found in
        by_done (has_name done d.name.now) refl none
      where
        by_done : (b : Bool) → has_name done d.name.now ≡ b → get name_cmp m d.name ≡ None → old_entry d ≡ entry_named first d.name.now
        by_done true e none = absurd (so.there d.name e none)
        by_done false e none = is.old_is ∙ sym (so.sides.alike d.name none ∙ ap (λ b. cond b (entry_named last d.name.now) (entry_named second d.name.now)) e)

    name_is : (name : Bor Name) → bytes_eq d.name.now name.now ≡ true → d.name.now ≡ name.now
    name_is name same = same_bytes d.name.now name.now same

    reached_here : (name : Bor Name) → bytes_eq d.name.now name.now ≡ true → reached second last (done ++ d ∷ []) name.now ≡ entry_named last name.now
    reached_here name same = ap (λ b. cond b (entry_named last name.now) (entry_named second name.now)) (has_name_push done d name.now ∙ or_right (has_name done name.now) (bytes_eq d.name.now name.now) same)
      where
        or_right : (a b : Bool) → b ≡ true → (a || b) ≡ true
        or_right true b t = refl
        or_right false b t = t

    reached_elsewhere : (name : Bor Name) → bytes_eq d.name.now name.now ≡ false → reached second last (done ++ d ∷ []) name.now ≡ reached second last done name.now
    reached_elsewhere name other = ap (λ b. cond b (entry_named last name.now) (entry_named second name.now)) (has_name_push done d name.now ∙ ap (λ b. has_name done name.now || b) other ∙ or_false (has_name done name.now))

    old_at : (name : Bor Name) (t : Sides) (b : Bool) → bytes_eq d.name.now name.now ≡ b → get name_cmp n name ≡ Some t → old_of (Some t) ≡ entry_named first name.now
    old_at name t true same there =
        let one : Some s ≡ Some t = sym (here name same) ∙ there in
        sym (ap old_of one) ∙ old_put ∙ known_old known known_is ∙ ap (entry_named first) (name_is name same)
    old_at name t false other there = so.sides.old_is name t (sym (elsewhere name other) ∙ there)

    new_at : (name : Bor Name) (t : Sides) (b : Bool) → bytes_eq d.name.now name.now ≡ b → get name_cmp n name ≡ Some t → new_of (Some t) ≡ reached second last (done ++ d ∷ []) name.now
    new_at name t true same there =
        let one : Some s ≡ Some t = sym (here name same) ∙ there in
        sym (ap new_of one) ∙ new_put ∙ is.new_is ∙ ap (entry_named last) (name_is name same) ∙ sym (reached_here name same)
    new_at name t false other there = so.sides.new_is name t (sym (elsewhere name other) ∙ there) ∙ sym (reached_elsewhere name other)

    alike_at : (name : Bor Name) (b : Bool) → bytes_eq d.name.now name.now ≡ b → get name_cmp n name ≡ None → entry_named first name.now ≡ reached second last (done ++ d ∷ []) name.now
    alike_at name true same none = absurd (some_not_none (get name_cmp n name) s (here name same) none)
    alike_at name false other none = so.sides.alike name (sym (elsewhere name other) ∙ none) ∙ sym (reached_elsewhere name other)

    there_at : (name : Bor Name) (b : Bool) → bytes_eq d.name.now name.now ≡ b → has_name (done ++ d ∷ []) name.now ≡ true → get name_cmp n name ≡ None → ⊥
    there_at name true same named none = some_not_none (get name_cmp n name) s (here name same) none
    there_at name false other named none =
        so.there name (sym (or_false (has_name done name.now)) ∙ sym (ap (λ b. has_name done name.now || b) other) ∙ sym (has_name_push done d name.now) ∙ named) (sym (elsewhere name other) ∙ none)

pub changing_more : (first second last : List Entry) (list : List Difference) (i : ℕ) (d : Difference) (m n : BTreeMap (Bor Name) Sides) (known : Option Sides) (s : Sides) → i < length list → AreDifferences second last list
    → Changing first second last (take i list) m → known ≡ get name_cmp m (get_or list i d).name → old_of (Some s) ≡ first_entry known (get_or list i d) → new_of (Some s) ≡ new_entry (get_or list i d)
    → Updates name_cmp m n (get_or list i d).name (Some s) → IsOrdered name_cmp n → Changing first second last (take (i + 1) list) n
changing_more first second last list i d m n known s below are so known_is old_put new_put updates ordered =
    subst (λ (done : List Difference). Changing first second last done n) (sym (take_more list i d below))
    (changing_step first second last (take i list) (get_or list i d) m n known s so (are.each i d below) known_is old_put new_put updates ordered)

-- once all are put in, what is there last is under each name
pub changing_ends : (first second last : List Entry) (list : List Difference) (names : BTreeMap (Bor Name) Sides) → AreDifferences second last list → Changing first second last list names → HasSides (entry_named first) (entry_named last) names
changing_ends first second last list names are so = record {
  old_is = so.sides.old_is;
  new_is = λ name s there. so.sides.new_is name s there ∙ at_last name.now;
  alike = λ name none. so.sides.alike name none ∙ at_last name.now;
  ordered = so.sides.ordered;
}
  where
    at_last : (name : Name) → reached second last list name ≡ entry_named last name
    at_last name = by_test (has_name list name) refl
      where
        by_test : (b : Bool) → has_name list name ≡ b → cond (has_name list name) (entry_named last name) (entry_named second name) ≡ entry_named last name
        by_test true named = ap (λ b. cond b (entry_named last name) (entry_named second name)) named
        by_test false unnamed =
            ap (λ b. cond b (entry_named last name) (entry_named second name)) unnamed
            ∙ stable (entry_named second name) (entry_named last name) (λ differ. let named = are.all name differ in let is = named_is list name named.0 named.1 named.2 in absurd (cc (is, unnamed)))

-- a map without names, over one tree
pub sides_of_none : (entries : List Entry) (names : BTreeMap (Bor Name) Sides) → names.entries ≡ [] → IsOrdered name_cmp names → HasSides (entry_named entries) (entry_named entries) names
sides_of_none entries names none ordered = record {
  old_is = λ name s there. absurd (some_not_none (get name_cmp names name) s there (nothing name));
  new_is = λ name s there. absurd (some_not_none (get name_cmp names name) s there (nothing name));
  alike = λ name _. refl;
  ordered = ordered;
}
  where
    nothing : (name : Bor Name) → get name_cmp names name ≡ None
    nothing name = ap (λ (es : List (Bor Name × Sides)). lookup (is_at (name_cmp name)) es) none

-- ---- the other way round

turned_names : (list : List Difference) → map name_of (map turned list) ≡ map name_of list
turned_names [] = refl
turned_names (d ∷ list) = ap (λ (names : List Name). d.name.now ∷ names) (turned_names list)

pub turned_are : (old new : List Entry) (list : List Difference) → AreDifferences old new list → AreDifferences new old (map turned list)
turned_are old new list are = record {
  ascend = subst (λ (names : List Name). IsStrictlySortedBy (slice_cmp nat_cmp) names) (sym (turned_names list)) are.ascend;
  each = All-map (IsDifference new old) turned list (All-weaker (IsDifference old new) (λ d. IsDifference new old (turned d)) (λ d is. record { old_is = is.new_is; new_is = is.old_is; differ = λ same. is.differ (sym same) }) list are.each);
  all = λ name differ. let named = are.all name (λ same. differ (sym same)) in (turned named.0, contains_map turned list named.0 named.1, named.2);
}

-- ---- what is kept of no differences

pub differ_nowhere : (entries : List Entry) → AreDifferences entries entries []
differ_nowhere entries = record { ascend = sorted_none (slice_cmp nat_cmp); each = All-nil _; all = λ name differ. absurd (differ refl) }
