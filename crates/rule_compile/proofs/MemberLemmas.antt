-- A set tells which members a list has.
use Rattle.std.proofs.Common.{◌≡◌, ◌<◌, ◌+◌, ℕ, Bool, true, false, List, [], ◌∷◌, ◌++◌, length, take, get_or, refl, sym, ap, ◌∙◌, subst}
use Rattle.std.proofs.lemmas.List.{take_more}
use Rattle.std.specs.Prelude.{◌||◌, Vec}
use Rattle.std.specs.BTreeSet.{BTreeSet, IsEmpty, insert_key}
use Rattle.std.specs.List.{list_any}
use Rattle.std.specs.declared.cmp.Ordering.{Ordering}
use Rattle.std.specs.declared.cmp.Ordering.TheVariants.{Less, Equal, Greater}
use Rattle.std.specs.Ordering.{is_eq, match_ordering, nat_cmp}
use Rattle.std.specs.Cmp.Lexicographic.{bytes_decides, nat_list_eq_equiv, slice_cmp, texts_ties}
use Rattle.conf_groups.proofs.DistinctLemmas.{holds_push}
use Rattle.conf_groups.specs.Groups.{holds}
use Rattle.rule_compile.specs.Members.{AreMembers}

-- the order of names
abbrev name_cmp : {A : Type 0} → Vec ℕ A → Vec ℕ A → Ordering
name_cmp a b = slice_cmp nat_cmp a.items b.items

-- the name is the word
abbrev is_word : {A : Type 0} → List ℕ → Vec ℕ A → Bool
is_word word name = is_eq (slice_cmp nat_cmp word name.items)

once : (a b : Bool) → (a || b) ≡ (a || (a || b))
once true b = refl
once false b = refl

exchanged : (a b c : Bool) → (a || (b || c)) ≡ (b || (a || c))
exchanged true true c = refl
exchanged true false c = refl
exchanged false true c = refl
exchanged false false c = refl

turned : (a b : Bool) → (a || b) ≡ (b || a)
turned true true = refl
turned true false = refl
turned false true = refl
turned false false = refl

-- one name more, at its place in the order
placed : {A : Type 0} (word : List ℕ) (x name : Vec ℕ A) (xs more : List (Vec ℕ A)) (o : Ordering) → slice_cmp nat_cmp name.items x.items ≡ o
    → list_any (is_word word) more ≡ (is_word word name || list_any (is_word word) xs)
    → list_any (is_word word) (match_ordering o (name ∷ x ∷ xs) (x ∷ xs) (x ∷ more)) ≡ (is_word word name || list_any (is_word word) (x ∷ xs))
placed word x name xs more Less e h = refl
placed word x name xs more Equal e h =
    let same : name.items ≡ x.items = (bytes_decides name.items x.items).0 (texts_ties name.items x.items ∙ ap is_eq e) in
    once (is_word word x) (list_any (is_word word) xs) ∙ ap (λ (items : List ℕ). is_eq (slice_cmp nat_cmp word items) || (is_word word x || list_any (is_word word) xs)) (sym same)
placed word x name xs more Greater e h = ap (λ (b : Bool). is_word word x || b) h ∙ exchanged (is_word word x) (is_word word name) (list_any (is_word word) xs)

inserted : {A : Type 0} (word : List ℕ) (name : Vec ℕ A) (xs : List (Vec ℕ A)) → list_any (is_word word) (insert_key name_cmp xs name) ≡ (is_word word name || list_any (is_word word) xs)
inserted word name [] = refl
inserted word name (x ∷ xs) = placed word x name xs (insert_key name_cmp xs name) (slice_cmp nat_cmp name.items x.items) refl (inserted word name xs)

pub no_members : {A : Type 0} (names : BTreeSet (Vec ℕ A)) → IsEmpty names → AreMembers names []
no_members {A} names e = λ word. ap (λ (keys : List (Vec ℕ A)). list_any (is_word word) keys) e

pub member_with : {A : Type 0} (names more : BTreeSet (Vec ℕ A)) (items : List (List ℕ)) (name : Vec ℕ A) → AreMembers names items → more.keys ≡ insert_key name_cmp names.keys name → AreMembers more (items ++ name.items ∷ [])
member_with {A} names more items name h grown = λ word.
    ap (λ (keys : List (Vec ℕ A)). list_any (is_word word) keys) grown
    ∙ inserted word name names.keys
    ∙ ap (λ (b : Bool). is_word word name || b) (h word)
    ∙ turned (is_word word name) (holds items word)
    ∙ ap (λ (b : Bool). holds items word || b) (sym (texts_ties word name.items) ∙ nat_list_eq_equiv.symm word name.items)
    ∙ sym (holds_push items name.items word)

-- one item more of a list that is gone through
pub member_more : {A : Type 0} (names more : BTreeSet (Vec ℕ A)) (items : List (List ℕ)) (i : ℕ) (item : List ℕ) (name : Vec ℕ A) → AreMembers names (take i items) → i < length items
    → item ≡ get_or items i item → name.items ≡ item → more.keys ≡ insert_key name_cmp names.keys name → AreMembers more (take (i + 1) items)
member_more names more items i item name h lt at_index same grown =
    subst (λ (xs : List (List ℕ)). AreMembers more xs) (sym (take_more items i item lt ∙ ap (λ (x : List ℕ). take i items ++ x ∷ []) (sym at_index ∙ sym same)))
    (member_with names more (take i items) name h grown)
