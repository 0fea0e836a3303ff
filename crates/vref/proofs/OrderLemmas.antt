-- What is to be done in a directory, in the order of the paths that it stands for.
use Rattle.std.proofs.Common.{◌≡◌, ℕ, zero, suc, ◌+◌, ◌<◌, Bool, true, false, cond, ◌||◌, eqb, List, [], ◌∷◌, ◌++◌, map, length, get_or, Some, All, refl, sym, ◌∙◌, ap, subst, arith, append_assoc, append-nil, length-append}
use Rattle.std.specs.List.{AllByRecursion, IsDistinct, list_any}
use Rattle.std.specs.List.Sorted.{IsStrictlySortedBy}
use Rattle.std.specs.Ordering.{nat_cmp, eq_by_cmp, is_eq, is_lt, ordering_then, ordering_reverse}
use Rattle.std.specs.Cmp.{IsTotalOrder}
use Rattle.std.specs.declared.cmp.Ordering.{Ordering}
use Rattle.std.specs.declared.cmp.Ordering.TheVariants.{Less, Equal, Greater}
use Rattle.std.specs.Cmp.Lexicographic.{slice_cmp}
use Rattle.std.proofs.lemmas.Bool.Decides.{nat_tests}
use Rattle.std.proofs.lemmas.Cmp.{nat_list_cmp_total, nat_cmp_total, on_total, tied_itself, ranked}
use Rattle.std.proofs.lemmas.List.{get_or-append-add}
use Rattle.std.proofs.lemmas.List.Elements.{All-from_recursion, recursion_from_All, All-map}
use Rattle.std.proofs.lemmas.List.Sorted.{ranks_by, sorted_far}
use Rattle.std.proofs.lemmas.Map.Keys.{IsDistinct-IsPermutation}
use Rattle.std.proofs.lemmas.Map.Text.{is_eq-slice_cmp}
use Rattle.ref_store.specs.RefName.{pieces}
use Rattle.ref_store.proofs.ObjectLemmas.{same_bytes}
use Rattle.vref.specs.Rows.{Name, IsName, Path}
use Rattle.vref.specs.Differences.{name_of}
use Rattle.vref.specs.PathTable.{path_at}
use Rattle.vref.specs.Walk.{Spot, Covers, CoversAs, IsBefore, AreInOrder, spot_of, IsTaskWithin, row_of, has_tree, items_from, tail_of, key_of, key_cmp, SortsItems}
use Rattle.vref.specs.declared.differences.Difference.{Difference}
use Rattle.vref.specs.declared.walk.Directory.{Directory}
use Rattle.vref.specs.declared.walk.Item.{Item}
use Rattle.vref.specs.declared.walk.Task.{Task}
use Rattle.vref.specs.declared.walk.Task.TheVariants.{Put, Enter}
use Rattle.vref.proofs.RowLemmas.{pieces_name, pieces_behind}

abbrev pub cmp : Path → Path → Ordering
cmp = slice_cmp nat_cmp

-- ---- lists, by recursion

pub rec_append : {X : Type 0} (P : X → Type 0) (xs ys : List X) → AllByRecursion P xs → AllByRecursion P ys → AllByRecursion P (xs ++ ys)
rec_append P [] ys one two = two
rec_append P (x ∷ xs) ys one two = (one.0, rec_append P xs ys one.1 two)

pub rec_left : {X : Type 0} (P : X → Type 0) (xs ys : List X) → AllByRecursion P (xs ++ ys) → AllByRecursion P xs
rec_left P [] ys all = tt
rec_left P (x ∷ xs) ys all = (all.0, rec_left P xs ys all.1)

pub rec_right : {X : Type 0} (P : X → Type 0) (xs ys : List X) → AllByRecursion P (xs ++ ys) → AllByRecursion P ys
rec_right P [] ys all = all
rec_right P (x ∷ xs) ys all = rec_right P xs ys all.1

pub rec_weaker : {X : Type 0} (P Q : X → Type 0) → ((x : X) → P x → Q x) → (xs : List X) → AllByRecursion P xs → AllByRecursion Q xs
rec_weaker P Q f [] all = tt
rec_weaker P Q f (x ∷ xs) all = (f x all.0, rec_weaker P Q f xs all.1)

pub rec_both : {X : Type 0} (P Q : X → Type 0) (xs : List X) → AllByRecursion P xs → AllByRecursion Q xs → AllByRecursion (λ x. P x × Q x) xs
rec_both P Q [] one two = tt
rec_both P Q (x ∷ xs) one two = ((one.0, two.0), rec_both P Q xs one.1 two.1)

pub rec_unmap : {X Y : Type 0} (P : Y → Type 0) (f : X → Y) (xs : List X) → AllByRecursion P (map f xs) → AllByRecursion (λ x. P (f x)) xs
rec_unmap P f [] all = tt
rec_unmap P f (x ∷ xs) all = (all.0, rec_unmap P f xs all.1)

pub rec_map : {X Y : Type 0} (P : Y → Type 0) (f : X → Y) (xs : List X) → AllByRecursion (λ x. P (f x)) xs → AllByRecursion P (map f xs)
rec_map P f [] all = tt
rec_map P f (x ∷ xs) all = (all.0, rec_map P f xs all.1)

-- ---- the order of bytes

pub front_cmp : (f x y : Path) → cmp (f ++ x) (f ++ y) ≡ cmp x y
front_cmp [] x y = refl
front_cmp (c ∷ f) x y = ap (λ (o : Ordering). ordering_then o (cmp (f ++ x) (f ++ y))) (tied_itself nat_cmp_total c) ∙ front_cmp f x y

then_less : (o a b : Ordering) → (a ≡ Less → b ≡ Less) → ordering_then o a ≡ Less → ordering_then o b ≡ Less
then_less Less a b f is = refl
then_less Equal a b f is = f is
then_less Greater a b f is = is

-- where bytes come before others, they come before what goes on behind these
before_longer : (x y v : Path) → cmp x y ≡ Less → cmp x (y ++ v) ≡ Less
before_longer [] [] v is = absurd cc
before_longer [] (d ∷ y) v is = refl
before_longer (c ∷ x) [] v is = absurd cc
before_longer (c ∷ x) (d ∷ y) v is = then_less (nat_cmp c d) (cmp x y) (cmp x (y ++ v)) (before_longer x y v) is

abbrev tail : Bool → Path
tail false = []
tail true = 47 ∷ []

first_or : (a b : Bool) → (a || b) ≡ false → (a ≡ false) × (b ≡ false)
first_or true b is = absurd cc
first_or false b is = (refl, is)

apart_then : (c d : ℕ) → (c ≡ d → ⊥) → (o a b : Ordering) → o ≡ nat_cmp c d → ordering_then o a ≡ Less → ordering_then o b ≡ Less
apart_then c d apart Less a b e is = refl
apart_then c d apart Equal a b e is = absurd (apart (ranked c d Equal e))
apart_then c d apart Greater a b e is = absurd cc

not_slash : (c : ℕ) (name : Name) → IsName (c ∷ name) → c ≡ 47 → ⊥
not_slash c name is e = let no : eqb c 47 ≡ false = (first_or (eqb c 47) (list_any (λ d. eqb d 47) name) is).0 in absurd (grind (arith, nat_tests, no, e))

-- what is below a name comes before what is not below it, where its slash does
less_below : (n m : Name) (b : Bool) (u v : Path) → IsName n → IsName m → cmp (n ++ 47 ∷ []) (m ++ tail b) ≡ Less → cmp (n ++ 47 ∷ u) ((m ++ tail b) ++ v) ≡ Less
less_below [] [] false u v n_is m_is is = absurd cc
less_below [] [] true u v n_is m_is is = absurd cc
less_below [] (d ∷ m) b u v n_is m_is is = apart_then 47 d (λ e. not_slash d m m_is (sym e)) (nat_cmp 47 d) (cmp [] (m ++ tail b)) (cmp u ((m ++ tail b) ++ v)) refl is
less_below (c ∷ n) [] false u v n_is m_is is = absurd cc
less_below (c ∷ n) [] true u v n_is m_is is = apart_then c 47 (not_slash c n n_is) (nat_cmp c 47) (cmp (n ++ 47 ∷ []) []) (cmp (n ++ 47 ∷ u) v) refl is
less_below (c ∷ n) (d ∷ m) b u v n_is m_is is =
    then_less (nat_cmp c d) (cmp (n ++ 47 ∷ []) (m ++ tail b)) (cmp (n ++ 47 ∷ u) ((m ++ tail b) ++ v))
    (less_below n m b u v (first_or (eqb c 47) (list_any (λ e. eqb e 47) n) n_is).1 (first_or (eqb d 47) (list_any (λ e. eqb e 47) m) m_is).1) is

-- ---- spots

covers_more : (f : Path) (b : Bool) (q : Path) → CoversAs b f q → (v : Path) × (q ≡ f ++ v)
covers_more f false q is = ([], is ∙ sym (append-nil f))
covers_more f true q is = is

-- the names of one directory, by what they are sorted by
pub spots_before : (f : Path) (n m : Name) (a b : Bool) → IsName n → IsName m → cmp (n ++ tail a) (m ++ tail b) ≡ Less → IsBefore (f ++ (n ++ tail a), a) (f ++ (m ++ tail b), b)
spots_before f n m false b n_is m_is less p q one two =
    let more = covers_more (f ++ (m ++ tail b)) b q two in
    ap (λ (x : Path). cmp x q) one ∙ ap (cmp (f ++ (n ++ []))) (more.1 ∙ append_assoc f (m ++ tail b) more.0) ∙ front_cmp f (n ++ []) ((m ++ tail b) ++ more.0) ∙ before_longer (n ++ []) (m ++ tail b) more.0 less
spots_before f n m true b n_is m_is less p q one two =
    let more = covers_more (f ++ (m ++ tail b)) b q two in
    ap (λ (x : Path). cmp x q) (one.1 ∙ append_assoc f (n ++ 47 ∷ []) one.0 ∙ ap (λ (x : Path). f ++ x) (append_assoc n (47 ∷ []) one.0))
    ∙ ap (cmp (f ++ (n ++ 47 ∷ one.0))) (more.1 ∙ append_assoc f (m ++ tail b) more.0)
    ∙ front_cmp f (n ++ 47 ∷ one.0) ((m ++ tail b) ++ more.0)
    ∙ less_below n m b one.0 more.0 n_is m_is less

-- all that one spot covers the other covers
abbrev pub IsInside : Spot → Spot → Type 0
IsInside outer inner = (q : Path) → Covers inner q → Covers outer q

pub inside_front : (f x : Path) (b : Bool) → IsInside (f, true) (f ++ x, b)
inside_front f x b q is = let more = covers_more (f ++ x) b q is in (x ++ more.0, more.1 ∙ append_assoc f x more.0)

before_inside : (d w n : Spot) → IsInside d n → IsBefore d w → IsBefore n w
before_inside d w n inside before p q one two = before p q (inside p one) two

inside_before : (o d n : Spot) → IsInside d n → IsBefore o d → IsBefore o n
inside_before o d n inside before p q one two = before p q one (inside q two)

order_append : (ns ws : List Spot) (d : Spot) → AreInOrder ns → AreInOrder ws → AllByRecursion (IsBefore d) ws → AllByRecursion (IsInside d) ns → AreInOrder (ns ++ ws)
order_append [] ws d one two before inside = two
order_append (n ∷ ns) ws d one two before inside =
    (rec_append (IsBefore n) ns ws one.0 (rec_weaker (IsBefore d) (IsBefore n) (λ w. before_inside d w n inside.0) ws before), order_append ns ws d one.1 two before inside.1)

-- in place of a spot come others inside it
pub order_put : (os ns ws : List Spot) (d : Spot) → AreInOrder (os ++ d ∷ ws) → AreInOrder ns → AllByRecursion (IsInside d) ns → AreInOrder (os ++ (ns ++ ws))
order_put [] ns ws d order news inside = order_append ns ws d news order.1 order.0 inside
order_put (o ∷ os) ns ws d order news inside =
    let behind = rec_right (IsBefore o) os (d ∷ ws) order.0 in (
      rec_append (IsBefore o) os (ns ++ ws) (rec_left (IsBefore o) os (d ∷ ws) order.0) (rec_append (IsBefore o) ns ws (rec_weaker (IsInside d) (IsBefore o) (λ n inner. inside_before o d n inner behind.0) ns inside) behind.1),
      order_put os ns ws d order.1 news inside,
    )

-- ---- items in the order of their keys

abbrev pub is_deep : Task → Bool
is_deep (Put k) = false
is_deep (Enter place) = true

tail_is : (t : Task) → tail_of t ≡ tail (is_deep t)
tail_is (Put k) = refl
tail_is (Enter place) = refl

spot_deep : (paths : List Path) (t : Task) → (spot_of paths t).1 ≡ is_deep t
spot_deep paths (Put k) = refl
spot_deep paths (Enter place) = refl

-- an item of a directory with this front
pub record IsPlaced (paths : List Path) (front : Path) (it : Item) : Type 0 where
  pub name_is : IsName it.name.now
  pub spot_is : spot_of paths it.task ≡ (front ++ key_of it, is_deep it.task)
  pub within : IsTaskWithin (length paths) it.task

items_before : (paths : List Path) (front : Path) (a b : Item) → IsPlaced paths front a → IsPlaced paths front b → key_cmp a b ≡ Less → IsBefore (spot_of paths a.task) (spot_of paths b.task)
items_before paths front a b one two less =
    subst (λ (s : Spot). IsBefore s (spot_of paths b.task)) (sym (spot a one)) (subst (λ (s : Spot). IsBefore (front ++ (a.name.now ++ tail (is_deep a.task)), is_deep a.task) s) (sym (spot b two))
    (spots_before front a.name.now b.name.now (is_deep a.task) (is_deep b.task) one.name_is two.name_is
    (sym (ap (λ (t : Path). cmp (a.name.now ++ t) (b.name.now ++ tail_of b.task)) (tail_is a.task) ∙ ap (λ (t : Path). cmp (a.name.now ++ tail (is_deep a.task)) (b.name.now ++ t)) (tail_is b.task)) ∙ less)))
  where
    spot : (it : Item) → IsPlaced paths front it → spot_of paths it.task ≡ (front ++ (it.name.now ++ tail (is_deep it.task)), is_deep it.task)
    spot it is = is.spot_is ∙ ap (λ (t : Path). (front ++ (it.name.now ++ t), is_deep it.task)) (tail_is it.task)

distinct_at : {K : Type 0} (e : K → K → Bool) (xs : List K) → IsDistinct e xs → (i j : ℕ) (d : K) → i < j → j < length xs → e (get_or xs i d) (get_or xs j d) ≡ false
unfolding IsDistinct
distinct_at e [] is i j d less below = absurd (let no : ⊥ = omega (arith, below) in no)
distinct_at e (x ∷ xs) is i zero d less below = absurd (let no : ⊥ = omega (arith, less) in no)
distinct_at e (x ∷ xs) is zero (suc j) d less below = All-from_recursion (λ y. e x y ≡ false) xs is.0 j d (omega (arith, below))
distinct_at e (x ∷ xs) is (suc i) (suc j) d less below = distinct_at e xs is.1 i j d (omega (arith, less)) (omega (arith, below))

order_at : (f : Item → Spot) (xs : List Item) → ((i j : ℕ) (d : Item) → i < j → j < length xs → IsBefore (f (get_or xs i d)) (f (get_or xs j d))) → AreInOrder (map f xs)
order_at f [] before = tt
order_at f (x ∷ xs) before = (
  recursion_from_All (IsBefore (f x)) (map f xs) (All-map (IsBefore (f x)) f xs (λ k d below. before 0 (suc k) d (omega arith) (omega (arith, below)))),
  order_at f xs (λ i j d less below. before (suc i) (suc j) d (omega (arith, less)) (omega (arith, below))),
)

key_total : IsTotalOrder key_cmp
key_total = on_total key_of nat_list_cmp_total

strictly : (a b : Item) → is_lt (key_cmp b a) ≡ false → is_eq (key_cmp a b) ≡ false → key_cmp a b ≡ Less
strictly a b not_less not_tied = by_case (key_cmp a b) refl
  where
    by_case : (o : Ordering) → key_cmp a b ≡ o → key_cmp a b ≡ Less
    by_case Less e = e
    by_case Equal e = absurd (cc (ap is_eq e, not_tied))
    by_case Greater e = absurd (cc (ap is_lt (key_total.antisymm b a ∙ ap ordering_reverse e), not_less))

flips : (a b : Item) → eq_by_cmp key_cmp a b ≡ eq_by_cmp key_cmp b a
flips a b = by_case (key_cmp b a) (key_total.antisymm a b)
  where
    by_case : (o : Ordering) → key_cmp a b ≡ ordering_reverse o → is_eq (key_cmp a b) ≡ is_eq o
    by_case Less e = ap is_eq e
    by_case Equal e = ap is_eq e
    by_case Greater e = ap is_eq e

pub sorted_order : (paths : List Path) (front : Path) (items after : List Item) → All (IsPlaced paths front) after → IsDistinct (eq_by_cmp key_cmp) items → SortsItems items after → AreInOrder (map (λ i. spot_of paths i.task) after)
sorted_order paths front items after placed distinct sorts =
    let apart = IsDistinct-IsPermutation (eq_by_cmp key_cmp) flips items after sorts.same distinct in
    order_at (λ i. spot_of paths i.task) after
    (λ i j d less below. items_before paths front (get_or after i d) (get_or after j d) (placed i d (omega (arith, less, below))) (placed j d below)
    (strictly (get_or after i d) (get_or after j d)
    (sorted_far (λ x y. is_lt (key_cmp x y)) (ranks_by nat_list_cmp_total key_of) after sorts.sorted i j d (omega (arith, less)) below)
    (distinct_at (eq_by_cmp key_cmp) after apart i j d less below)))

-- ---- the items of a directory's rows

pub items_names : (P : Name → Type 0) (k : ℕ) (at : Directory) (list : List Difference) → AllByRecursion (λ d. P (name_of d)) list → AllByRecursion (λ (it : Item). P it.name.now) (items_from k (map (row_of at) list))
items_names P k at [] all = tt
items_names P k at (d ∷ list) all = (all.0, by_test (items_names P (k + 1) at list all.1) (has_tree (row_of at d)))
  where
    by_test : AllByRecursion (λ (it : Item). P it.name.now) (items_from (k + 1) (map (row_of at) list)) → (b : Bool) → AllByRecursion (λ (it : Item). P it.name.now) (cond b (record { name = d.name; task = Enter (Some k) } ∷ items_from (k + 1) (map (row_of at) list)) (items_from (k + 1) (map (row_of at) list)))
    by_test rest true = (all.0, rest)
    by_test rest false = rest

abbrev parted : Name → Bool → List Name
parted name false = name ∷ []
parted name true = name ∷ [] ∷ []

keys_same : (n m : Name) (a b : Bool) → IsName n → IsName m → n ++ tail a ≡ m ++ tail b → (n ≡ m) × (a ≡ b)
keys_same n m a b n_is m_is same = by_parts a b (sym (parts n a n_is) ∙ ap pieces same ∙ parts m b m_is)
  where
    parts : (name : Name) (c : Bool) → IsName name → pieces (name ++ tail c) ≡ parted name c
    parts name false is = ap pieces (append-nil name) ∙ pieces_name name is
    parts name true is = pieces_behind name [] is

    by_parts : (c d : Bool) → parted n c ≡ parted m d → (n ≡ m) × (c ≡ d)
    by_parts false false e = (cc, refl)
    by_parts false true e = absurd cc
    by_parts true false e = absurd cc
    by_parts true true e = (cc, refl)

keys_apart : (n m : Name) (a b : Bool) → IsName n → IsName m → ((n ≡ m) × (a ≡ b) → ⊥) → is_eq (cmp (n ++ tail a) (m ++ tail b)) ≡ false
keys_apart n m a b n_is m_is apart = by_test (is_eq (cmp (n ++ tail a) (m ++ tail b))) refl
  where
    by_test : (c : Bool) → is_eq (cmp (n ++ tail a) (m ++ tail b)) ≡ c → is_eq (cmp (n ++ tail a) (m ++ tail b)) ≡ false
    by_test true e = absurd (apart (keys_same n m a b n_is m_is (same_bytes (n ++ tail a) (m ++ tail b) (sym (is_eq-slice_cmp (n ++ tail a) (m ++ tail b)) ∙ e))))
    by_test false e = e

not_itself : (n m : Name) → cmp n m ≡ Less → n ≡ m → ⊥
not_itself n m less same = absurd (cc (ap (cmp n) same ∙ less, ap (cmp n) (sym same), tied_itself nat_list_cmp_total n, subst (λ (x : Name). cmp n x ≡ Equal) same (tied_itself nat_list_cmp_total n), less))

abbrev Later : Name → Item → Type 0
Later n it = IsName it.name.now × (cmp n it.name.now ≡ Less)

later_apart : (n : Name) (a : Bool) (it : Item) → IsName n → Later n it → is_eq (cmp (n ++ tail a) (key_of it)) ≡ false
later_apart n a it n_is later =
    ap (λ (t : Path). is_eq (cmp (n ++ tail a) (it.name.now ++ t))) (tail_is it.task) ∙ keys_apart n it.name.now a (is_deep it.task) n_is later.0 (λ same. not_itself n it.name.now later.1 same.0)

pub items_distinct : (k : ℕ) (at : Directory) (list : List Difference) → IsStrictlySortedBy cmp (map name_of list) → AllByRecursion (λ d. IsName (name_of d)) list → IsDistinct (eq_by_cmp key_cmp) (items_from k (map (row_of at) list))
unfolding IsStrictlySortedBy IsDistinct
items_distinct k at [] up names = tt
items_distinct k at (d ∷ list) up names = by_test (items_distinct (k + 1) at list up.1 names.1) (has_tree (row_of at d))
  where
    later : AllByRecursion (Later d.name.now) (items_from (k + 1) (map (row_of at) list))
    later = items_names (λ n. IsName n × (cmp d.name.now n ≡ Less)) (k + 1) at list (rec_both (λ e. IsName (name_of e)) (λ e. cmp d.name.now (name_of e) ≡ Less) list names.1 (rec_unmap (λ n. cmp d.name.now n ≡ Less) name_of list up.0))

    free : (a : Bool) → AllByRecursion (λ it. is_eq (cmp (d.name.now ++ tail a) (key_of it)) ≡ false) (items_from (k + 1) (map (row_of at) list))
    free a = rec_weaker (Later d.name.now) (λ it. is_eq (cmp (d.name.now ++ tail a) (key_of it)) ≡ false) (λ it. later_apart d.name.now a it names.0) (items_from (k + 1) (map (row_of at) list)) later

    by_test : IsDistinct (eq_by_cmp key_cmp) (items_from (k + 1) (map (row_of at) list)) → (b : Bool) → IsDistinct (eq_by_cmp key_cmp) (record { name = d.name; task = Put k } ∷ cond b (record { name = d.name; task = Enter (Some k) } ∷ items_from (k + 1) (map (row_of at) list)) (items_from (k + 1) (map (row_of at) list)))
    by_test rest true = (
      (keys_apart d.name.now d.name.now false true names.0 names.0 (λ same. absurd (let no : false ≡ true = same.1 in cc)), free false),
      (free true, rest),
    )
    by_test rest false = (free false, rest)

pub items_placed : (paths pre : List Path) (front : Path) (k : ℕ) (at : Directory) (list : List Difference) → k ≡ length pre → paths ≡ pre ++ map (λ (d : Difference). front ++ d.name.now) list → AllByRecursion (λ d. IsName (name_of d)) list
    → AllByRecursion (IsPlaced paths front) (items_from k (map (row_of at) list))
items_placed paths pre front k at [] place_is is names = tt
items_placed paths pre front k at (d ∷ list) place_is is names =
    let longer : length (pre ++ (front ++ d.name.now) ∷ []) ≡ length pre + 1 = length-append pre ((front ++ d.name.now) ∷ []) in
    let further = is ∙ sym (append_assoc pre ((front ++ d.name.now) ∷ []) (map (λ (f : Difference). front ++ f.name.now) list)) in
    (put, by_test (items_placed paths (pre ++ (front ++ d.name.now) ∷ []) front (k + 1) at list (omega (arith, place_is, longer)) further names.1) (has_tree (row_of at d)))
  where
    here : path_at paths k ≡ front ++ d.name.now
    here =
        let e : k ≡ length pre + 0 = omega (arith, place_is) in
        ap (λ (j : ℕ). get_or paths j []) e ∙ ap (λ (ps : List Path). get_or ps (length pre + 0) []) is ∙ get_or-append-add pre ((front ++ d.name.now) ∷ map (λ (f : Difference). front ++ f.name.now) list) 0 []

    below : k < length paths
    below = let e = ap length is in omega (arith, place_is, e, length-append pre ((front ++ d.name.now) ∷ map (λ (f : Difference). front ++ f.name.now) list))

    put : IsPlaced paths front (record { name = d.name; task = Put k })
    put = record { name_is = names.0; spot_is = ap (λ (p : Path). (p, false)) (here ∙ ap (λ (n : Path). front ++ n) (sym (append-nil d.name.now))); within = below }

    enter : IsPlaced paths front (record { name = d.name; task = Enter (Some k) })
    enter = record { name_is = names.0; spot_is = ap (λ (p : Path). (p, true)) (ap (λ (p : Path). p ++ 47 ∷ []) here ∙ append_assoc front d.name.now (47 ∷ [])); within = below }

    by_test : AllByRecursion (IsPlaced paths front) (items_from (k + 1) (map (row_of at) list)) → (b : Bool) → AllByRecursion (IsPlaced paths front) (cond b (record { name = d.name; task = Enter (Some k) } ∷ items_from (k + 1) (map (row_of at) list)) (items_from (k + 1) (map (row_of at) list)))
    by_test rest true = (enter, rest)
    by_test rest false = rest
