-- Steps of the walk over two trees.
use Rattle.std.proofs.Common.{◌≡◌, ℕ, zero, suc, ◌+◌, ◌-◌, ◌<◌, ◌≤◌, Bool, true, false, cond, ◌||◌, List, [], ◌∷◌, ◌++◌, map, reverse, length, take, get_or, Option, None, Some, All, Contains, refl, sym, ◌∙◌, ap, ap₂, subst, arith, ◌⊎◌, inl, inr, append_assoc, length-append, Result, Ok, Err}
use Rattle.std.specs.Prelude.{is_some, sum_by, IsTrue}
use Rattle.std.specs.List.{AllByRecursion, AllZip}
use Rattle.std.specs.List.Sorted.{IsPermutation, IsStrictlySortedBy}
use Rattle.std.specs.declared.cmp.Ordering.TheVariants.{Less}
use Rattle.std.specs.Result.{IsErrAnd, MatchResult}
use Rattle.std.proofs.lemmas.Bool.{cases_lt}
use Rattle.std.proofs.lemmas.List.{length-map, length-take, take_more, map_more, map-append, get_or_append_left, get_or-append-add, reverse-append, length-reverse}
use Rattle.std.proofs.lemmas.List.Elements.{All-nil, All-weaker, All-contains, All-append, All-push, All-map, All-head, All-tail, All-from_recursion, recursion_from_All, Contains-append_left, Contains-append_right, Contains-push}
use Rattle.std.proofs.lemmas.List.Sorted.{All-permutation, Contains-permutation, IsPermutation-map, length_permutation, sum_by-IsPermutation}
use Rattle.std.proofs.lemmas.List.Sums.{sum_by-append, sum_by-cons}
use Rattle.ancestry.proofs.ListLemmas.{contains_here, contains_there, contains_cases, contains_map}
use Rattle.git_object.specs.Content.{Content}
use Rattle.git_object.specs.Tree.{Entry}
use Rattle.git_object.specs.declared.object_id.ObjectId.{ObjectId}
use Rattle.vref.specs.Rows.{Name, IsName, Path, entries_in, object_at, entry_at, tree_below, row}
use Rattle.vref.specs.Paths.{Differs, DifferTooMuch, is_file}
use Rattle.vref.specs.Differences.{IsDifference, old_entry, new_entry, name_of}
use Rattle.vref.specs.PathTable.{path_at, front_at, paths_of, IsWithin}
use Rattle.vref.specs.Walk.{Spot, Covers, CoversAs, IsBefore, AreInOrder, spot_of, spots_of, puts_one, IsTaskWithin, next_of, row_of, IsShort, AreShort, has_tree, items_from, key_of, SortsItems, tree_in, IsDirectory, IsRight, IsCompared, IsWalking, IsTooLong, Stops, Differing, IsSpent, IsDirectoryOf}
use Rattle.vref.specs.declared.differences.Difference.{Difference}
use Rattle.vref.specs.declared.path_table.Row.{Row}
use Rattle.vref.specs.declared.walk.Directory.{Directory}
use Rattle.vref.specs.declared.walk.Item.{Item}
use Rattle.vref.specs.declared.walk.Stop.{Stop}
use Rattle.vref.specs.declared.walk.Stop.TheVariants.{TooMuch, NoMemory}
use Rattle.vref.specs.declared.walk.Task.{Task}
use Rattle.vref.specs.declared.walk.Task.TheVariants.{Put, Enter}
use Rattle.vref.specs.declared.walk.Walker.{Walker}
use Rattle.vref.specs.declared.walk.TheConstants.{MAX_PATH, MAX_ROWS}
use Rattle.vref.proofs.RowLemmas.{entry_at-name}
use Rattle.vref.proofs.LawLemmas.{row_of_root, row_below}
use Rattle.vref.proofs.ListLemmas.{zip_both}
use Rattle.vref.proofs.TableLemmas.{within_more, length_paths, paths_append, front_more, paths_beside, linked_append, linked_beside}
use Rattle.vref.proofs.DifferenceLemmas.{map_push}
use Rattle.vref.proofs.OrderLemmas.{cmp, rec_append, rec_map, rec_weaker, front_cmp, IsInside, inside_front, order_put, IsPlaced, is_deep, sorted_order, items_distinct, items_placed}

-- ---- lists

pub map_agree : {X Y : Type 0} (f g : X → Y) (xs : List X) → AllByRecursion (λ x. f x ≡ g x) xs → map f xs ≡ map g xs
map_agree f g [] all = refl
map_agree {X} {Y} f g (x ∷ xs) all = ap (λ (y : Y). y ∷ map f xs) all.0 ∙ ap (λ (ys : List Y). g x ∷ ys) (map_agree f g xs all.1)

map_map : {X Y Z : Type 0} (f : Y → Z) (g : X → Y) (xs : List X) → map f (map g xs) ≡ map (λ x. f (g x)) xs
map_map f g [] = refl
map_map {X} {Y} {Z} f g (x ∷ xs) = ap (λ (zs : List Z). f (g x) ∷ zs) (map_map f g xs)

pub zip_at : {A B : Type 0} (R : A → B → Type 0) (xs : List A) (ys : List B) (i : ℕ) (d : A) (e : B) → AllZip R xs ys → i < length ys → R (get_or xs i d) (get_or ys i e)
zip_at R [] [] i d e all below = absurd (let no : ⊥ = omega (arith, below) in no)
zip_at R [] (y ∷ ys) i d e all below = absurd all
zip_at R (x ∷ xs) [] i d e all below = absurd all
zip_at R (x ∷ xs) (y ∷ ys) zero d e all below = all.0
zip_at R (x ∷ xs) (y ∷ ys) (suc i) d e all below = zip_at R xs ys i d e all.1 (omega (arith, below))

pub zip_right : {A B : Type 0} (R : A → B → Type 0) (P : B → Type 0) → ((x : A) (y : B) → R x y → P y) → (xs : List A) (ys : List B) → AllZip R xs ys → AllByRecursion P ys
zip_right R P f [] [] all = tt
zip_right R P f [] (y ∷ ys) all = absurd all
zip_right R P f (x ∷ xs) [] all = tt
zip_right R P f (x ∷ xs) (y ∷ ys) all = (f x y all.0, zip_right R P f xs ys all.1)

-- ---- what comes next

pub next_pop : (work rest : List Item) (item : Item) → work ≡ rest ++ item ∷ [] → next_of work ≡ item.task ∷ next_of rest
next_pop work rest item pop = ap next_of pop ∙ ap (map (λ (i : Item). i.task)) (reverse-append rest (item ∷ []))

pub next_add : (work more items : List Item) → more ≡ work ++ items → next_of more ≡ map (λ (i : Item). i.task) (reverse items) ++ next_of work
next_add work more items add = ap next_of add ∙ ap (map (λ (i : Item). i.task)) (reverse-append work items) ∙ map-append (λ (i : Item). i.task) (reverse items) (reverse work)

pub next_begins : (work none : List Item) (item : Item) → work ≡ none ++ item ∷ [] → none ≡ [] → next_of work ≡ item.task ∷ []
next_begins work none item push empty = next_pop work [] item (push ∙ ap (λ (before : List Item). before ++ item ∷ []) empty)

abbrev tasks : List Item → List Task
tasks items = map (λ (i : Item). i.task) items

-- ---- the items of some rows, by their places

pub items_push : (k : ℕ) (rs : List Row) (r : Row) → items_from k (rs ++ r ∷ []) ≡ items_from k rs ++ items_from (k + length rs) (r ∷ [])
items_push k [] r = let e : k ≡ k + 0 = omega arith in ap (λ (j : ℕ). items_from j (r ∷ [])) e
items_push k (s ∷ rs) r =
    let e : (k + 1) + length rs ≡ k + suc (length rs) = omega arith in
    let rest : items_from (k + 1) (rs ++ r ∷ []) ≡ items_from (k + 1) rs ++ items_from (k + suc (length rs)) (r ∷ []) = items_push (k + 1) rs r ∙ ap (λ (j : ℕ). items_from (k + 1) rs ++ items_from j (r ∷ [])) e in
    by_test rest (has_tree s)
  where
    by_test : items_from (k + 1) (rs ++ r ∷ []) ≡ items_from (k + 1) rs ++ items_from (k + suc (length rs)) (r ∷ []) → (b : Bool)
        → record { name = s.name; task = Put k } ∷ cond b (record { name = s.name; task = Enter (Some k) } ∷ items_from (k + 1) (rs ++ r ∷ [])) (items_from (k + 1) (rs ++ r ∷ []))
        ≡ (record { name = s.name; task = Put k } ∷ cond b (record { name = s.name; task = Enter (Some k) } ∷ items_from (k + 1) rs) (items_from (k + 1) rs)) ++ items_from (k + suc (length rs)) (r ∷ [])
    by_test rest true = ap (λ (is : List Item). record { name = s.name; task = Put k } ∷ record { name = s.name; task = Enter (Some k) } ∷ is) rest
    by_test rest false = ap (λ (is : List Item). record { name = s.name; task = Put k } ∷ is) rest

pub items_more : (first : ℕ) (rows : List Row) (i : ℕ) (d : Row) (place : ℕ) (before after : List Item) → i < length rows → place ≡ first + i → before ≡ items_from first (take i rows) → after ≡ before ++ items_from place (get_or rows i d ∷ []) → after ≡ items_from first (take (i + 1) rows)
items_more first rows i d place before after below place_is is add =
    let here : place ≡ first + length (take i rows) = let e = length-take i rows in omega (arith, place_is, e, below) in
    add
    ∙ ap₂ (λ (xs : List Item) (k : ℕ). xs ++ items_from k (get_or rows i d ∷ [])) is here
    ∙ sym (ap (items_from first) (take_more rows i d below) ∙ items_push first (take i rows) (get_or rows i d))

pub rows_more : (at : Directory) (list : List Difference) (i : ℕ) (d : Difference) (before after : List Row) (r : Row) → i < length list → before ≡ map (row_of at) (take i list) → r ≡ row_of at (get_or list i d) → after ≡ before ++ r ∷ []
    → after ≡ map (row_of at) (take (i + 1) list)
rows_more at list i d before after r below is row push = push ∙ ap₂ (λ (rs : List Row) (x : Row). rs ++ x ∷ []) is row ∙ sym (map_more (row_of at) list i d below)

contains_later : (k : ℕ) (r : Row) (rs : List Row) (t : Task) → Contains (tasks (items_from (k + 1) rs)) t → Contains (tasks (items_from k (r ∷ rs))) t
contains_later k r rs t is = contains_there (Put k) _ t (by_test (has_tree r))
  where
    by_test : (b : Bool) → Contains (tasks (cond b (record { name = r.name; task = Enter (Some k) } ∷ items_from (k + 1) rs) (items_from (k + 1) rs))) t
    by_test true = contains_there (Enter (Some k)) (tasks (items_from (k + 1) rs)) t is
    by_test false = is

contains_put : (k : ℕ) (rs : List Row) (j : ℕ) → j < length rs → Contains (tasks (items_from k rs)) (Put (k + j))
contains_put k [] j below = absurd (let no : ⊥ = omega (arith, below) in no)
contains_put k (r ∷ rs) zero below = let e : k ≡ k + 0 = omega arith in subst (λ (i : ℕ). Contains (tasks (items_from k (r ∷ rs))) (Put i)) e (contains_here (Put k) _)
contains_put k (r ∷ rs) (suc j) below =
    let e : (k + 1) + j ≡ k + suc j = omega arith in
    contains_later k r rs (Put (k + suc j)) (subst (λ (i : ℕ). Contains (tasks (items_from (k + 1) rs)) (Put i)) e (contains_put (k + 1) rs j (omega (arith, below))))

contains_enter : (k : ℕ) (rs : List Row) (j : ℕ) (d : Row) → j < length rs → has_tree (get_or rs j d) ≡ true → Contains (tasks (items_from k rs)) (Enter (Some (k + j)))
contains_enter k [] j d below has = absurd (let no : ⊥ = omega (arith, below) in no)
contains_enter k (r ∷ rs) zero d below has =
    let e : k ≡ k + 0 = omega arith in
    subst (λ (i : ℕ). Contains (tasks (items_from k (r ∷ rs))) (Enter (Some i))) e
    (contains_there (Put k) _ (Enter (Some k)) (by_test (has_tree r) has))
  where
    by_test : (b : Bool) → b ≡ true → Contains (tasks (cond b (record { name = r.name; task = Enter (Some k) } ∷ items_from (k + 1) rs) (items_from (k + 1) rs))) (Enter (Some k))
    by_test true is = contains_here (Enter (Some k)) (tasks (items_from (k + 1) rs))
    by_test false is = absurd cc
contains_enter k (r ∷ rs) (suc j) d below has =
    let e : (k + 1) + j ≡ k + suc j = omega arith in
    contains_later k r rs (Enter (Some (k + suc j))) (subst (λ (i : ℕ). Contains (tasks (items_from (k + 1) rs)) (Enter (Some i))) e (contains_enter (k + 1) rs j d (omega (arith, below)) has))

count_items : (k : ℕ) (rs : List Row) → sum_by puts_one (tasks (items_from k rs)) ≡ length rs
count_items k [] = refl
count_items k (r ∷ rs) = by_test (count_items (k + 1) rs) (has_tree r)
  where
    by_test : sum_by puts_one (tasks (items_from (k + 1) rs)) ≡ length rs → (b : Bool) → sum_by puts_one (Put k ∷ tasks (cond b (record { name = r.name; task = Enter (Some k) } ∷ items_from (k + 1) rs) (items_from (k + 1) rs))) ≡ suc (length rs)
    by_test rest true =
        let one = sum_by-cons puts_one (Put k) (Enter (Some k) ∷ tasks (items_from (k + 1) rs)) in
        let two = sum_by-cons puts_one (Enter (Some k)) (tasks (items_from (k + 1) rs)) in
        omega (arith, one, two, rest)
    by_test rest false =
        let one = sum_by-cons puts_one (Put k) (tasks (items_from (k + 1) rs)) in
        omega (arith, one, rest)

-- no more than two for a row
pub few_items : (k : ℕ) (rs : List Row) → length (items_from k rs) ≤ length rs + length rs
few_items k [] = omega arith
few_items k (r ∷ rs) = by_test (few_items (k + 1) rs) (has_tree r)
  where
    by_test : length (items_from (k + 1) rs) ≤ length rs + length rs → (b : Bool) → length (record { name = r.name; task = Put k } ∷ cond b (record { name = r.name; task = Enter (Some k) } ∷ items_from (k + 1) rs) (items_from (k + 1) rs)) ≤ suc (length rs) + suc (length rs)
    by_test rest true = omega (arith, rest)
    by_test rest false = omega (arith, rest)

pub spent_added : (before after : Walker) (first : ℕ) (news : List Row) (items sorted : List Item) → after.rows.items ≡ before.rows.items ++ news → items ≡ items_from first news → IsPermutation items (reverse sorted) → after.work.items ≡ before.work.items ++ sorted → IsSpent before after
spent_added before after first news items sorted rows_is items_is same work_is =
    let a = ap (length {A = Row}) rows_is in
    let b = length-append before.rows.items news in
    let c = ap (length {A = Item}) items_is in
    let d = few_items first news in
    let e = length_permutation items (reverse sorted) same in
    let f = length-reverse sorted in
    let g = ap (length {A = Item}) work_is in
    let h = length-append before.work.items sorted in
    record { rows = omega (arith, a, b); work = omega (arith, a, b, c, d, e, f, g, h) }

pub spent_none : (before after : Walker) → after.rows.items ≡ before.rows.items → after.work.items ≡ before.work.items → IsSpent before after
spent_none before after rows_is work_is =
    let a = ap (length {A = Row}) rows_is in
    let b = ap (length {A = Item}) work_is in
    record { rows = omega (arith, a); work = omega (arith, a, b) }

-- ---- the paths that stand alone

pub plains : List Spot → List Path
plains [] = []
plains (s ∷ ss) = cond s.1 (plains ss) (s.0 ∷ plains ss)

plains_append : (ss ts : List Spot) → plains (ss ++ ts) ≡ plains ss ++ plains ts
unfolding plains
plains_append [] ts = refl
plains_append (s ∷ ss) ts = by_test (plains_append ss ts) s.1
  where
    by_test : plains (ss ++ ts) ≡ plains ss ++ plains ts → (b : Bool) → cond b (plains (ss ++ ts)) (s.0 ∷ plains (ss ++ ts)) ≡ cond b (plains ss) (s.0 ∷ plains ss) ++ plains ts
    by_test rest true = rest
    by_test rest false = ap (λ (ps : List Path). s.0 ∷ ps) rest

plains_alone : {X : Type 0} (f : X → Path) (xs : List X) → length (plains (map (λ x. (f x, false)) xs)) ≡ length xs
unfolding plains
plains_alone f [] = refl
plains_alone f (x ∷ xs) = let rest = plains_alone f xs in omega (arith, rest)

plains_tasks : (paths : List Path) (next : List Task) → length (plains (map (spot_of paths) next)) ≡ sum_by puts_one next
unfolding plains
plains_tasks paths [] = refl
plains_tasks paths (Put k ∷ next) = let rest = plains_tasks paths next in let one = sum_by-cons puts_one (Put k) next in omega (arith, rest, one)
plains_tasks paths (Enter place ∷ next) = let rest = plains_tasks paths next in let one = sum_by-cons puts_one (Enter place) next in omega (arith, rest, one)

plains_all : (P : Path → Type 0) (ss : List Spot) → AllByRecursion (λ s. s.1 ≡ false → P s.0) ss → AllByRecursion P (plains ss)
unfolding plains
plains_all P [] all = tt
plains_all P (s ∷ ss) all = by_test (plains_all P ss all.1) s.1 all.0
  where
    by_test : AllByRecursion P (plains ss) → (b : Bool) → (b ≡ false → P s.0) → AllByRecursion P (cond b (plains ss) (s.0 ∷ plains ss))
    by_test rest true is = rest
    by_test rest false is = (is refl, rest)

alone_covers : (s : Spot) → s.1 ≡ false → Covers s s.0
alone_covers s is = by_test s.1 is
  where
    by_test : (b : Bool) → b ≡ false → CoversAs b s.0 s.0
    by_test true e = absurd cc
    by_test false e = refl

plains_ascend : (ss : List Spot) → AreInOrder ss → IsStrictlySortedBy cmp (plains ss)
unfolding plains IsStrictlySortedBy
plains_ascend [] up = tt
plains_ascend (s ∷ ss) up = by_test (plains_ascend ss up.1) s.1 refl
  where
    by_test : IsStrictlySortedBy cmp (plains ss) → (b : Bool) → s.1 ≡ b → IsStrictlySortedBy cmp (cond b (plains ss) (s.0 ∷ plains ss))
    by_test rest true e = rest
    by_test rest false e = (plains_all (λ q. cmp s.0 q ≡ Less) ss (rec_weaker (IsBefore s) (λ t. t.1 ≡ false → cmp s.0 t.0 ≡ Less) (λ t before is. before s.0 t.0 (alone_covers s e) (alone_covers t is)) ss up.0), rest)

-- names of a directory, each alone
names_order : (front : Path) (list : List Difference) → IsStrictlySortedBy cmp (map name_of list) → AreInOrder (map (λ (d : Difference). (front ++ d.name.now, false)) list)
unfolding IsStrictlySortedBy
names_order front [] up = tt
names_order front (d ∷ list) up = (all_before list up.0, names_order front list up.1)
  where
    all_before : (ds : List Difference) → AllByRecursion (λ n. cmp d.name.now n ≡ Less) (map name_of ds) → AllByRecursion (IsBefore (front ++ d.name.now, false)) (map (λ (e : Difference). (front ++ e.name.now, false)) ds)
    all_before [] all = tt
    all_before (e ∷ ds) all =
        ((λ p q one two. ap (λ (x : Path). cmp x q) one ∙ ap (cmp (front ++ d.name.now)) two ∙ front_cmp front d.name.now e.name.now ∙ all.0), all_before ds all.1)

names_inside : (front : Path) (list : List Difference) → AllByRecursion (IsInside (front, true)) (map (λ (d : Difference). (front ++ d.name.now, false)) list)
names_inside front [] = tt
names_inside front (d ∷ list) = (inside_front front d.name.now false, names_inside front list)

-- ---- where a row is read that isn't there

abbrev no_difference : Difference
no_difference = record { name = record { ref_ptr = (0, 0); now = [] }; old = None; new = None }

abbrev pub no_row : Row
no_row = record { parent = None; name = record { ref_ptr = (0, 0); now = [] }; old = None; new = None; listed = false; length = 0 }

either_none : {X : Type 0} (a b : Option X) → (is_some a || is_some b) ≡ false → (a ≡ None) × (b ≡ None)
either_none None None is = (refl, refl)
either_none None (Some y) is = absurd cc
either_none (Some x) b is = absurd cc

module _ (objects : List Content) (old new : Option ObjectId) where
  abbrev Walking : List Row → List ℕ → List Task → Type 0
  Walking = IsWalking objects old new

  abbrev Right : Path → Row → Type 0
  Right = IsRight objects old new

  abbrev Compared : List Path → Option ℕ → Type 0
  Compared = IsCompared objects old new

  -- ---- paths in a directory

  pub in_directory : (tree : Option ObjectId) (paths : List Path) (place : Option ℕ) (name : Name) → IsName name → row objects tree (front_at paths place ++ name) ≡ entry_at objects (tree_in objects old new tree paths place) name
  in_directory tree paths None name is = row_of_root objects tree name is
  in_directory tree paths (Some k) name is = ap (row objects tree) (append_assoc (path_at paths k) (47 ∷ []) name) ∙ row_below objects tree (path_at paths k) name is

  name_is : (at : Directory) (d : Difference) → IsDifference (entries_in (object_at objects at.old)) (entries_in (object_at objects at.new)) d → IsName d.name.now
  name_is at d is = by_old (old_entry d) refl (new_entry d) refl
    where
      by_old : (o : Option Entry) → old_entry d ≡ o → (n : Option Entry) → new_entry d ≡ n → IsName d.name.now
      by_old (Some e) o n f = entry_at-name objects at.old d.name.now e (sym is.old_is ∙ o)
      by_old None o (Some e) f = entry_at-name objects at.new d.name.now e (sym is.new_is ∙ f)
      by_old None o None f = absurd (is.differ (o ∙ sym f))

  still_compared : (paths more : List Path) (place : Option ℕ) → IsWithin (length paths) place → Compared paths place → Compared (paths ++ more) place
  still_compared paths more place within done =
      subst (λ (f : Path). (name : Name) → IsName name → Differs objects old new (f ++ name) → Contains (paths ++ more) (f ++ name)) (sym (front_more paths more place within))
      (λ name is differs. Contains-append_left paths more (front_at paths place ++ name) (done name is differs))

  none_below : (paths : List Path) (k : ℕ) (r : Row) → Right (path_at paths k) r → has_tree r ≡ false → Compared paths (Some k)
  none_below paths k r right none name is differs =
      let trees = either_none r.old r.new none in
      absurd (differs (in_directory old paths (Some k) name is
      ∙ ap (λ (t : Option ObjectId). entry_at objects t name) (sym right.old_is ∙ trees.0 ∙ sym (sym right.new_is ∙ trees.1))
      ∙ sym (in_directory new paths (Some k) name is)))

  module _ (paths : List Path) (at : Directory) (is : IsDirectory objects old new paths at) where
    row_old : (name : Name) → IsName name → row objects old (front_at paths at.place ++ name) ≡ entry_at objects at.old name
    row_old name n = in_directory old paths at.place name n ∙ ap (λ (t : Option ObjectId). entry_at objects t name) (sym is.old_is)

    row_new : (name : Name) → IsName name → row objects new (front_at paths at.place ++ name) ≡ entry_at objects at.new name
    row_new name n = in_directory new paths at.place name n ∙ ap (λ (t : Option ObjectId). entry_at objects t name) (sym is.new_is)

    name_differs : (d : Difference) → IsDifference (entries_in (object_at objects at.old)) (entries_in (object_at objects at.new)) d → Differs objects old new (front_at paths at.place ++ d.name.now)
    name_differs d difference same =
        let name = name_is at d difference in
        difference.differ (difference.old_is ∙ sym (row_old d.name.now name) ∙ same ∙ row_new d.name.now name ∙ sym difference.new_is)

    is_row : (d : Difference) → IsDifference (entries_in (object_at objects at.old)) (entries_in (object_at objects at.new)) d → IsShort at d → Right (front_at paths at.place ++ d.name.now) (row_of at d)
    is_row d difference short =
        let name = name_is at d difference in
        let e_old : row objects old (front_at paths at.place ++ d.name.now) ≡ old_entry d = row_old d.name.now name ∙ sym difference.old_is in
        let e_new : row objects new (front_at paths at.place ++ d.name.now) ≡ new_entry d = row_new d.name.now name ∙ sym difference.new_is in
        record {
          differs = name_differs d difference;
          listed_is = sym (ap₂ (λ (a b : Option Entry). is_file a || is_file b) e_old e_new);
          old_is = ap tree_below (sym e_old);
          new_is = ap tree_below (sym e_new);
          length_is = let e = is.front_is in omega (arith, e, length-append (front_at paths at.place) d.name.now);
          short = short;
        }

    all_rows : (list : List Difference) → AllByRecursion (IsDifference (entries_in (object_at objects at.old)) (entries_in (object_at objects at.new))) list → AllByRecursion (IsShort at) list
        → AllZip Right (map (λ (d : Difference). front_at paths at.place ++ d.name.now) list) (map (row_of at) list)
    all_rows [] all short = tt
    all_rows (d ∷ list) all short = (is_row d all.0 short.0, all_rows list all.1 short.1)

    here_compared : (list : List Difference) → IsWithin (length paths) at.place → Differing objects at list → Compared (paths ++ map (λ (d : Difference). front_at paths at.place ++ d.name.now) list) at.place
    here_compared list within are =
        subst (λ (f : Path). (name : Name) → IsName name → Differs objects old new (f ++ name) → Contains (paths ++ map (λ (d : Difference). front_at paths at.place ++ d.name.now) list) (f ++ name))
        (sym (front_more paths (map (λ (d : Difference). front_at paths at.place ++ d.name.now) list) at.place within))
        (λ name n differs.
        let named = are.all name (λ same. differs (row_old name n ∙ same ∙ sym (row_new name n))) in
        Contains-append_right paths (map (λ (d : Difference). front_at paths at.place ++ d.name.now) list) (front_at paths at.place ++ name)
        (subst (λ (m : Name). Contains (map (λ (d : Difference). front_at paths at.place ++ d.name.now) list) (front_at paths at.place ++ m)) named.2
        (contains_map (λ (d : Difference). front_at paths at.place ++ d.name.now) list named.0 named.1)))

  -- ---- a row is put in order

  pub put_done : (rows : List Row) (order more : List ℕ) (k : ℕ) (rest : List Task) → Walking rows order (Put k ∷ rest) → more ≡ order ++ k ∷ [] → Walking rows more rest
  put_done rows order more k rest w push = subst (λ (o : List ℕ). Walking rows o rest) (sym push) (record {
    right = w.right;
    linked = w.linked;
    few = w.few;
    order_within = All-push (λ j. j < length rows) order k w.order_within (All-head (IsTaskWithin (length rows)) (Put k) rest w.next_within);
    next_within = All-tail (IsTaskWithin (length rows)) (Put k) rest w.next_within;
    in_order =
        subst AreInOrder
        (sym (append_assoc (map (λ (j : ℕ). (path_at (paths_of rows) j, false)) order) ((path_at (paths_of rows) k, false) ∷ []) (map (spot_of (paths_of rows)) rest))
        ∙ ap (λ (ss : List Spot). ss ++ map (spot_of (paths_of rows)) rest) (sym (map_push (λ (j : ℕ). (path_at (paths_of rows) j, false)) order k)))
        w.in_order;
    counted = let one = sum_by-cons puts_one (Put k) rest in let two = length-append order (k ∷ []) in omega (arith, one, two, w.counted);
    each = λ j below. by_each j (w.each j below);
    closed = λ place within. by_closed place (w.closed place within);
  })
    where
      by_put : (j : ℕ) → (Put k ≡ Put j) ⊎ Contains rest (Put j) → Contains (order ++ k ∷ []) j ⊎ Contains rest (Put j)
      by_put j (inl same) = let e : k ≡ j = cc in inl (subst (λ (i : ℕ). Contains (order ++ k ∷ []) i) e (Contains-push order k))
      by_put j (inr there) = inr there

      by_each : (j : ℕ) → Contains order j ⊎ Contains (Put k ∷ rest) (Put j) → Contains (order ++ k ∷ []) j ⊎ Contains rest (Put j)
      by_each j (inl there) = inl (Contains-append_left order (k ∷ []) j there)
      by_each j (inr there) = by_put j (contains_cases (Put k) rest (Put j) there)

      by_enter : (place : Option ℕ) → (Put k ≡ Enter place) ⊎ Contains rest (Enter place) → Contains rest (Enter place) ⊎ Compared (paths_of rows) place
      by_enter place (inl same) = absurd cc
      by_enter place (inr there) = inl there

      by_closed : (place : Option ℕ) → Contains (Put k ∷ rest) (Enter place) ⊎ Compared (paths_of rows) place → Contains rest (Enter place) ⊎ Compared (paths_of rows) place
      by_closed place (inl there) = by_enter place (contains_cases (Put k) rest (Enter place) there)
      by_closed place (inr done) = inr done

  -- ---- a directory is compared

  module _ (rows : List Row) (order : List ℕ) (rest : List Task) (at : Directory) (list : List Difference)
      (w : Walking rows order (Enter at.place ∷ rest)) (is : IsDirectory objects old new (paths_of rows) at) (are : Differing objects at list) where
    abbrev paths : List Path
    paths = paths_of rows

    abbrev front : Path
    front = front_at (paths_of rows) at.place

    abbrev path_in : Difference → Path
    path_in d = front_at (paths_of rows) at.place ++ d.name.now

    abbrev news : List Row
    news = map (row_of at) list

    within : IsWithin (length rows) at.place
    within = All-head (IsTaskWithin (length rows)) (Enter at.place) rest w.next_within

    within_paths : IsWithin (length (paths_of rows)) at.place
    within_paths = subst (λ (n : ℕ). IsWithin n at.place) (sym (length_paths rows)) within

    paths_now : paths_of (rows ++ map (row_of at) list) ≡ paths_of rows ++ map path_in list
    paths_now = paths_append [] rows (map (row_of at) list) ∙ paths_beside (paths_of rows) at list within_paths

    differences : AllByRecursion (IsDifference (entries_in (object_at objects at.old)) (entries_in (object_at objects at.new))) list
    differences = recursion_from_All _ list are.each

    names : AllByRecursion (λ d. IsName (name_of d)) list
    names = rec_weaker _ (λ d. IsName (name_of d)) (name_is at) list differences

    row_differs : (k : ℕ) → k < length rows → Differs objects old new (path_at (paths_of rows) k)
    row_differs k below = (zip_at Right (paths_of rows) rows k [] no_row w.right below).differs

    -- the paths that are known to differ, in order
    known : List Spot
    known = map (λ (k : ℕ). (path_at (paths_of rows) k, false)) order ++ (map (λ (d : Difference). (path_in d, false)) list ++ map (spot_of (paths_of rows)) rest)

    known_order : AreInOrder (map (λ (k : ℕ). (path_at (paths_of rows) k, false)) order ++ (map (λ (d : Difference). (path_in d, false)) list ++ map (spot_of (paths_of rows)) rest))
    known_order =
        order_put (map (λ (k : ℕ). (path_at (paths_of rows) k, false)) order) (map (λ (d : Difference). (path_in d, false)) list) (map (spot_of (paths_of rows)) rest) (front, true) w.in_order (names_order front list are.ascend) (names_inside front list)

    task_differs : (t : Task) → IsTaskWithin (length rows) t → (spot_of (paths_of rows) t).1 ≡ false → Differs objects old new (spot_of (paths_of rows) t).0
    task_differs (Put k) below e = row_differs k below
    task_differs (Enter place) below e = absurd cc

    known_differ : AllByRecursion (λ (s : Spot). s.1 ≡ false → Differs objects old new s.0) (map (λ (k : ℕ). (path_at (paths_of rows) k, false)) order ++ (map (λ (d : Difference). (path_in d, false)) list ++ map (spot_of (paths_of rows)) rest))
    known_differ =
        rec_append _ (map (λ (k : ℕ). (path_at (paths_of rows) k, false)) order) (map (λ (d : Difference). (path_in d, false)) list ++ map (spot_of (paths_of rows)) rest)
        (rec_map _ (λ (k : ℕ). (path_at (paths_of rows) k, false)) order (rec_weaker (λ k. k < length rows) _ (λ k below e. row_differs k below) order (recursion_from_All (λ k. k < length rows) order w.order_within)))
        (rec_append _ (map (λ (d : Difference). (path_in d, false)) list) (map (spot_of (paths_of rows)) rest)
        (rec_map _ (λ (d : Difference). (path_in d, false)) list (rec_weaker _ _ (λ d difference e. name_differs (paths_of rows) at is d difference) list differences))
        (rec_map _ (spot_of (paths_of rows)) rest (rec_weaker (IsTaskWithin (length rows)) _ task_differs rest (recursion_from_All (IsTaskWithin (length rows)) rest (All-tail (IsTaskWithin (length rows)) (Enter at.place) rest w.next_within)))))

    known_many : length (plains (map (λ (k : ℕ). (path_at (paths_of rows) k, false)) order ++ (map (λ (d : Difference). (path_in d, false)) list ++ map (spot_of (paths_of rows)) rest))) ≡ length rows + length list
    known_many =
        let one = plains_alone (path_at (paths_of rows)) order in
        let two = plains_alone path_in list in
        let three = plains_tasks (paths_of rows) rest in
        let all = ap (length {A = Path}) (plains_append (map (λ (k : ℕ). (path_at (paths_of rows) k, false)) order) (map (λ (d : Difference). (path_in d, false)) list ++ map (spot_of (paths_of rows)) rest)) in
        let back = ap (length {A = Path}) (plains_append (map (λ (d : Difference). (path_in d, false)) list) (map (spot_of (paths_of rows)) rest)) in
        let first = length-append (plains (map (λ (k : ℕ). (path_at (paths_of rows) k, false)) order)) (plains (map (λ (d : Difference). (path_in d, false)) list ++ map (spot_of (paths_of rows)) rest)) in
        let second = length-append (plains (map (λ (d : Difference). (path_in d, false)) list)) (plains (map (spot_of (paths_of rows)) rest)) in
        let counts = sum_by-cons puts_one (Enter at.place) rest in
        omega (arith, one, two, three, all, back, first, second, counts, w.counted)

    pub too_many : MAX_ROWS < length rows + length list → DifferTooMuch objects old new
    too_many many =
        let count = known_many in
        inl (_, plains_ascend _ known_order, All-from_recursion _ _ (plains_all (Differs objects old new) _ known_differ), omega (arith, many, count))

    pub too_long : (d : Difference) → Contains list d → MAX_PATH < at.front + length d.name.now → DifferTooMuch objects old new
    too_long d there long =
        inr (path_in d, name_differs (paths_of rows) at is d (All-contains (IsDifference (entries_in (object_at objects at.old)) (entries_in (object_at objects at.new))) list d are.each there), (let e = is.front_is in omega (arith, long, e, length-append front d.name.now)))

    pub stops : (e : Stop) → IsTooLong at list e → Stops objects old new e
    stops TooMuch is = too_long is.0 is.1 is.2
    stops NoMemory is = tt

    module _ (few : length rows + length list ≤ MAX_ROWS) (short : AreShort at list) (after : List Item) (sorts : SortsItems (items_from (length rows) (map (row_of at) list)) after) where
      abbrev now : List Path
      now = paths_of rows ++ map path_in list

      rights : AllZip Right (paths_of rows ++ map path_in list) (rows ++ map (row_of at) list)
      rights = zip_both Right (paths_of rows) (map path_in list) rows (map (row_of at) list) w.right (all_rows (paths_of rows) at is list differences (recursion_from_All (IsShort at) list short))

      length_now : length (rows ++ map (row_of at) list) ≡ length rows + length list
      length_now = let one = length-append rows (map (row_of at) list) in let two = length-map list (row_of at) in omega (arith, one, two)

      lengths : length (paths_of rows ++ map path_in list) ≡ length (rows ++ map (row_of at) list)
      lengths = let a = length-append (paths_of rows) (map path_in list) in let b = length_paths rows in let c = length-map list path_in in let d = length_now in omega (arith, a, b, c, d)

      placed : All (IsPlaced (paths_of rows ++ map path_in list) front) after
      placed =
          All-permutation (IsPlaced (paths_of rows ++ map path_in list) front) (items_from (length rows) (map (row_of at) list)) after sorts.same
          (All-from_recursion _ _ (items_placed (paths_of rows ++ map path_in list) (paths_of rows) front (length rows) at list (sym (length_paths rows)) refl names))

      news_order : AreInOrder (map (λ (i : Item). spot_of (paths_of rows ++ map path_in list) i.task) after)
      news_order = sorted_order (paths_of rows ++ map path_in list) front (items_from (length rows) (map (row_of at) list)) after placed (items_distinct (length rows) at list are.ascend names) sorts

      news_inside : AllByRecursion (IsInside (front, true)) (map (λ (i : Item). spot_of (paths_of rows ++ map path_in list) i.task) after)
      news_inside =
          rec_map (IsInside (front, true)) (λ (i : Item). spot_of (paths_of rows ++ map path_in list) i.task) after
          (rec_weaker (IsPlaced (paths_of rows ++ map path_in list) front) _
          (λ i p. subst (λ (s : Spot). IsInside (front, true) s) (sym p.spot_is) (inside_front front (key_of i) (is_deep i.task))) after (recursion_from_All _ after placed))

      still_spot : (t : Task) → IsTaskWithin (length rows) t → spot_of (paths_of rows) t ≡ spot_of (paths_of rows ++ map path_in list) t
      still_spot (Put k) below =
          let there : k < length (paths_of rows) = let e = length_paths rows in omega (arith, below, e) in
          ap (λ (p : Path). (p, false)) (sym (get_or_append_left (paths_of rows) (map path_in list) [] k there))
      still_spot (Enter place) below =
          ap (λ (p : Path). (p, true)) (sym (front_more (paths_of rows) (map path_in list) place (subst (λ (n : ℕ). IsWithin n place) (sym (length_paths rows)) below)))

      rest_within : AllByRecursion (IsTaskWithin (length rows)) rest
      rest_within = recursion_from_All (IsTaskWithin (length rows)) rest (All-tail (IsTaskWithin (length rows)) (Enter at.place) rest w.next_within)

      spots_now : map (λ (k : ℕ). (path_at (paths_of rows) k, false)) order ++ (map (λ (i : Item). spot_of (paths_of rows ++ map path_in list) i.task) after ++ map (spot_of (paths_of rows)) rest)
          ≡ spots_of (paths_of rows ++ map path_in list) order (tasks after ++ rest)
      spots_now =
          ap₂ (λ (a b : List Spot). a ++ b)
          (map_agree (λ (k : ℕ). (path_at (paths_of rows) k, false)) (λ (k : ℕ). (path_at (paths_of rows ++ map path_in list) k, false)) order (rec_weaker (λ k. k < length rows) _ (λ k below. still_spot (Put k) below) order (recursion_from_All (λ k. k < length rows) order w.order_within)))
          (ap₂ (λ (a b : List Spot). a ++ b)
          (sym (map_map (spot_of (paths_of rows ++ map path_in list)) (λ (i : Item). i.task) after))
          (map_agree (spot_of (paths_of rows)) (spot_of (paths_of rows ++ map path_in list)) rest (rec_weaker (IsTaskWithin (length rows)) _ still_spot rest rest_within))
          ∙ sym (map-append (spot_of (paths_of rows ++ map path_in list)) (tasks after) rest))

      grows : (t : Task) → IsTaskWithin (length rows) t → IsTaskWithin (length (rows ++ map (row_of at) list)) t
      grows (Put k) below = let e = length_now in omega (arith, below, e)
      grows (Enter place) below = within_more (length rows) (length (rows ++ map (row_of at) list)) place (let e = length_now in omega (arith, e)) below

      has_task : (t : Task) → Contains (tasks (items_from (length rows) (map (row_of at) list))) t → Contains (tasks after ++ rest) t
      has_task t there =
          Contains-append_left (tasks after) rest t
          (Contains-permutation (tasks (items_from (length rows) (map (row_of at) list))) (tasks after) t (IsPermutation-map (λ (i : Item). i.task) (items_from (length rows) (map (row_of at) list)) after sorts.same) there)

      by_put : (k : ℕ) → (Enter at.place ≡ Put k) ⊎ Contains rest (Put k) → Contains order k ⊎ Contains (tasks after ++ rest) (Put k)
      by_put k (inl same) = absurd cc
      by_put k (inr there) = inr (Contains-append_right (tasks after) rest (Put k) there)

      by_old : (k : ℕ) → Contains order k ⊎ Contains (Enter at.place ∷ rest) (Put k) → Contains order k ⊎ Contains (tasks after ++ rest) (Put k)
      by_old k (inl there) = inl there
      by_old k (inr there) = by_put k (contains_cases (Enter at.place) rest (Put k) there)

      each_now : (k : ℕ) → (k < length rows) ⊎ (length rows ≤ k) → k < length (rows ++ map (row_of at) list) → Contains order k ⊎ Contains (tasks after ++ rest) (Put k)
      each_now k (inl below) all = by_old k (w.each k below)
      each_now k (inr above) all =
          let e : length rows + (k - length rows) ≡ k = omega (arith, above) in
          let there : k - length rows < length (map (row_of at) list) = let f = length-append rows (map (row_of at) list) in omega (arith, above, all, f) in
          inr (has_task (Put k) (subst (λ (j : ℕ). Contains (tasks (items_from (length rows) (map (row_of at) list))) (Put j)) e (contains_put (length rows) (map (row_of at) list) (k - length rows) there)))

      abbrev Closed : Option ℕ → Type 0
      Closed place = Contains (tasks after ++ rest) (Enter place) ⊎ Compared (paths_of rows ++ map path_in list) place

      by_enter : (place : Option ℕ) → (Enter at.place ≡ Enter place) ⊎ Contains rest (Enter place) → Closed place
      by_enter place (inl same) = let e : at.place ≡ place = cc in inr (subst (λ (p : Option ℕ). Compared (paths_of rows ++ map path_in list) p) e (here_compared (paths_of rows) at is list within_paths are))
      by_enter place (inr there) = inl (Contains-append_right (tasks after) rest (Enter place) there)

      closed_old : (place : Option ℕ) → IsWithin (length rows) place → Contains (Enter at.place ∷ rest) (Enter place) ⊎ Compared (paths_of rows) place → Closed place
      closed_old place inside (inl there) = by_enter place (contains_cases (Enter at.place) rest (Enter place) there)
      closed_old place inside (inr done) = inr (still_compared (paths_of rows) (map path_in list) place (subst (λ (n : ℕ). IsWithin n place) (sym (length_paths rows)) inside) done)

      closed_new : (j : ℕ) → j < length (map (row_of at) list) → (b : Bool) → has_tree (get_or (map (row_of at) list) j no_row) ≡ b → Closed (Some (length rows + j))
      closed_new j below true e = inl (has_task (Enter (Some (length rows + j))) (contains_enter (length rows) (map (row_of at) list) j no_row below e))
      closed_new j below false e =
          let there : length rows + j < length (rows ++ map (row_of at) list) = let f = length-append rows (map (row_of at) list) in omega (arith, below, f) in
          let same : get_or (rows ++ map (row_of at) list) (length rows + j) no_row ≡ get_or (map (row_of at) list) j no_row = get_or-append-add rows (map (row_of at) list) j no_row in
          inr (none_below (paths_of rows ++ map path_in list) (length rows + j) (get_or (rows ++ map (row_of at) list) (length rows + j) no_row)
          (zip_at Right (paths_of rows ++ map path_in list) (rows ++ map (row_of at) list) (length rows + j) [] no_row rights there) (ap has_tree same ∙ e))

      closed_at : (k : ℕ) → (k < length rows) ⊎ (length rows ≤ k) → k < length (rows ++ map (row_of at) list) → Closed (Some k)
      closed_at k (inl below) all = closed_old (Some k) below (w.closed (Some k) below)
      closed_at k (inr above) all =
          let e : length rows + (k - length rows) ≡ k = omega (arith, above) in
          let there : k - length rows < length (map (row_of at) list) = let f = length-append rows (map (row_of at) list) in omega (arith, above, all, f) in
          subst (λ (j : ℕ). Closed (Some j)) e (closed_new (k - length rows) there (has_tree (get_or (map (row_of at) list) (k - length rows) no_row)) refl)

      closed_now : (place : Option ℕ) → IsWithin (length (rows ++ map (row_of at) list)) place → Closed place
      closed_now None inside = closed_old None tt (w.closed None tt)
      closed_now (Some k) inside = closed_at k (cases_lt k (length rows)) inside

      pub entered : Walking (rows ++ map (row_of at) list) order (tasks after ++ rest)
      entered = record {
        right = subst (λ (ps : List Path). AllZip Right ps (rows ++ map (row_of at) list)) (sym paths_now) rights;
        linked = linked_append 0 rows (map (row_of at) list) w.linked (linked_beside (0 + length rows) at list (within_more (length rows) (0 + length rows) at.place (omega arith) within));
        few = let e = length_now in omega (arith, e, few);
        order_within = All-weaker (λ k. k < length rows) (λ k. k < length (rows ++ map (row_of at) list)) (λ k below. grows (Put k) below) order w.order_within;
        next_within =
            All-append (IsTaskWithin (length (rows ++ map (row_of at) list))) (tasks after) rest
            (All-map (IsTaskWithin (length (rows ++ map (row_of at) list))) (λ (i : Item). i.task) after
            (All-weaker (IsPlaced (paths_of rows ++ map path_in list) front) _
            (λ i p. subst (λ (n : ℕ). IsTaskWithin n i.task) lengths p.within) after placed))
            (All-weaker (IsTaskWithin (length rows)) (IsTaskWithin (length (rows ++ map (row_of at) list))) grows rest (All-tail (IsTaskWithin (length rows)) (Enter at.place) rest w.next_within));
        in_order =
            subst (λ (ps : List Path). AreInOrder (spots_of ps order (tasks after ++ rest))) (sym paths_now)
            (subst AreInOrder spots_now
            (order_put (map (λ (k : ℕ). (path_at (paths_of rows) k, false)) order) (map (λ (i : Item). spot_of (paths_of rows ++ map path_in list) i.task) after) (map (spot_of (paths_of rows)) rest) (front, true) w.in_order news_order news_inside));
        counted =
            let a = sum_by-append puts_one (tasks after) rest in
            let b = sum_by-IsPermutation puts_one (tasks (items_from (length rows) (map (row_of at) list))) (tasks after) (IsPermutation-map (λ (i : Item). i.task) (items_from (length rows) (map (row_of at) list)) after sorts.same) in
            let c = count_items (length rows) (map (row_of at) list) in
            let d = sum_by-cons puts_one (Enter at.place) rest in
            let e = length-append rows (map (row_of at) list) in
            omega (arith, a, b, c, d, e, w.counted);
        each = λ k below. each_now k (cases_lt k (length rows)) below;
        closed = λ place inside. subst (λ (ps : List Path). Contains (tasks after ++ rest) (Enter place) ⊎ Compared ps place) (sym paths_now) (closed_now place inside);
      }

      -- what was added, in the code's own lists
      pub added : (rows2 : List Row) (work work2 sorted : List Item) → rows2 ≡ rows ++ map (row_of at) list → after ≡ reverse sorted → work2 ≡ work ++ sorted → rest ≡ next_of work → Walking rows2 order (next_of work2)
      added rows2 work work2 sorted rows_is after_is work_is rest_is =
          subst (λ (n : List Task). Walking rows2 order n) (ap₂ (λ (a : List Item) (r : List Task). tasks a ++ r) after_is rest_is ∙ sym (next_add work work2 sorted work_is))
          (subst (λ (r : List Row). Walking r order (tasks after ++ rest)) (sym rows_is) entered)

  -- ---- the whole walk

  pub walk_begins : (rows : List Row) (order : List ℕ) (next : List Task) → rows ≡ [] → order ≡ [] → next ≡ Enter None ∷ [] → Walking rows order next
  walk_begins rows order next no_rows no_order is =
      subst (λ (n : List Task). Walking rows order n) (sym is) (subst (λ (o : List ℕ). Walking rows o (Enter None ∷ [])) (sym no_order) (subst (λ (r : List Row). Walking r [] (Enter None ∷ [])) (sym no_rows) (record {
        right = tt;
        linked = tt;
        few = omega arith;
        order_within = All-nil _;
        next_within = All-from_recursion (IsTaskWithin 0) (Enter None ∷ []) (tt, tt);
        in_order = (tt, tt);
        counted = refl;
        each = λ k below. absurd (let no : ⊥ = omega (arith, below) in no);
        closed = by_place;
      })))
    where
      by_place : (place : Option ℕ) → IsWithin 0 place → Contains (Enter None ∷ []) (Enter place) ⊎ Compared [] place
      by_place None inside = inl (contains_here (Enter None) [])
      by_place (Some k) inside = absurd (let no : ⊥ = omega (arith, inside) in no)

  pub directory_is : (rows : List Row) (order : List ℕ) (rest : List Task) (place : Option ℕ) (root at : Directory) → Walking rows order (Enter place ∷ rest) → root.place ≡ None → root.front ≡ 0 → root.old ≡ old → root.new ≡ new → IsDirectoryOf rows root place at
      → (at.place ≡ place) × IsDirectory objects old new (paths_of rows) at
  directory_is rows order rest None root at w no_place no_front old_is new_is is =
      subst (λ (a : Directory). (a.place ≡ None) × IsDirectory objects old new (paths_of rows) a) (sym is) (
        no_place,
        record {
          old_is = old_is ∙ ap (tree_in objects old new old (paths_of rows)) (sym no_place);
          new_is = new_is ∙ ap (tree_in objects old new new (paths_of rows)) (sym no_place);
          front_is = no_front ∙ ap (λ (p : Option ℕ). length (front_at (paths_of rows) p)) (sym no_place);
        },
      )
  directory_is rows order rest (Some k) root at w no_place no_front old_is new_is is =
      let below : k < length rows = All-head (IsTaskWithin (length rows)) (Enter (Some k)) rest w.next_within in
      let right = zip_at Right (paths_of rows) rows k [] no_row w.right below in
      let of_row = is no_row in (
        of_row.place_is,
        record {
          old_is = of_row.old_is ∙ right.old_is ∙ ap (tree_in objects old new old (paths_of rows)) (sym of_row.place_is);
          new_is = of_row.new_is ∙ right.new_is ∙ ap (tree_in objects old new new (paths_of rows)) (sym of_row.place_is);
          front_is =
              of_row.front_is ∙ (let e = right.length_is in let f = length-append (path_at (paths_of rows) k) (47 ∷ []) in omega (arith, e, f))
              ∙ ap (λ (p : Option ℕ). length (front_at (paths_of rows) p)) (sym of_row.place_is);
        },
      )

  pub all_short : (rows : List Row) (order : List ℕ) (next : List Task) → Walking rows order next → All (λ (r : Row). r.length ≤ MAX_PATH) rows
  all_short rows order next w = All-from_recursion _ rows (zip_right Right (λ r. r.length ≤ MAX_PATH) (λ p r right. right.short) (paths_of rows) rows w.right)

  pub front_small : (rows : List Row) (order : List ℕ) (rest : List Task) (at : Directory) → Walking rows order (Enter at.place ∷ rest) → IsDirectory objects old new (paths_of rows) at → at.front ≤ MAX_PATH + 1
  front_small rows order rest at w is = by_place at.place refl
    where
      by_place : (place : Option ℕ) → at.place ≡ place → at.front ≤ MAX_PATH + 1
      by_place None e = let f = is.front_is ∙ ap (λ (p : Option ℕ). length (front_at (paths_of rows) p)) e in omega (arith, f)
      by_place (Some k) e =
          let below : k < length rows = All-head (IsTaskWithin (length rows)) (Enter (Some k)) rest (subst (λ (p : Option ℕ). All (IsTaskWithin (length rows)) (Enter p ∷ rest)) e w.next_within) in
          let right = zip_at Right (paths_of rows) rows k [] no_row w.right below in
          let f = is.front_is ∙ ap (λ (p : Option ℕ). length (front_at (paths_of rows) p)) e in
          let g = length-append (path_at (paths_of rows) k) (47 ∷ []) in
          omega (arith, f, g, right.length_is, right.short)

pub not_many : (b : Bool) (n rows more : ℕ) → (MAX_ROWS < n + more → IsTrue b) → b ≡ false → n ≡ rows → rows + more ≤ MAX_ROWS
not_many b n rows more test is same = by_order (cases_lt MAX_ROWS (n + more))
  where
    by_order : (MAX_ROWS < n + more) ⊎ (n + more ≤ MAX_ROWS) → rows + more ≤ MAX_ROWS
    by_order (inl many) = absurd (cc (test many, is))
    by_order (inr few) = omega (arith, few, same)

-- the error that is passed on
pub passed_on : {X : Type 0} (r : Result X Stop) (e : Stop) (P : X → Type 0) (S : Stop → Type 0) → IsErrAnd r (λ x. x ≡ e) → S e → MatchResult r P S
passed_on (Ok x) e P S is stops = absurd is
passed_on (Err x) e P S is stops = subst S (sym is) stops
