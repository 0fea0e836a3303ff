-- The paths of a table's rows.
use Rattle.std.proofs.Common.{◌≡◌, ℕ, zero, suc, ◌+◌, ◌<◌, ◌≤◌, List, [], ◌∷◌, ◌++◌, map, reverse, length, get_or, Option, None, Some, refl, sym, ◌∙◌, ap, subst, arith, append_assoc, append-nil, length-append}
use Rattle.std.proofs.lemmas.List.{get_or_append_left, get_or-append-add, get_or_default, reverse-append, reverse-reverse}
use Rattle.vref.specs.Rows.{Name, Path}
use Rattle.vref.specs.PathTable.{path_at, front_at, paths_behind, paths_of, IsWithin, AreLinkedFrom, AreLinked}
use Rattle.vref.specs.Walk.{row_of}
use Rattle.vref.specs.declared.differences.Difference.{Difference}
use Rattle.vref.specs.declared.path_table.Row.{Row}
use Rattle.vref.specs.declared.walk.Directory.{Directory}

pub within_more : (n m : ℕ) (place : Option ℕ) → n ≤ m → IsWithin n place → IsWithin m place
within_more n m None le is = tt
within_more n m (Some k) le is = omega (arith, le, is)

pub length_behind : (ps : List Path) (rs : List Row) → length (paths_behind ps rs) ≡ length ps + length rs
length_behind ps [] = omega arith
length_behind ps (r ∷ rs) =
    let more : List Path = ps ++ (front_at ps r.parent ++ r.name.now) ∷ [] in
    let rest : length (paths_behind more rs) ≡ length more + length rs = length_behind more rs in
    let one : length more ≡ length ps + 1 = length-append ps ((front_at ps r.parent ++ r.name.now) ∷ []) in
    omega (arith, rest, one)

pub length_paths : (rs : List Row) → length (paths_of rs) ≡ length rs
length_paths rs = let e : length (paths_behind [] rs) ≡ length {A = Path} [] + length rs = length_behind [] rs in omega (arith, e)

pub paths_append : (ps : List Path) (rs ss : List Row) → paths_behind ps (rs ++ ss) ≡ paths_behind (paths_behind ps rs) ss
paths_append ps [] ss = refl
paths_append ps (r ∷ rs) ss = paths_append (ps ++ (front_at ps r.parent ++ r.name.now) ∷ []) rs ss

pub still_there : (ps : List Path) (rs : List Row) (k : ℕ) → k < length ps → get_or (paths_behind ps rs) k [] ≡ get_or ps k []
still_there ps [] k below = refl
still_there ps (r ∷ rs) k below =
    let x : Path = front_at ps r.parent ++ r.name.now in
    let further : k < length (ps ++ x ∷ []) = omega (arith, length-append ps (x ∷ []), below) in
    still_there (ps ++ x ∷ []) rs k further ∙ get_or_append_left ps (x ∷ []) [] k below

pub front_more : (ps more : List Path) (place : Option ℕ) → IsWithin (length ps) place → front_at (ps ++ more) place ≡ front_at ps place
front_more ps more None is = refl
front_more ps more (Some k) is = ap (λ (p : Path). p ++ 47 ∷ []) (get_or_append_left ps more [] k is)

front_still : (ps : List Path) (rs : List Row) (place : Option ℕ) → IsWithin (length ps) place → front_at (paths_behind ps rs) place ≡ front_at ps place
front_still ps rs None is = refl
front_still ps rs (Some k) is = ap (λ (p : Path). p ++ 47 ∷ []) (still_there ps rs k is)

-- the rows of a directory's names
pub paths_beside : (ps : List Path) (at : Directory) (list : List Difference) → IsWithin (length ps) at.place → paths_behind ps (map (row_of at) list) ≡ ps ++ map (λ (d : Difference). front_at ps at.place ++ d.name.now) list
paths_beside ps at [] is = sym (append-nil ps)
paths_beside ps at (d ∷ list) is =
    let x : Path = front_at ps at.place ++ d.name.now in
    let further : length ps ≤ length (ps ++ x ∷ []) = omega (arith, length-append ps (x ∷ [])) in
    paths_beside (ps ++ x ∷ []) at list (within_more (length ps) (length (ps ++ x ∷ [])) at.place further is)
    ∙ ap (λ (f : Path). (ps ++ x ∷ []) ++ map (λ (e : Difference). f ++ e.name.now) list) (front_more ps (x ∷ []) at.place is)
    ∙ append_assoc ps (x ∷ []) (map (λ (e : Difference). front_at ps at.place ++ e.name.now) list)

pub linked_append : (n : ℕ) (rs ss : List Row) → AreLinkedFrom n rs → AreLinkedFrom (n + length rs) ss → AreLinkedFrom n (rs ++ ss)
linked_append n [] ss one two = let e : n + 0 ≡ n = omega arith in subst (λ (k : ℕ). AreLinkedFrom k ss) e two
linked_append n (r ∷ rs) ss one two =
    let e : n + suc (length rs) ≡ (n + 1) + length rs = omega arith in
    (one.0, linked_append (n + 1) rs ss one.1 (subst (λ (k : ℕ). AreLinkedFrom k ss) e two))

pub linked_beside : (n : ℕ) (at : Directory) (list : List Difference) → IsWithin n at.place → AreLinkedFrom n (map (row_of at) list)
linked_beside n at [] is = tt
linked_beside n at (d ∷ list) is = (is, linked_beside (n + 1) at list (within_more n (n + 1) at.place (omega arith) is))

pub parent_within : (n : ℕ) (rs : List Row) (j : ℕ) (d : Row) → AreLinkedFrom n rs → j < length rs → IsWithin (n + j) (get_or rs j d).parent
parent_within n [] j d linked below = absurd (let no : ⊥ = omega (arith, below) in no)
parent_within n (r ∷ rs) zero d linked below = let e : n ≡ n + 0 = omega arith in subst (λ (k : ℕ). IsWithin k r.parent) e linked.0
parent_within n (r ∷ rs) (suc j) d linked below =
    let e : (n + 1) + j ≡ n + suc j = omega arith in
    subst (λ (k : ℕ). IsWithin k (get_or rs j d).parent) e (parent_within (n + 1) rs j d linked.1 (omega (arith, below)))

path_behind_is : (ps : List Path) (rs : List Row) (j : ℕ) (d : Row) → AreLinkedFrom (length ps) rs → j < length rs → get_or (paths_behind ps rs) (length ps + j) [] ≡ front_at (paths_behind ps rs) (get_or rs j d).parent ++ (get_or rs j d).name.now
path_behind_is ps [] j d linked below = absurd (let no : ⊥ = omega (arith, below) in no)
path_behind_is ps (r ∷ rs) zero d linked below =
    let x : Path = front_at ps r.parent ++ r.name.now in
    let more : List Path = ps ++ x ∷ [] in
    let longer : length more ≡ length ps + 1 = length-append ps (x ∷ []) in
    let there : length ps + 0 < length more = omega (arith, longer) in
    still_there more rs (length ps + 0) there ∙ get_or-append-add ps (x ∷ []) 0 [] ∙ ap (λ (f : Path). f ++ r.name.now)
    (sym (front_still more rs r.parent (within_more (length ps) (length more) r.parent (omega (arith, longer)) linked.0) ∙ front_more ps (x ∷ []) r.parent linked.0))
path_behind_is ps (r ∷ rs) (suc j) d linked below =
    let x : Path = front_at ps r.parent ++ r.name.now in
    let more : List Path = ps ++ x ∷ [] in
    let longer : length more ≡ length ps + 1 = length-append ps (x ∷ []) in
    let e : length ps + suc j ≡ length more + j = omega (arith, longer) in
    ap (λ (k : ℕ). get_or (paths_behind more rs) k []) e ∙ path_behind_is more rs j d (subst (λ (k : ℕ). AreLinkedFrom k rs) (sym longer) linked.1) (omega (arith, below))

-- a row's path is its directory's path, a slash and its name
pub path_is : (rs : List Row) (j : ℕ) (d : Row) → AreLinked rs → j < length rs → path_at (paths_of rs) j ≡ front_at (paths_of rs) (get_or rs j d).parent ++ (get_or rs j d).name.now
path_is rs j d linked below =
    let e : j ≡ 0 + j = omega arith in
    ap (λ (k : ℕ). get_or (paths_of rs) k []) e ∙ path_behind_is [] rs j d linked below

-- ---- a path is put together from its end

-- the bytes, the last first, are what comes behind the front of this directory
abbrev pub IsBehind : List Row → ℕ → Option ℕ → List ℕ → Type 0
IsBehind rows place parent bytes = path_at (paths_of rows) place ≡ front_at (paths_of rows) parent ++ reverse bytes

pub behind_begins : (rows : List Row) (place : ℕ) (d : Row) (none bytes : List ℕ) → AreLinked rows → place < length rows → none ≡ [] → bytes ≡ none ++ reverse (get_or rows place d).name.now → IsBehind rows place (get_or rows place d).parent bytes
behind_begins rows place d none bytes linked below empty is =
    let name : Name = (get_or rows place d).name.now in
    path_is rows place d linked below ∙ ap (λ (more : Path). front_at (paths_of rows) (get_or rows place d).parent ++ more)
    (sym (ap reverse (is ∙ ap (λ (b : List ℕ). b ++ reverse name) empty) ∙ reverse-reverse name))

pub behind_goes : (rows : List Row) (place k : ℕ) (d : Row) (bytes more all : List ℕ) → AreLinked rows → k < length rows → IsBehind rows place (Some k) bytes → more ≡ bytes ++ 47 ∷ [] → all ≡ more ++ reverse (get_or rows k d).name.now
    → IsBehind rows place (get_or rows k d).parent all
behind_goes rows place k d bytes more all linked below before push is =
    let front : Path = front_at (paths_of rows) (get_or rows k d).parent in
    let name : Name = (get_or rows k d).name.now in
    let back : reverse all ≡ name ++ 47 ∷ reverse bytes =
    ap reverse (is ∙ ap (λ (b : List ℕ). b ++ reverse name) push) ∙ reverse-append (bytes ++ 47 ∷ []) (reverse name)
    ∙ ap (λ (n : List ℕ). n ++ reverse (bytes ++ 47 ∷ [])) (reverse-reverse name) ∙ ap (λ (b : List ℕ). name ++ b) (reverse-append bytes (47 ∷ [])) in
    before
    ∙ ap (λ (p : Path). (p ++ 47 ∷ []) ++ reverse bytes) (path_is rows k d linked below)
    ∙ append_assoc (front ++ name) (47 ∷ []) (reverse bytes)
    ∙ append_assoc front name (47 ∷ reverse bytes)
    ∙ ap (λ (b : Path). front ++ b) (sym back)

pub parent_below : (rows : List Row) (k p : ℕ) (d : Row) → AreLinked rows → k < length rows → (get_or rows k d).parent ≡ Some p → p < k
parent_below rows k p d linked below is =
    let e : 0 + k ≡ k = omega arith in
    subst (λ (j : ℕ). p < j) e (subst (λ (place : Option ℕ). IsWithin (0 + k) place) is (parent_within 0 rows k d linked below))

pub behind_starts : (rows : List Row) (place : ℕ) (d : Row) (none bytes : List ℕ) → AreLinked rows → place < length rows → none ≡ [] → bytes ≡ none ++ reverse (get_or rows place d).name.now → (e : Row) → IsBehind rows place (get_or rows place e).parent bytes
behind_starts rows place d none bytes linked below empty is e =
    subst (λ (r : Row). IsBehind rows place r.parent bytes) (get_or_default rows place d e below) (behind_begins rows place d none bytes linked below empty is)

pub behind_continues : (rows : List Row) (place at k : ℕ) (d f : Row) (bytes more all : List ℕ) → AreLinked rows → at < length rows → ((e : Row) → IsBehind rows place (get_or rows at e).parent bytes) → (get_or rows at d).parent ≡ Some k → more ≡ bytes ++ 47 ∷ []
    → all ≡ more ++ reverse (get_or rows k f).name.now → (e : Row) → IsBehind rows place (get_or rows k e).parent all
behind_continues rows place at k d f bytes more all linked below before is push name e =
    let under : k < at = parent_below rows at k d linked below is in
    let there : k < length rows = omega (arith, under, below) in
    subst (λ (r : Row). IsBehind rows place r.parent all) (get_or_default rows k f e there)
    (behind_goes rows place k f bytes more all linked there (subst (λ (p : Option ℕ). IsBehind rows place p bytes) is (before d)) push name)

-- the root was reached
pub behind_ends : (rows : List Row) (place at : ℕ) (d : Row) (bytes : List ℕ) → ((e : Row) → IsBehind rows place (get_or rows at e).parent bytes) → (get_or rows at d).parent ≡ None → reverse bytes ≡ path_at (paths_of rows) place
behind_ends rows place at d bytes before is = sym (subst (λ (p : Option ℕ). IsBehind rows place p bytes) is (before d))
