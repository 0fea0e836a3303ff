-- Maps to files that are lent, as maps to bytes.
use Rattle.std.proofs.Common.{◌≡◌, ◌≤◌, ◌+◌, ℕ, suc, Bool, true, false, cond, ◌&&◌, T, List, [], ◌∷◌, ◌++◌, drop, map, length, Option, Some, None, refl, sym, ap, ◌∙◌, subst, arith}
use Rattle.std.specs.Prelude.{◌||◌, nat_lt}
use Rattle.std.specs.Borrow.{Bor}
use Rattle.std.specs.List.{AllByRecursion}
use Rattle.std.specs.declared.cmp.Ordering.{Ordering}
use Rattle.std.specs.declared.cmp.Ordering.TheVariants.{Less, Equal, Greater}
use Rattle.std.specs.Ordering.{nat_cmp, is_lt, is_eq, eq_by_cmp, ordering_reverse}
use Rattle.std.specs.Cmp.{tied_itself}
use Rattle.std.specs.Cmp.Lexicographic.{slice_cmp, nat_list_cmp_total}
use Rattle.std.specs.FinMap as named
use Rattle.std.specs.FinMap.{find, is_sorted, slice_cmp-IsAntisymmetric, nat_cmp-IsAntisymmetric}
use Rattle.std.specs.FinMap.Entries.{below_all}
use Rattle.base_types.specs.Names.{ByName}
use Rattle.base_types.proofs.NameMaps.{same_names}
use Rattle.std.specs.Prelude.{filter}
use Rattle.conf_groups.specs.Files.{Files, by_name, fits}
use Rattle.conf_groups.specs.Splicing.{is_too_large, total_bytes}
use Rattle.conf_groups.specs.Indexes.{content_at, files_at, names_of, bytes_in, HaveTheirNames, AreSmall}
use Rattle.std.proofs.lemmas.Bool.{ltb-false}
use Rattle.conf_groups.specs.declared.conf_file.ConfFile.{ConfFile}
use Rattle.conf_groups.specs.declared.limits.TheConstants.{MAX_FILES, MAX_FILE_BYTES}

abbrev Entry : Type 0
Entry = List ℕ × Bor ConfFile

abbrev by : List ℕ → List ℕ → Ordering
by = slice_cmp nat_cmp

abbrev text_in : Option (Bor ConfFile) → Option (List ℕ)
text_in None = None
text_in (Some r) = Some r.now.text

text_cond : (b : Bool) (x y : Option (Bor ConfFile)) → text_in (cond b x y) ≡ cond b (text_in x) (text_in y)
text_cond true x y = refl
text_cond false x y = refl

find_content : (q : List ℕ) (es : List Entry) → find by q (map content_at es) ≡ text_in (find by q es)
find_content q [] = refl
find_content q (e ∷ es) =
    ap (λ (o : Option (List ℕ)). cond (eq_by_cmp by q e.0) (Some e.1.now.text) o) (find_content q es)
    ∙ sym (text_cond (eq_by_cmp by q e.0) (Some e.1) (find by q es))

pub get_files : (m : ByName (Bor ConfFile)) (q : List ℕ) → named.get (files_at m) q ≡ text_in (named.get m q)
get_files m q =
    named.get-from_entries nat_list_cmp_total (map content_at (named.entries m)) q
    ∙ find_content q (named.entries m)
    ∙ ap text_in (sym (named.get-entries m q))

pub files_empty : files_at named.empty ≡ named.empty
files_empty = same_names (files_at named.empty) named.empty (λ q. get_files named.empty q ∙ ap text_in (named.get-empty by q) ∙ sym (named.get-empty by q))

pub files_insert : (m : ByName (Bor ConfFile)) (k : List ℕ) (v : Bor ConfFile) → files_at (named.insert m k v) ≡ named.insert (files_at m) k v.now.text
files_insert m k v = same_names (files_at (named.insert m k v)) (named.insert (files_at m) k v.now.text) (λ q.
    get_files (named.insert m k v) q
    ∙ ap text_in (named.get-insert nat_list_cmp_total m k v q)
    ∙ text_cond (eq_by_cmp by q k) (Some v) (named.get m q)
    ∙ ap (λ (o : Option (List ℕ)). cond (eq_by_cmp by q k) (Some v.now.text) o) (sym (get_files m q))
    ∙ sym (named.get-insert nat_list_cmp_total (files_at m) k v.now.text q))

pub files_remove : (m : ByName (Bor ConfFile)) (k : List ℕ) → files_at (named.remove m k) ≡ named.remove (files_at m) k
files_remove m k = same_names (files_at (named.remove m k)) (named.remove (files_at m) k) (λ q.
    get_files (named.remove m k) q
    ∙ ap text_in (named.get-remove nat_list_cmp_total m k q)
    ∙ text_cond (eq_by_cmp by q k) None (named.get m q)
    ∙ ap (λ (o : Option (List ℕ)). cond (eq_by_cmp by q k) None o) (sym (get_files m q))
    ∙ sym (named.get-remove nat_list_cmp_total (files_at m) k q))

-- entries of the bytes are entries of the files
length_map : (es : List Entry) → length (map content_at es) ≡ length es
length_map [] = refl
length_map (e ∷ es) = ap (λ (n : ℕ). suc n) (length_map es)

append_nil : (xs : List (List ℕ)) → xs ≡ xs ++ []
append_nil [] = refl
append_nil (x ∷ xs) = ap (λ (l : List (List ℕ)). x ∷ l) (append_nil xs)

level : (o : Ordering) → is_eq o ≡ true → o ≡ Equal
level Less h = cc
level Equal h = refl
level Greater h = cc

below_content : (x : List ℕ) (es : List Entry) → below_all by x (map content_at es) ≡ below_all by x es
below_content x [] = refl
below_content x (e ∷ es) = ap (λ (b : Bool). is_lt (by x e.0) && b) (below_content x es)

sorted_content : (es : List Entry) → is_sorted by (map content_at es) ≡ is_sorted by es
sorted_content [] = refl
sorted_content (e ∷ es) =
    ap (λ (b : Bool). b && is_sorted by (map content_at es)) (below_content e.0 es)
    ∙ ap (λ (b : Bool). below_all by e.0 es && b) (sorted_content es)

pub entries_files : (m : ByName (Bor ConfFile)) → named.entries (files_at m) ≡ map content_at (named.entries m)
entries_files m =
    let es = map content_at (named.entries m) in
    let rises : T (is_sorted by es) = subst T (sym (sorted_content (named.entries m))) (named.entries_sorted m) in
    let same : files_at m ≡ named.from_sorted es = same_names (files_at m) (named.from_sorted es) (λ q. named.get-from_entries nat_list_cmp_total es q ∙ sym (named.get-from_sorted by es q rises)) in
    ap named.entries same ∙ named.entries-from_sorted by es rises

pub len_files : (m : ByName (Bor ConfFile)) → named.len (files_at m) ≡ named.len m
len_files m =
    named.len-entries (files_at m)
    ∙ ap length (entries_files m)
    ∙ length_map (named.entries m)
    ∙ sym (named.len-entries m)

total_content : (es : List Entry) → total_bytes (map (λ e. e.1) (map content_at es)) ≡ bytes_in es
total_content [] = refl
total_content (e ∷ es) = ap (λ (n : ℕ). length e.1.now.text + n) (total_content es)

pub total_files : (m : ByName (Bor ConfFile)) → total_bytes (named.values (files_at m)) ≡ bytes_in (named.entries m)
total_files m = ap (λ (es : List (List ℕ × List ℕ)). total_bytes (map (λ e. e.1) es)) (entries_files m) ∙ total_content (named.entries m)

-- names and sizes of what is found
some_here : (v r : Bor ConfFile) → Some v ≡ Some r → v ≡ r
some_here v r h = cc

size_found : (q : List ℕ) (r : Bor ConfFile) (es : List Entry) → find by q es ≡ Some r → length r.now.text ≤ bytes_in es
size_found q r [] h = cc
size_found q r (e ∷ es) h =
    elim (eq_by_cmp by q e.0) as (λ b. cond b (Some e.1) (find by q es) ≡ Some r → length r.now.text ≤ length e.1.now.text + bytes_in es) [
      | true ↦ λ found. subst (λ (y : Bor ConfFile). length y.now.text ≤ length e.1.now.text + bytes_in es) (some_here e.1 r found) (omega arith)
      | false ↦ λ found. let more = size_found q r es found in omega (arith, more)
    ] h

right_of : (a b : Bool) → (a || b) ≡ false → b ≡ false
right_of true b h = cc
right_of false b h = h

pub small_enough : (m : ByName (Bor ConfFile)) → is_too_large (files_at m) ≡ false → AreSmall m
small_enough m h q r found =
    let total = total_bytes (named.values (files_at m)) in
    let few : nat_lt MAX_FILE_BYTES total ≡ false = right_of (nat_lt MAX_FILES (named.len (files_at m))) (nat_lt MAX_FILE_BYTES total) h in
    let under : total ≤ MAX_FILE_BYTES = ltb-false MAX_FILE_BYTES total few in
    let same : total ≡ bytes_in (named.entries m) = total_files m in
    let here : length r.now.text ≤ bytes_in (named.entries m) = size_found q r (named.entries m) (sym (named.get-entries m q) ∙ found) in
    omega (arith, here, same, under)

none_there : (r : Bor ConfFile) (q : List ℕ) → named.get (named.empty {X = Bor ConfFile} {R = by}) q ≡ Some r → ⊥
none_there r q h = let clash : None ≡ Some r = sym (named.get-empty by q) ∙ h in cc

pub names_empty : HaveTheirNames named.empty
names_empty q r h = absurd (none_there r q h)

eq_key : (q k : List ℕ) → eq_by_cmp by q k ≡ true → k ≡ q
eq_key q k h = sym (slice_cmp-IsAntisymmetric nat_cmp-IsAntisymmetric q k (level (by q k) h))

pub names_insert : (m : ByName (Bor ConfFile)) (k : List ℕ) (v : Bor ConfFile) → v.now.name ≡ k → HaveTheirNames m → HaveTheirNames (named.insert m k v)
names_insert m k v own all q r h =
    elim (eq_by_cmp by q k) as (λ b. eq_by_cmp by q k ≡ b → cond b (Some v) (named.get m q) ≡ Some r → r.now.name ≡ q) [
      | true ↦ λ tied found. ap (λ (y : Bor ConfFile). y.now.name) (sym (some_here v r found)) ∙ own ∙ eq_key q k tied
      | false ↦ λ other found. all q r found
    ] refl (sym (named.get-insert nat_list_cmp_total m k v q) ∙ h)

found_before : (m : ByName (Bor ConfFile)) (k q : List ℕ) (r : Bor ConfFile) → named.get (named.remove m k) q ≡ Some r → named.get m q ≡ Some r
found_before m k q r h =
    elim (eq_by_cmp by q k) as (λ b. cond b None (named.get m q) ≡ Some r → named.get m q ≡ Some r) [
      | true ↦ λ found. cc
      | false ↦ λ found. found
    ] (sym (named.get-remove nat_list_cmp_total m k q) ∙ h)

pub names_remove : (m : ByName (Bor ConfFile)) (k : List ℕ) → HaveTheirNames m → HaveTheirNames (named.remove m k)
names_remove m k all q r h = all q r (found_before m k q r h)

pub small_remove : (m : ByName (Bor ConfFile)) (k : List ℕ) → AreSmall m → AreSmall (named.remove m k)
small_remove m k all q r h = all q r (found_before m k q r h)

-- each entry is found at its key
both_first : (a b : Bool) → T (a && b) → T a
both_first true b h = tt
both_first false b h = absurd h

both_second : (a b : Bool) → T (a && b) → T b
both_second true b h = h
both_second false b h = absurd h

below : (o : Ordering) → T (is_lt o) → o ≡ Less
below Less h = refl
below Equal h = absurd h
below Greater h = absurd h

not_tied : (a b : List ℕ) → T (is_lt (by a b)) → eq_by_cmp by b a ≡ false
not_tied a b h = ap is_eq (nat_list_cmp_total.antisymm b a ∙ ap ordering_reverse (below (by a b) h))

abbrev AreFound : List Entry → List Entry → Type 0
AreFound es fs = AllByRecursion (λ (f : Entry). find by f.0 es ≡ Some f.1) fs

found_after : (e : Entry) (es fs : List Entry) → T (below_all by e.0 fs) → AreFound es fs → AreFound (e ∷ es) fs
found_after e es [] low all = tt
found_after e es (f ∷ fs) low all = (
  ap (λ (b : Bool). cond b (Some e.1) (find by f.0 es)) (not_tied e.0 f.0 (both_first _ _ low)) ∙ all.0,
  found_after e es fs (both_second _ _ low) all.1,
)

all_found : (es : List Entry) → T (is_sorted by es) → AreFound es es
all_found [] h = tt
all_found (e ∷ es) h = (
  ap (λ (b : Bool). cond b (Some e.1) (find by e.0 es)) (ap is_eq (tied_itself nat_list_cmp_total e.0)),
  found_after e es es (both_first _ _ h) (all_found es (both_second _ _ h)),
)

names_are_keys : (m : ByName (Bor ConfFile)) → HaveTheirNames m → (es : List Entry) → AreFound (named.entries m) es → map (λ (e : Entry). e.0) es ≡ names_of es
names_are_keys m own [] all = refl
names_are_keys m own (e ∷ es) all =
    ap (λ (name : List ℕ). name ∷ map (λ (f : Entry). f.0) es) (sym (own e.0 e.1 (named.get-entries m e.0 ∙ all.0)))
    ∙ ap (λ (names : List (List ℕ)). e.1.now.name ∷ names) (names_are_keys m own es all.1)

keys_content : (es : List Entry) → map (λ (e : List ℕ × List ℕ). e.0) (map content_at es) ≡ map (λ (e : Entry). e.0) es
keys_content [] = refl
keys_content (e ∷ es) = ap (λ (names : List (List ℕ)). e.0 ∷ names) (keys_content es)

pub keys_files : (m : ByName (Bor ConfFile)) → HaveTheirNames m → named.keys (files_at m) ≡ names_of (named.entries m)
keys_files m own =
    ap (λ (es : List (List ℕ × List ℕ)). map (λ (e : List ℕ × List ℕ). e.0) es) (entries_files m)
    ∙ keys_content (named.entries m)
    ∙ names_are_keys m own (named.entries m) (all_found (named.entries m) (named.entries_sorted m))

pub name_found : (m : ByName (Bor ConfFile)) (q : List ℕ) (r : Bor ConfFile) → HaveTheirNames m → named.get m q ≡ Some r → r.now.name ≡ q
name_found m q r own h = own q r h

pub small_found : (m : ByName (Bor ConfFile)) (q : List ℕ) (r : Bor ConfFile) → AreSmall m → named.get m q ≡ Some r → length r.now.text ≤ MAX_FILE_BYTES
small_found m q r small h = small q r h

-- an index without files
pub new_files : (m : ByName (Bor ConfFile)) → m ≡ named.empty → files_at m ≡ named.empty
new_files m h = ap files_at h ∙ files_empty

pub new_names : (m : ByName (Bor ConfFile)) → m ≡ named.empty → HaveTheirNames m
new_names m h = subst HaveTheirNames (sym h) names_empty

pub none_left : (list : List ConfFile) → by_name (drop (length list) list) ≡ named.empty
none_left [] = refl
none_left (f ∷ list) = none_left list

-- the names that a pattern fits, once no entry is left
pub fitting_names : (pattern : List ℕ) (m : ByName (Bor ConfFile)) (files : Files) (es left : List Entry) (found : List (List ℕ)) → HaveTheirNames m → files ≡ files_at m → es ≡ named.entries m → left ≡ []
    → filter (fits pattern) (names_of es) ≡ found ++ filter (fits pattern) (names_of left) → found ≡ filter (fits pattern) (named.keys files)
fitting_names pattern m files es left found own view e none h =
    append_nil found
    ∙ ap (λ (fs : List Entry). found ++ filter (fits pattern) (names_of fs)) (sym none)
    ∙ sym h
    ∙ ap (λ (fs : List Entry). filter (fits pattern) (names_of fs)) e
    ∙ ap (filter (fits pattern)) (sym (keys_files m own))
    ∙ ap (λ (fs : Files). filter (fits pattern) (named.keys fs)) (sym view)
