-- The files that were found, by their names and in a list.
use Rattle.std.proofs.Common.{◌≡◌, ℕ, Bool, true, false, cond, ◌&&◌, T, nat_le, List, [], ◌∷◌, ◌++◌, length, map, Option, None, Some, Contains, refl, sym, ◌∙◌, ap, subst, ◌⊎◌, inl, inr}
use Rattle.std.specs.List.{AllByRecursion}
use Rattle.std.specs.List.Sorted.{IsStrictlySortedBy}
use Rattle.std.specs.declared.cmp.Ordering.{Ordering}
use Rattle.std.specs.declared.cmp.Ordering.TheVariants.{Less, Equal, Greater}
use Rattle.std.specs.Ordering.{nat_cmp, is_eq, is_lt, eq_by_cmp, ordering_reverse}
use Rattle.std.specs.Cmp.{eq_by_cmp_equiv}
use Rattle.std.specs.Cmp.Lexicographic.{slice_cmp, nat_list_cmp_total}
use Rattle.std.specs.FinMap as named
use Rattle.std.specs.FinMap.{find, is_sorted}
use Rattle.std.specs.FinMap.Entries.{below_all}
use Rattle.std.proofs.lemmas.List.Elements.{Contains-append_left, Contains-push, Contains-push_cases}
use Rattle.base_types.proofs.NameMaps.{same_names}
use Rattle.ref_store.specs.RefName.{pieces}
use Rattle.ref_store.specs.Objects.{first_named}
use Rattle.ancestry.proofs.ListLemmas.{contains_none, contains_here, contains_there, contains_cases, contains_map, map_contains}
use Rattle.git_object.specs.Content.{Content}
use Rattle.git_object.specs.Tree.{Entry}
use Rattle.git_object.specs.declared.object_id.ObjectId.{ObjectId}
use Rattle.vref.specs.Rows.{Path, row}
use Rattle.conf_groups.specs.Files.{Files, by_name, is_seen}
use Rattle.conf_groups.specs.declared.conf_file.ConfFile.{ConfFile}
use Rattle.conf_groups.specs.declared.conf_file.TheConstants.{MAX_FILE_NAME}
use Rattle.policy_swap.specs.Conf.{AreFiles, HasRow, file_at, file_of, is_conf_mode, text_in}
use Rattle.policy_swap.specs.Rows.{AreRows, IsRow, places}
use Rattle.policy_swap.specs.Found.{AreGathered, FindsFiles, HasFile, conf_file, listed}
use Rattle.policy_swap.specs.declared.rows.Found.{Found}
use Rattle.policy_swap.specs.declared.rows.Row.{Row}
use Rattle.policy_swap.specs.declared.rows.Row.TheVariants.{Directory, File, Other}
use Rattle.policy_swap.proofs.RowLemmas.{same_pieces}
use Rattle.policy_swap.proofs.ListLemmas.{tied, zip_first, zip_second}

abbrev pub by : List ℕ → List ℕ → Ordering
by = slice_cmp nat_cmp

itself : (q : List ℕ) → eq_by_cmp by q q ≡ true
itself q = (eq_by_cmp_equiv nat_list_cmp_total).refl q

-- ---- files among rows

pub gathered_none : (files : Files) → files ≡ named.empty → AreGathered [] files
gathered_none files none = record {
  sound = λ path text is. let clash : None ≡ Some text = sym (named.get-empty by path) ∙ ap (λ (m : Files). named.get m path) (sym none) ∙ is in absurd cc;
  all = λ path text c. absurd (contains_none _ c);
}

pub gathered_file : (rows : List Row) (files more : Files) (found : Found) → more ≡ named.insert files found.path found.body → AreGathered rows files → AreGathered (rows ++ File found ∷ []) more
gathered_file rows files more found is are = record {
  sound = λ path text got. by_name_of path text (eq_by_cmp by path found.path) refl (sym (got_at path) ∙ got);
  all = λ path text c none. by_place path text (Contains-push_cases rows (File found) (File (record { path = path; body = text })) c) (sym (got_at path) ∙ none);
}
  where
    got_at : (path : Path) → named.get more path ≡ cond (eq_by_cmp by path found.path) (Some found.body) (named.get files path)
    got_at path = ap (λ (m : Files). named.get m path) is ∙ named.get-insert nat_list_cmp_total files found.path found.body path

    by_name_of : (path : Path) (text : List ℕ) (b : Bool) → eq_by_cmp by path found.path ≡ b → cond b (Some found.body) (named.get files path) ≡ Some text → HasFile (rows ++ File found ∷ []) path text
    by_name_of path text true same got =
        let path_is : found.path ≡ path = sym (tied path found.path same) in
        let text_is : found.body ≡ text = cc in
        subst (λ (r : Row). Contains (rows ++ File found ∷ []) r) (λ i. File (record { path = path_is i; body = text_is i })) (Contains-push rows (File found))
    by_name_of path text false other got = Contains-append_left rows (File found ∷ []) (File (record { path = path; body = text })) (are.sound path text got)

    by_place : (path : Path) (text : List ℕ) → HasFile rows path text ⊎ (File found ≡ File (record { path = path; body = text })) → cond (eq_by_cmp by path found.path) (Some found.body) (named.get files path) ≡ None → ⊥
    by_place path text (inl there) none = by_test (eq_by_cmp by path found.path) none
      where
        by_test : (b : Bool) → cond b (Some found.body) (named.get files path) ≡ None → ⊥
        by_test true none = absurd cc
        by_test false none = are.all path text there none
    by_place path text (inr same) none =
        let path_is : found ≡ record { path = path; body = text } = cc in
        let got : cond (eq_by_cmp by path found.path) (Some found.body) (named.get files path) ≡ Some found.body =
        ap (λ (b : Bool). cond b (Some found.body) (named.get files path)) (ap (λ (f : Found). eq_by_cmp by path f.path) path_is ∙ itself path) in
        let clash : Some found.body ≡ None = sym got ∙ none in
        absurd cc

pub gathered_other : (rows : List Row) (files : Files) (r : Row) → ((found : Found) → r ≡ File found → ⊥) → AreGathered rows files → AreGathered (rows ++ r ∷ []) files
gathered_other rows files r other are = record {
  sound = λ path text got. Contains-append_left rows (r ∷ []) (File (record { path = path; body = text })) (are.sound path text got);
  all = λ path text c. elim (Contains-push_cases rows r (File (record { path = path; body = text })) c) [
    | inl there ↦ are.all path text there
    | inr same ↦ absurd (other (record { path = path; body = text }) same)
  ];
}

module _ (objects : List Content) (tree : Option ObjectId) where
  -- each name is found that is a file's
  pub finds : (rows : List Row) (paths : List Path) (files : Files) → AreRows objects tree rows paths → AreGathered rows files → (name : Path) → named.get files name ≡ file_at objects tree name
  finds rows paths files are gathered name = by_found (named.get files name) refl
    where
      by_row : (r : Row) (text : List ℕ) → named.get files name ≡ None → file_at objects tree name ≡ Some text → Contains rows r → IsRow objects tree (pieces name) r → ⊥
      by_row (Directory folder) text none e c right = let clash : Some text ≡ None = sym e ∙ right.2 name refl in absurd cc
      by_row (File found) text none e c right =
          let same : found.path ≡ name = same_pieces found.path name right.1 in
          gathered.all name found.body (subst (λ (p : Path). Contains rows (File (record { path = p; body = found.body }))) same c) none
      by_row Other text none e c right = let clash : Some text ≡ None = sym e ∙ right.1 name refl in absurd cc

      by_file : (o : Option (List ℕ)) → file_at objects tree name ≡ o → named.get files name ≡ None → None ≡ file_at objects tree name
      by_file None e none = sym e
      by_file (Some text) e none =
          let there : HasRow objects tree name = λ nothing. let clash : Some text ≡ None = sym e ∙ ap (file_of objects name) nothing in absurd cc in
          let at = zip_first (IsRow objects tree) (places paths) rows (pieces name) are.each (contains_there [] (map pieces paths) (pieces name) (contains_map pieces paths name (are.all name there))) in
          absurd (by_row at.0 text none e at.1 at.2)

      by_found : (o : Option (List ℕ)) → named.get files name ≡ o → named.get files name ≡ file_at objects tree name
      by_found None is = is ∙ by_file (file_at objects tree name) refl is
      by_found (Some text) is =
          let at = zip_second (IsRow objects tree) (places paths) rows (File (record { path = name; body = text })) are.each (gathered.sound name text is) in
          is ∙ sym at.2.2

  -- a file's name isn't too long
  short_name : (name : Path) (o : Option Entry) (text : List ℕ) → file_of objects name o ≡ Some text → nat_le (length name) MAX_FILE_NAME ≡ true
  short_name name None text is = absurd cc
  short_name name (Some e) text is = by_mode (is_conf_mode e.mode) (nat_le (length name) MAX_FILE_NAME) is
    where
      by_mode : (a b : Bool) → cond (a && b) (text_in (first_named objects e.id)) None ≡ Some text → b ≡ true
      by_mode true true is = refl
      by_mode true false is = absurd cc
      by_mode false b is = absurd cc

-- ---- sorted entries

both_first : (a b : Bool) → T (a && b) → T a
both_first true b h = tt
both_first false b h = absurd h

both_second : (a b : Bool) → T (a && b) → T b
both_second true b h = h
both_second false b h = absurd h

less : (o : Ordering) → T (is_lt o) → o ≡ Less
less Less h = refl
less Equal h = absurd h
less Greater h = absurd h

abbrev pub Pair : Type 0
Pair = List ℕ × List ℕ

not_tied : (a b : List ℕ) → T (is_lt (by a b)) → eq_by_cmp by b a ≡ false
not_tied a b h = ap is_eq (nat_list_cmp_total.antisymm b a ∙ ap ordering_reverse (less (by a b) h))

below_each : (x : List ℕ) (es : List Pair) (e : Pair) → T (below_all by x es) → Contains es e → T (is_lt (by x e.0))
below_each x [] e all c = absurd (contains_none e c)
below_each x (f ∷ es) e all c =
    elim (contains_cases f es e c) [
      | inl same ↦ subst (λ (g : Pair). T (is_lt (by x g.0))) same (both_first _ _ all)
      | inr there ↦ below_each x es e (both_second _ _ all) there
    ]

pub found_each : (es : List Pair) (e : Pair) → T (is_sorted by es) → Contains es e → find by e.0 es ≡ Some e.1
found_each [] e sorted c = absurd (contains_none e c)
found_each (f ∷ es) e sorted c =
    elim (contains_cases f es e c) [
      | inl same ↦ ap (λ (b : Bool). cond b (Some f.1) (find by e.0 es)) (ap (λ (g : Pair). eq_by_cmp by e.0 g.0) same ∙ itself e.0) ∙ ap (λ (g : Pair). Some g.1) same
      | inr there ↦
          ap (λ (b : Bool). cond b (Some f.1) (find by e.0 es)) (not_tied f.0 e.0 (below_each f.0 es e (both_first _ _ sorted) there))
          ∙ found_each es e (both_second _ _ sorted) there
    ]

pub contains_found : (es : List Pair) (q text : List ℕ) → find by q es ≡ Some text → Contains es (q, text)
contains_found [] q text is = absurd cc
contains_found (e ∷ es) q text is = by_test (contains_found es q text) (eq_by_cmp by q e.0) refl is
  where
    by_test : (find by q es ≡ Some text → Contains es (q, text)) → (b : Bool) → eq_by_cmp by q e.0 ≡ b → cond b (Some e.1) (find by q es) ≡ Some text → Contains (e ∷ es) (q, text)
    by_test rest true same is =
        let name_is : e.0 ≡ q = sym (tied q e.0 same) in
        let text_is : e.1 ≡ text = cc in
        subst (λ (f : Pair). Contains (e ∷ es) f) (λ i. (name_is i, text_is i)) (contains_here e es)
    by_test rest false other is = contains_there e es (q, text) (rest is)

abbrev name_of : ConfFile → List ℕ
name_of f = f.name

below_names : (x : List ℕ) (es : List Pair) → T (below_all by x es) → AllByRecursion (λ y. by x y ≡ Less) (map name_of (listed es))
below_names x [] all = tt
below_names x (e ∷ es) all = (less (by x e.0) (both_first _ _ all), below_names x es (both_second _ _ all))

names_ascend : (es : List Pair) → T (is_sorted by es) → IsStrictlySortedBy by (map name_of (listed es))
unfolding IsStrictlySortedBy
names_ascend [] sorted = tt
names_ascend (e ∷ es) sorted = (below_names e.0 es (both_first _ _ sorted), names_ascend es (both_second _ _ sorted))

-- ---- files by name, of a list

by_sound : (list : List ConfFile) (q text : List ℕ) → named.get (by_name list) q ≡ Some text → Contains list (record { name = q; text = text })
by_sound [] q text is = let clash : None ≡ Some text = sym (named.get-empty by q) ∙ is in absurd cc
by_sound (f ∷ list) q text is = by_seen (by_sound list q text) (is_seen f) is
  where
    by_test : (named.get (by_name list) q ≡ Some text → Contains list (record { name = q; text = text })) → (b : Bool) → eq_by_cmp by q f.name ≡ b → cond b (Some f.text) (named.get (by_name list) q) ≡ Some text → Contains (f ∷ list) (record { name = q; text = text })
    by_test rest true same is =
        let name_is : f.name ≡ q = sym (tied q f.name same) in
        let text_is : f.text ≡ text = cc in
        subst (λ (g : ConfFile). Contains (f ∷ list) g) (λ i. record { name = name_is i; text = text_is i }) (contains_here f list)
    by_test rest false other is = contains_there f list (record { name = q; text = text }) (rest is)

    by_seen : (named.get (by_name list) q ≡ Some text → Contains list (record { name = q; text = text })) → (b : Bool) → named.get (cond b (named.insert (by_name list) f.name f.text) (by_name list)) q ≡ Some text → Contains (f ∷ list) (record { name = q; text = text })
    by_seen rest true is = by_test rest (eq_by_cmp by q f.name) refl (sym (named.get-insert nat_list_cmp_total (by_name list) f.name f.text q) ∙ is)
    by_seen rest false is = contains_there f list (record { name = q; text = text }) (rest is)

by_all : (list : List ConfFile) (g : ConfFile) → Contains list g → is_seen g ≡ true → named.get (by_name list) g.name ≡ None → ⊥
by_all [] g c seen none = contains_none g c
by_all (f ∷ list) g c seen none = by_seen (by_all list g) (is_seen f) refl (contains_cases f list g c) none
  where
    by_test : (named.get (by_name list) g.name ≡ None → ⊥) ⊎ (f ≡ g) → (b : Bool) → eq_by_cmp by g.name f.name ≡ b → cond b (Some f.text) (named.get (by_name list) g.name) ≡ None → ⊥
    by_test here true same none = absurd cc
    by_test (inl rest) false other none = rest none
    by_test (inr same) false other none =
        let clash : true ≡ false = sym (ap (λ (h : ConfFile). eq_by_cmp by g.name h.name) same ∙ itself g.name) ∙ other in
        absurd cc

    by_seen : (Contains list g → is_seen g ≡ true → named.get (by_name list) g.name ≡ None → ⊥) → (b : Bool) → is_seen f ≡ b → (f ≡ g) ⊎ Contains list g → named.get (cond b (named.insert (by_name list) f.name f.text) (by_name list)) g.name ≡ None → ⊥
    by_seen rest true is (inl same) none = by_test (inr same) (eq_by_cmp by g.name f.name) refl (sym (named.get-insert nat_list_cmp_total (by_name list) f.name f.text g.name) ∙ none)
    by_seen rest true is (inr there) none = by_test (inl (rest there seen)) (eq_by_cmp by g.name f.name) refl (sym (named.get-insert nat_list_cmp_total (by_name list) f.name f.text g.name) ∙ none)
    by_seen rest false is (inl same) none = let clash : true ≡ false = sym seen ∙ ap is_seen (sym same) ∙ is in absurd cc
    by_seen rest false is (inr there) none = rest there seen none

module _ (objects : List Content) (tree : Option ObjectId) where
  -- a list of the files has each file by its name
  pub by_name_files : (list : List ConfFile) → AreFiles objects tree list → (q : List ℕ) → named.get (by_name list) q ≡ file_at objects tree q
  by_name_files list are q = by_found (named.get (by_name list) q) refl
    where
      by_file : (o : Option (List ℕ)) → file_at objects tree q ≡ o → named.get (by_name list) q ≡ None → None ≡ file_at objects tree q
      by_file None e none = sym e
      by_file (Some text) e none = absurd (by_all list (record { name = q; text = text }) ((are.are_those (record { name = q; text = text })).1 e) (short_name objects tree q (row objects tree q) text e) none)

      by_found : (o : Option (List ℕ)) → named.get (by_name list) q ≡ o → named.get (by_name list) q ≡ file_at objects tree q
      by_found None is = is ∙ by_file (file_at objects tree q) refl is
      by_found (Some text) is = is ∙ sym ((are.are_those (record { name = q; text = text })).0 (by_sound list q text is))

  -- the same map
  pub same_files : (list : List ConfFile) (files : Files) → AreFiles objects tree list → FindsFiles objects tree files → by_name list ≡ files
  same_files list files are find = same_names (by_name list) files (λ q. by_name_files list are q ∙ sym (find.1 q))

  -- the files that were found, in a list
  pub listed_files : (files : Files) → FindsFiles objects tree files → AreFiles objects tree (listed (named.entries files))
  listed_files files find = record {
    ascend = names_ascend (named.entries files) (named.entries_sorted files);
    are_those = λ f. (λ c. forth f (map_contains conf_file (named.entries files) f c), λ is. back f is);
  }
    where
      forth : (f : ConfFile) → (e : Pair) × Contains (named.entries files) e × (conf_file e ≡ f) → file_at objects tree f.name ≡ Some f.text
      forth f found =
          let got : named.get files found.0.0 ≡ Some found.0.1 = named.get-entries files found.0.0 ∙ found_each (named.entries files) found.0 (named.entries_sorted files) found.1 in
          subst (λ (g : ConfFile). file_at objects tree g.name ≡ Some g.text) found.2 (sym (find.1 found.0.0) ∙ got)

      back : (f : ConfFile) → file_at objects tree f.name ≡ Some f.text → Contains (listed (named.entries files)) f
      back f is = contains_map conf_file (named.entries files) (f.name, f.text) (contains_found (named.entries files) f.name f.text (sym (named.get-entries files f.name) ∙ find.1 f.name ∙ is))
