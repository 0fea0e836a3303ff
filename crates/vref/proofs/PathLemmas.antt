-- What a walk has found when nothing is left to do.
use Rattle.std.proofs.Common.{◌≡◌, ℕ, ◌<◌, Bool, true, false, cond, List, [], ◌∷◌, ◌++◌, map, length, Option, None, Some, Contains, All, refl, sym, ◌∙◌, ap, subst, arith, ◌⊎◌, inl, inr, append_assoc, append-nil, get_or}
use Rattle.std.specs.Option.{option_map_or}
use Rattle.std.specs.List.{AllByRecursion, filter}
use Rattle.std.specs.List.Sorted.{IsStrictlySortedBy}
use Rattle.std.specs.Ordering.{nat_cmp}
use Rattle.std.specs.declared.cmp.Ordering.TheVariants.{Less}
use Rattle.std.specs.Cmp.Lexicographic.{slice_cmp}
use Rattle.std.proofs.lemmas.Cmp.{nat_list_cmp_total, eq_by_cmp_equiv}
use Rattle.std.proofs.lemmas.List.{get_or_default}
use Rattle.std.proofs.lemmas.List.Elements.{All-contains}
use Rattle.std.proofs.lemmas.Option.{slice_get-get_or}
use Rattle.std.specs.Ordering.{eq_by_cmp}
use Rattle.std.proofs.lemmas.Map.Keys.{IsDistinct-from_sorted}
use Rattle.std.proofs.lemmas.Map.Made.{length-le_from_is_member}
use Rattle.std.proofs.lemmas.Map.Text.{is_eq-slice_cmp}
use Rattle.std.proofs.lemmas.Map.Views.{Contains-from_any, list_any-from_Contains}
use Rattle.ref_store.specs.RefName.{pieces}
use Rattle.ref_store.proofs.ObjectLemmas.{same_bytes}
use Rattle.ancestry.proofs.ListLemmas.{contains_none, contains_map, map_contains, contains_filter, filter_contains}
use Rattle.git_object.specs.Content.{Content}
use Rattle.git_object.specs.Tree.{Entry}
use Rattle.git_object.specs.declared.object_id.ObjectId.{ObjectId}
use Rattle.vref.specs.Rows.{Name, IsName, Path, entry_at, row, row_at}
use Rattle.vref.specs.Paths.{Ascend, Differs, DifferTooMuch, IsChanged, Lists, TellsOfTrees, is_listed}
use Rattle.vref.specs.PathTable.{path_at, front_at, paths_of, IsWithin, is_listed_at, listed_paths}
use Rattle.vref.specs.Walk.{IsBefore, AreInOrder, tree_at, IsRight, IsCompared, IsWalking}
use Rattle.vref.specs.declared.path_table.Row.{Row}
use Rattle.vref.specs.declared.paths.Paths.TheVariants.{Listed}
use Rattle.vref.specs.declared.walk.Task.TheVariants.{Put}
use Rattle.vref.specs.declared.walk.TheConstants.{MAX_PATH, MAX_ROWS}
use Rattle.vref.proofs.RowLemmas.{same_below, same_pieces, some_piece, pieces_name, row_at-push, entry_at-name}
use Rattle.vref.proofs.LawLemmas.{pieces_joined}
use Rattle.vref.proofs.TableLemmas.{length_paths}
use Rattle.vref.proofs.WalkLemmas.{no_row, zip_at}

-- paths of one order are one
tied : (p q : Path) → eq_by_cmp (slice_cmp nat_cmp) p q ≡ true → p ≡ q
tied p q is = same_bytes p q (sym (is_eq-slice_cmp p q) ∙ is)

-- ---- one tree

pub tells_one : (objects : List Content) (old new : Option ObjectId) (paths : List Path) → old ≡ new → paths ≡ [] → TellsOfTrees objects old new (Listed paths)
unfolding IsStrictlySortedBy
tells_one objects old new paths same none = (
  by_much,
  subst (λ (ps : List Path). Lists (IsChanged objects old new) ps) (sym none)
      (record { ascend = tt; are_those = λ path. ((λ c. absurd (contains_none path c)), (λ is. absurd (is.0 (ap (λ (tree : Option ObjectId). row objects tree path) same)))) }),
)
  where
    by_much : DifferTooMuch objects old new → ⊥
    by_much (inl is) = is.2 0 [] (omega (arith, is.3)) (ap (λ (tree : Option ObjectId). row objects tree (get_or is.0 0 [])) same)
    by_much (inr is) = is.1 (ap (λ (tree : Option ObjectId). row objects tree is.0) same)

-- ---- the listed ones, in order

listed_below : (paths : List Path) (p : ℕ → Bool) (k : ℕ) (order : List ℕ) → AllByRecursion (IsBefore (path_at paths k, false)) (map (λ (j : ℕ). (path_at paths j, false)) order) → AllByRecursion (λ q. slice_cmp nat_cmp (path_at paths k) q ≡ Less) (map (path_at paths) (filter p order))
listed_below paths p k [] all = tt
listed_below paths p k (j ∷ order) all = by_test (listed_below paths p k order all.1) (p j)
  where
    by_test : AllByRecursion (λ q. slice_cmp nat_cmp (path_at paths k) q ≡ Less) (map (path_at paths) (filter p order)) → (b : Bool) → AllByRecursion (λ q. slice_cmp nat_cmp (path_at paths k) q ≡ Less) (map (path_at paths) (cond b (j ∷ filter p order) (filter p order)))
    by_test rest true = (all.0 (path_at paths k) (path_at paths j) refl refl, rest)
    by_test rest false = rest

pub listed_ascend : (paths : List Path) (p : ℕ → Bool) (order : List ℕ) → AreInOrder (map (λ (j : ℕ). (path_at paths j, false)) order) → IsStrictlySortedBy (slice_cmp nat_cmp) (map (path_at paths) (filter p order))
unfolding IsStrictlySortedBy
listed_ascend paths p [] up = tt
listed_ascend paths p (j ∷ order) up = by_test (listed_ascend paths p order up.1) (p j)
  where
    by_test : IsStrictlySortedBy (slice_cmp nat_cmp) (map (path_at paths) (filter p order)) → (b : Bool) → IsStrictlySortedBy (slice_cmp nat_cmp) (map (path_at paths) (cond b (j ∷ filter p order) (filter p order)))
    by_test rest true = (listed_below paths p j order up.0, rest)
    by_test rest false = rest

listed_is : (rows : List Row) (k : ℕ) → k < length rows → is_listed_at rows k ≡ (get_or rows k no_row).listed
listed_is rows k below = ap (λ (o : Option Row). option_map_or (λ r. r.listed) o false) (slice_get-get_or rows k no_row below)

module _ (objects : List Content) (old new : Option ObjectId) (rows : List Row) (order : List ℕ) (w : IsWalking objects old new rows order []) where
  abbrev DiffersAt : List Name → Type 0
  DiffersAt names = ¬ (row_at objects old names ≡ row_at objects new names)

  -- a path of these names has a row
  abbrev IsFoundAt : List Name → Type 0
  IsFoundAt names = (path : Path) × Contains (paths_of rows) path × (pieces path ≡ names)

  abbrev Reached : List Name → Type 0
  Reached names = (names ≡ []) ⊎ IsFoundAt names

  place_of : (path : Path) → Contains (paths_of rows) path → (k : ℕ) × (k < length rows) × (path_at (paths_of rows) k ≡ path)
  place_of path there =
      let below : there.0 < length rows = let e = length_paths rows in let f = there.1 in omega (arith, e, f) in
      (there.0, below, get_or_default (paths_of rows) there.0 [] path there.1 ∙ there.2)

  right_at : (k : ℕ) → k < length rows → IsRight objects old new (path_at (paths_of rows) k) (get_or rows k no_row)
  right_at k below = zip_at (IsRight objects old new) (paths_of rows) rows k [] no_row w.right below

  compared : (place : Option ℕ) → IsWithin (length rows) place → IsCompared objects old new (paths_of rows) place
  compared place within =
      elim (w.closed place within) [
        | inl there ↦ absurd (contains_none _ there)
        | inr done ↦ done
      ]

  -- a name in a directory where the trees differ
  name_at : (names : List Name) (name : Name) → DiffersAt (names ++ name ∷ []) → IsName name
  name_at names name differs = by_old (entry_at objects (tree_at objects old names) name) refl (entry_at objects (tree_at objects new names) name) refl
    where
      by_old : (o : Option Entry) → entry_at objects (tree_at objects old names) name ≡ o → (n : Option Entry) → entry_at objects (tree_at objects new names) name ≡ n → IsName name
      by_old (Some e) o n f = entry_at-name objects (tree_at objects old names) name e o
      by_old None o (Some e) f = entry_at-name objects (tree_at objects new names) name e f
      by_old None o None f = absurd (differs (row_at-push objects old names name ∙ o ∙ sym (row_at-push objects new names name ∙ f)))

  found_in : (place : Option ℕ) (names : List Name) (name : Name) → IsWithin (length rows) place → pieces (front_at (paths_of rows) place ++ name) ≡ names ++ name ∷ [] → IsName name → DiffersAt (names ++ name ∷ []) → IsFoundAt (names ++ name ∷ [])
  found_in place names name within parts is differs =
      (front_at (paths_of rows) place ++ name, compared place within name is (λ same. differs (sym (ap (row_at objects old) parts) ∙ same ∙ ap (row_at objects new) parts)), parts)

  compared_all : (names : List Name) (name : Name) → Reached names → DiffersAt (names ++ name ∷ []) → IsFoundAt (names ++ name ∷ [])
  compared_all names name (inl root) differs =
      let is = name_at names name differs in
      found_in None names name tt (pieces_name name is ∙ ap (λ (ns : List Name). ns ++ name ∷ []) (sym root)) is differs
  compared_all names name (inr found) differs =
      let is = name_at names name differs in
      let place = place_of found.0 found.1 in
      found_in (Some place.0) names name place.1
      (ap (λ (p : Path). pieces ((p ++ 47 ∷ []) ++ name)) place.2 ∙ ap pieces (append_assoc found.0 (47 ∷ []) name) ∙ pieces_joined found.0 name ∙ ap (λ (ns : List Name). pieces found.0 ++ ns) (pieces_name name is) ∙ ap (λ (ns : List Name). ns ++ name ∷ []) found.2) is differs

  all_found : (more names : List Name) (next : Name) → Reached names → DiffersAt (names ++ next ∷ more) → IsFoundAt (names ++ next ∷ more)
  all_found [] names next reached differs = compared_all names next reached differs
  all_found (second ∷ more) names next reached differs =
      let parts : (names ++ next ∷ []) ++ second ∷ more ≡ names ++ next ∷ second ∷ more = append_assoc names (next ∷ []) (second ∷ more) in
      let below : DiffersAt ((names ++ next ∷ []) ++ second ∷ more) = subst (λ (ns : List Name). DiffersAt ns) (sym parts) differs in
      let here = compared_all names next reached (λ same. below (same_below objects old new names next second more same)) in
      subst (λ (ns : List Name). IsFoundAt ns) parts (all_found more (names ++ next ∷ []) second (inr here) below)

  -- each path at which they differ has a row
  found_each : (path : Path) → Differs objects old new path → Contains (paths_of rows) path
  found_each path differs =
      let parts = some_piece path in
      let found = all_found parts.1 [] parts.0 (inl refl) (subst (λ (ns : List Name). DiffersAt ns) parts.2 differs) in
      subst (λ (p : Path). Contains (paths_of rows) p) (same_pieces found.0 path (found.2 ∙ sym parts.2)) found.1

  few : (paths : List Path) → Ascend paths → All (Differs objects old new) paths → MAX_ROWS < length paths → ⊥
  few paths up all many =
      let fits = length-le_from_is_member (eq_by_cmp_equiv nat_list_cmp_total) paths (paths_of rows) (IsDistinct-from_sorted (slice_cmp nat_cmp) paths up)
      (λ q is. list_any-from_Contains (eq_by_cmp_equiv nat_list_cmp_total) q (paths_of rows)
      (found_each q (All-contains (Differs objects old new) paths q all (Contains-from_any tied q paths is)))) in
      omega (arith, many, fits, w.few, length_paths rows)

  short : (path : Path) → Differs objects old new path → MAX_PATH < length path → ⊥
  short path differs long =
      let place = place_of path (found_each path differs) in
      let right = right_at place.0 place.1 in
      let e = ap (length {A = ℕ}) place.2 in
      omega (arith, long, e, right.short, right.length_is)

  not_too_much : ¬ DifferTooMuch objects old new
  not_too_much (inl is) = few is.0 is.1 is.2 is.3
  not_too_much (inr is) = short is.0 is.1 is.2

  changed : (path : Path) → Contains (listed_paths rows order) path → IsChanged objects old new path
  changed path c =
      let place = map_contains (path_at (paths_of rows)) (filter (is_listed_at rows) order) path c in
      let passes = filter_contains (is_listed_at rows) order place.0 place.1 in
      let below : place.0 < length rows = All-contains (λ k. k < length rows) order place.0 w.order_within passes.0 in
      let right = right_at place.0 below in
      subst (λ (p : Path). IsChanged objects old new p) place.2 (right.differs, sym right.listed_is ∙ sym (listed_is rows place.0 below) ∙ passes.1)

  in_list : (path : Path) → IsChanged objects old new path → Contains (listed_paths rows order) path
  in_list path is =
      let place = place_of path (found_each path is.0) in
      let right = right_at place.0 place.1 in
      let listed : is_listed_at rows place.0 ≡ true = listed_is rows place.0 place.1 ∙ right.listed_is ∙ ap (is_listed objects old new) place.2 ∙ is.1 in
      let put : Contains order place.0 = by_place place.0 (w.each place.0 place.1) in
      subst (λ (p : Path). Contains (listed_paths rows order) p) place.2 (contains_map (path_at (paths_of rows)) (filter (is_listed_at rows) order) place.0 (contains_filter (is_listed_at rows) order place.0 put listed))
    where
      by_place : (k : ℕ) → Contains order k ⊎ Contains [] (Put k) → Contains order k
      by_place k (inl there) = there
      by_place k (inr there) = absurd (contains_none _ there)

  -- what is told then
  pub tells : (paths : List Path) → paths ≡ listed_paths rows order → TellsOfTrees objects old new (Listed paths)
  tells paths is = (
    not_too_much,
    subst (λ (ps : List Path). Lists (IsChanged objects old new) ps) (sym is) (record {
      ascend = listed_ascend (paths_of rows) (is_listed_at rows) order (subst AreInOrder (append-nil (map (λ (j : ℕ). (path_at (paths_of rows) j, false)) order)) w.in_order);
      are_those = λ path. (changed path, in_list path);
    }),
  )
