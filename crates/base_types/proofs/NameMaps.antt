-- The entries of std's ordered map as a finite map.
use Rattle.std.proofs.Common.{◌≡◌, ℕ, Bool, true, false, cond, ◌&&◌, T, List, [], ◌∷◌, length, refl, sym, ◌∙◌, ap, subst, Some, None}
use Rattle.std.specs.declared.cmp.Ordering.TheVariants.{Less}
use Rattle.std.specs.Prelude.{map}
use Rattle.std.specs.Ordering.{nat_cmp, is_lt, eq_by_cmp}
use Rattle.std.specs.Cmp.Lexicographic.{slice_cmp, nat_list_cmp_total}
use Rattle.std.specs.FinMap.{get, len, insert, remove, entries, find, is_sorted, from_entries, from_sorted, get-from_entries, get-from_sorted, get-insert, get-remove, len-entries, entries-from_sorted, same_map, same_entries_map, slice_cmp-IsAntisymmetric, nat_cmp-IsAntisymmetric}
use Rattle.std.specs.FinMap.Entries.{below_all}
use Rattle.std.specs.Cmp.{eq_by_cmp_equiv}
use Rattle.std.specs.BTreeMap as tree
use Rattle.std.specs.BTreeMap.{BTreeMap}
use Rattle.std.specs.List.Sorted.{IsStrictlySortedBy}
use Rattle.std.specs.List.{AllByRecursion, AllZip}
use Rattle.std.specs.Map.{lookup}
use Rattle.base_types.specs.Names.{ByName}

both : (a b : Bool) → T a → T b → T (a && b)
both true b p q = q
both false b p q = p

module _ {X : Type 0} where
  -- two maps that answer alike are equal
  pub same_names : (m n : ByName X) → ((q : List ℕ) → get m q ≡ get n q) → m ≡ n
  same_names m n alike = same_map nat_list_cmp_total (slice_cmp-IsAntisymmetric nat_cmp-IsAntisymmetric) m n alike

  find-lookup : (q : List ℕ) (es : List (List ℕ × X)) → find (slice_cmp nat_cmp) q es ≡ lookup (tree.is_at (slice_cmp nat_cmp q)) es
  find-lookup q [] = refl
  find-lookup q (e ∷ es) = ap (λ o. cond (eq_by_cmp (slice_cmp nat_cmp) q e.0) (Some e.1) o) (find-lookup q es)

  pub get-entries : (m : BTreeMap (List ℕ) X) (q : List ℕ) → get (from_entries {R = slice_cmp nat_cmp} m.entries) q ≡ tree.get (slice_cmp nat_cmp) m q
  get-entries m q = get-from_entries nat_list_cmp_total m.entries q ∙ find-lookup q m.entries

  -- the map after an update is the map with that entry
  pub insert-entries : (m n : BTreeMap (List ℕ) X) (k : List ℕ) (v : X) → tree.Updates (slice_cmp nat_cmp) m n k (Some v)
      → from_entries {R = slice_cmp nat_cmp} n.entries ≡ insert (from_entries m.entries) k v
  insert-entries m n k v updates = same_names _ _ (λ q.
      get-entries n q
      ∙ updates.0 q
      ∙ ap (λ b. cond b (Some v) (tree.get (slice_cmp nat_cmp) m q)) ((eq_by_cmp_equiv nat_list_cmp_total).symm k q)
      ∙ ap (λ o. cond (eq_by_cmp (slice_cmp nat_cmp) q k) (Some v) o) (sym (get-entries m q))
      ∙ sym (get-insert nat_list_cmp_total (from_entries m.entries) k v q))

  below : (k : List ℕ) (es : List (List ℕ × X)) → AllByRecursion (λ y. slice_cmp nat_cmp k y ≡ Less) (map (λ e. e.0) es) → T (below_all (slice_cmp nat_cmp) k es)
  below k [] all = tt
  below k (e ∷ es) all = both _ _ (subst (λ o. T (is_lt o)) (sym all.0) tt) (below k es all.1)

  ordered : (es : List (List ℕ × X)) → IsStrictlySortedBy (slice_cmp nat_cmp) (map (λ e. e.0) es) → T (is_sorted (slice_cmp nat_cmp) es)
  unfolding IsStrictlySortedBy
  ordered [] sorted = tt
  ordered (e ∷ es) sorted = both _ _ (below e.0 es sorted.0) (ordered es sorted.1)

  each_pair : (es fs : List (List ℕ × X)) → AllZip (λ e f. (f.0 ≡ e.0) × (f.1 ≡ e.1)) es fs → fs ≡ es
  each_pair [] [] all = refl
  each_pair [] (f ∷ fs) all = absurd all
  each_pair (e ∷ es) [] all = absurd all
  each_pair (e ∷ es) (f ∷ fs) all = λ i. (all.0.0 i, all.0.1 i) ∷ each_pair es fs all.1 i

  -- an ordered map's entries are those of the finite map
  pub entries-of : (m : BTreeMap (List ℕ) X) → tree.IsOrdered (slice_cmp nat_cmp) m → entries (from_entries {R = slice_cmp nat_cmp} m.entries) ≡ m.entries
  entries-of m sorted =
      let rises : T (is_sorted (slice_cmp nat_cmp) m.entries) = ordered m.entries sorted in
      let same : from_entries m.entries ≡ from_sorted m.entries = same_names _ _ (λ q. get-from_entries nat_list_cmp_total m.entries q ∙ sym (get-from_sorted (slice_cmp nat_cmp) m.entries q rises)) in
      ap entries same ∙ entries-from_sorted (slice_cmp nat_cmp) m.entries rises

  -- an ordered map has as many names as entries
  pub len-entries_of : (m : BTreeMap (List ℕ) X) → tree.IsOrdered (slice_cmp nat_cmp) m → len (from_entries {R = slice_cmp nat_cmp} m.entries) ≡ length m.entries
  len-entries_of m sorted = len-entries (from_entries m.entries) ∙ ap length (entries-of m sorted)

  -- the map after a name was taken out
  pub remove-entries : (m n : BTreeMap (List ℕ) X) (k : List ℕ) → tree.Updates (slice_cmp nat_cmp) m n k None
      → from_entries {R = slice_cmp nat_cmp} n.entries ≡ remove (from_entries m.entries) k
  remove-entries m n k updates = same_names _ _ (λ q.
      get-entries n q
      ∙ updates.0 q
      ∙ ap (λ b. cond b None (tree.get (slice_cmp nat_cmp) m q)) ((eq_by_cmp_equiv nat_list_cmp_total).symm k q)
      ∙ ap (λ o. cond (eq_by_cmp (slice_cmp nat_cmp) q k) None o) (sym (get-entries m q))
      ∙ sym (get-remove nat_list_cmp_total (from_entries m.entries) k q))

  -- where the entries are the same the maps are
  pub same_entries_of : (m n : ByName X) → AllZip (λ e f. (f.0 ≡ e.0) × (f.1 ≡ e.1)) (entries m) (entries n) → n ≡ m
  same_entries_of m n all = same_entries_map n m (each_pair (entries m) (entries n) all)
