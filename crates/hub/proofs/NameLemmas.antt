-- Named values as entries of a table and as a map.
use Rattle.std.proofs.Common.{◌≡◌, Bool, true, List, ℕ, [], ◌∷◌, ◌++◌, refl, sym, ◌∙◌, ap, ◌+◌, false, cond, length, arith}
use Rattle.std.specs.Prelude.{Some, None}
use Rattle.std.specs.List.{sum_by, IsDistinct, AllByRecursion}
use Rattle.std.specs.Map.{lookup, keys_of}
use Rattle.std.proofs.lemmas.Map.{lookup-none, NonePasses}
use Rattle.std.proofs.lemmas.Map.Keys.{IsDistinct-head, IsDistinct-tail}
use Rattle.std.proofs.lemmas.List.Sums.{sum_by-cons}
use Rattle.std.specs.declared.cmp.Ordering.TheVariants.{Less, Equal, Greater}
use Rattle.std.specs.Ordering.{nat_cmp, eq_by_cmp, is_eq}
use Rattle.std.specs.Cmp.{eq_by_cmp_equiv}
use Rattle.std.specs.Cmp.Lexicographic.{slice_cmp, nat_list_cmp_total, texts_ties}
use Rattle.std.specs.FinMap.{get, insert, entries, find, get-insert, get-from_entries, get-entries, len-entries, len-empty, entries-insert, same_map, slice_cmp-IsAntisymmetric, nat_cmp-IsAntisymmetric}
use Rattle.std.specs.FinMap.Entries.{put, by_order}
use Rattle.ref_store.proofs.ObjectLemmas.{same_bytes}
use Rattle.base_types.specs.Names.{ByName}
use Rattle.ref_store.specs.Refs.{Name}
use Rattle.hub_history.specs.State.{Repository, placed_in, same_name}
use Rattle.hub.specs.Names.{map_of}

turned : (k q : Name) → same_name k q ≡ eq_by_cmp (slice_cmp nat_cmp) q k
turned k q = texts_ties k q ∙ (eq_by_cmp_equiv nat_list_cmp_total).symm k q

none : {A : Type 0} (xs : List A) → length xs ≡ 0 → xs ≡ []
none [] is = refl
none (x ∷ xs) is = absurd (omega (arith, is))

module _ {X : Type 0} where
  pub same_names : (m n : ByName X) → ((q : Name) → get m q ≡ get n q) → m ≡ n
  same_names m n is = same_map nat_list_cmp_total (slice_cmp-IsAntisymmetric nat_cmp-IsAntisymmetric) m n is

  -- a value that is there is put in its place again
  pub insert_same : (m : ByName X) (k : Name) (v : X) → get m k ≡ Some v → insert m k v ≡ m
  insert_same m k v is = same_names (insert m k v) m (λ q. get-insert nat_list_cmp_total m k v q ∙ by_name q (eq_by_cmp (slice_cmp nat_cmp) q k) refl)
    where
      by_name : (q : Name) (b : Bool) → eq_by_cmp (slice_cmp nat_cmp) q k ≡ b → cond b (Some v) (get m q) ≡ get m q
      by_name q true e = sym is ∙ ap (get m) (sym (same_bytes q k (texts_ties q k ∙ e)))
      by_name q false e = refl

  find-lookup : (q : Name) (es : List (Name × X)) → find (slice_cmp nat_cmp) q es ≡ lookup (same_name q) es
  find-lookup q [] = refl
  find-lookup q (e ∷ es) = ap (λ o. cond (eq_by_cmp (slice_cmp nat_cmp) q e.0) (Some e.1) o) (find-lookup q es) ∙ ap (λ b. cond b (Some e.1) (lookup (same_name q) es)) (sym (texts_ties q e.0))

  -- a table answers as its map
  pub get-map_of : (es : List (Name × X)) (q : Name) → get (map_of es) q ≡ lookup (same_name q) es
  get-map_of es q = get-from_entries nat_list_cmp_total es q ∙ find-lookup q es

  -- the map after a value was put in place
  pub updated : (es fs : List (Name × X)) (k : Name) (v : X) → ((q : Name) → lookup (same_name q) fs ≡ cond (same_name k q) (Some v) (lookup (same_name q) es)) → map_of fs ≡ insert (map_of es) k v
  updated es fs k v updates = same_names _ _ (λ q.
      get-map_of fs q
      ∙ updates q
      ∙ ap (λ b. cond b (Some v) (lookup (same_name q) es)) (turned k q)
      ∙ ap (λ o. cond (eq_by_cmp (slice_cmp nat_cmp) q k) (Some v) o) (sym (get-map_of es q))
      ∙ sym (get-insert nat_list_cmp_total (map_of es) k v q))

  -- a sum over a map grows by what is put at a new name
  sum-put : (f : Name × X → ℕ) (k : Name) (v : X) (es : List (Name × X)) → find (slice_cmp nat_cmp) k es ≡ None → sum_by f (put (slice_cmp nat_cmp) k v es) ≡ f (k, v) + sum_by f es
  sum-put f k v [] none = sum_by-cons f (k, v) []
  sum-put f k v (e ∷ es) none =
      elim (slice_cmp nat_cmp k e.0) as (λ o. cond (is_eq o) (Some e.1) (find (slice_cmp nat_cmp) k es) ≡ None → sum_by f (by_order o ((k, v) ∷ e ∷ es) ((e.0, v) ∷ es) (e ∷ put (slice_cmp nat_cmp) k v es)) ≡ f (k, v) + sum_by f (e ∷ es)) [
        | Less ↦ λ absent. sum_by-cons f (k, v) (e ∷ es)
        | Equal ↦ λ absent. cc
        | Greater ↦ λ absent. omega (arith, sum_by-cons f e (put (slice_cmp nat_cmp) k v es), sum_by-cons f e es, sum-put f k v es absent)
      ] none

  pub each_apart : (k : Name) (es : List (Name × X)) → AllByRecursion (λ y. same_name k y ≡ false) (keys_of es) → NonePasses (same_name k) es
  each_apart k [] apart = tt
  each_apart k (e ∷ es) apart = (apart.0, each_apart k es apart.1)

  -- a sum over a map is the sum over the table, whose names are distinct
  pub sum-map_of : (f : Name × X → ℕ) (es : List (Name × X)) → IsDistinct same_name (keys_of es) → sum_by f (entries (map_of es)) ≡ sum_by f es
  sum-map_of f [] distinct = ap (sum_by f) (none (entries (map_of {X = X} [])) (sym (len-entries (map_of {X = X} [])) ∙ len-empty (slice_cmp nat_cmp) X))
  sum-map_of f (e ∷ es) distinct =
      let absent : find (slice_cmp nat_cmp) e.0 (entries (map_of es)) ≡ None =
      sym (get-entries (map_of es) e.0) ∙ get-map_of es e.0 ∙ lookup-none (same_name e.0) es (each_apart e.0 es (IsDistinct-head same_name e.0 (keys_of es) distinct)) in
      ap (sum_by f) (entries-insert nat_list_cmp_total (map_of es) e.0 e.1)
      ∙ sum-put f e.0 e.1 (entries (map_of es)) absent
      ∙ ap (λ n. f e + n) (sum-map_of f es (IsDistinct-tail same_name e.0 (keys_of es) distinct))
      ∙ sym (sum_by-cons f e es)

-- what is put in place last is put first
pub placed_in-push : (known : ByName Repository) (ns : List (Name × Repository)) (n : Name × Repository) → placed_in known (ns ++ n ∷ []) ≡ placed_in (insert known n.0 n.1) ns
placed_in-push known [] n = refl
placed_in-push known (m ∷ ns) n = ap (λ i. insert i m.0 m.1) (placed_in-push known ns n)
