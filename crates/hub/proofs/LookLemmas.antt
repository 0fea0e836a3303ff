-- Repositories put in order.
use Rattle.std.proofs.Common.{◌≡◌, Bool, true, false, cond, List, [], ◌∷◌, refl, sym, ◌∙◌, ap}
use Rattle.std.specs.Prelude.{Option, Some, None}
use Rattle.std.specs.List.{IsDistinct}
use Rattle.std.specs.Map.{lookup, keys_of}
use Rattle.std.proofs.lemmas.Map.{lookup-none}
use Rattle.std.proofs.lemmas.Map.Keys.{IsDistinct-head, IsDistinct-tail}
use Rattle.std.specs.Ordering.{nat_cmp}
use Rattle.std.specs.Cmp.Lexicographic.{slice_cmp, nat_list_cmp_total, texts_ties}
use Rattle.std.specs.FinMap.{get, insert, empty, get-insert, get-empty}
use Rattle.base_types.specs.Names.{ByName}
use Rattle.ref_store.specs.Refs.{Name}
use Rattle.ref_store.proofs.ObjectLemmas.{same_bytes}
use Rattle.hub_history.specs.State.{same_name}
use Rattle.hub.specs.Names.{inserted_all, map_of}
use Rattle.hub.proofs.NameLemmas.{each_apart, get-map_of, same_names}

module _ {X : Type 0} where
  abbrev or_else : Option X → Option X → Option X
  or_else None b = b
  or_else (Some v) b = Some v

  inserted-get : (m : ByName X) (es : List (Name × X)) (q : Name) → IsDistinct same_name (keys_of es) → get (inserted_all m es) q ≡ or_else (lookup (same_name q) es) (get m q)
  inserted-get m [] q distinct = refl
  inserted-get m (e ∷ es) q distinct =
      inserted-get (insert m e.0 e.1) es q (IsDistinct-tail same_name e.0 (keys_of es) distinct)
      ∙ ap (or_else (lookup (same_name q) es)) (get-insert nat_list_cmp_total m e.0 e.1 q ∙ ap (λ (b : Bool). cond b (Some e.1) (get m q)) (sym (texts_ties q e.0)))
      ∙ by_name (same_name q e.0) refl
    where
      by_name : (b : Bool) → same_name q e.0 ≡ b → or_else (lookup (same_name q) es) (cond b (Some e.1) (get m q)) ≡ or_else (cond b (Some e.1) (lookup (same_name q) es)) (get m q)
      by_name true same =
          ap (λ (o : Option X). or_else o (Some e.1))
          (ap (λ (n : Name). lookup (same_name n) es) (same_bytes q e.0 same) ∙ lookup-none (same_name e.0) es (each_apart e.0 es (IsDistinct-head same_name e.0 (keys_of es) distinct)))
      by_name false apart = refl

  -- all of a table, put into an empty map
  pub inserted-map_of : (es : List (Name × X)) → IsDistinct same_name (keys_of es) → inserted_all empty es ≡ map_of es
  inserted-map_of es distinct = same_names (inserted_all empty es) (map_of es) (λ q.
      inserted-get empty es q distinct ∙ ap (or_else (lookup (same_name q) es)) (get-empty {X = X} (slice_cmp nat_cmp) q) ∙ none_behind (lookup (same_name q) es) ∙ sym (get-map_of es q))
    where
      none_behind : (o : Option X) → or_else o None ≡ o
      none_behind None = refl
      none_behind (Some v) = refl
