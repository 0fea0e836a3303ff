-- What is kept of the trees that were compared.
use Rattle.std.proofs.Common.{◌≡◌, Bool, true, false, not, cond, List, Some, Option, refl, sym, ◌∙◌, ap, subst}
use Rattle.std.specs.Map.{lookup}
use Rattle.git_object.specs.Content.{Content}
use Rattle.git_object.specs.declared.object_id.ObjectId.{ObjectId}
use Rattle.ref_store.specs.Objects.{first_named, same_id}
use Rattle.ref_store.proofs.ObjectLemmas.{id_is}
use Rattle.vref.specs.Bases.{AreBased, DifferAt}
use Rattle.vref.specs.Differences.{AreDifferences}
use Rattle.vref.specs.Rows.{entries_in}
use Rattle.vref.specs.declared.differences.Difference.{Difference}
use Rattle.vref.specs.declared.bases.Placed.{Placed}
use Rattle.vref.specs.declared.bases.Bases.{Bases}

-- one tree more, or one in another place
pub based_more : (objects : List Content) (before after : Bases) (id : ObjectId) (placed : Placed) → AreBased objects before → DifferAt objects placed.base id placed.list.items
    → ((q : ObjectId) → lookup (same_id q) after.trees.entries ≡ cond (same_id id q) (Some placed) (lookup (same_id q) before.trees.entries)) → AreBased objects after
based_more objects before after id placed are right updates = λ q p is. by_test q p (same_id id q) refl (sym (updates q) ∙ is)
  where
    by_test : (q : ObjectId) (p : Placed) (b : Bool) → same_id id q ≡ b → cond b (Some placed) (lookup (same_id q) before.trees.entries) ≡ Some p → DifferAt objects p.base q p.list.items
    by_test q p true e is =
        let same : placed ≡ p = cc in
        subst (λ (key : ObjectId). DifferAt objects p.base key p.list.items) (id_is id q e) (subst (λ (it : Placed). DifferAt objects it.base id it.list.items) same right)
    by_test q p false e is = are q p is

-- the same trees, in the same places
pub based_same : (objects : List Content) (before after : Bases) → after.trees.entries ≡ before.trees.entries → AreBased objects before → AreBased objects after
based_same objects before after same are = λ q p is. are q p (sym (ap (lookup (same_id q)) same) ∙ is)

-- two ids of which it is told that they don't differ
pub one_base : (one other : ObjectId) (differ : Bool) → differ ≡ not (same_id one other) → differ ≡ false → other ≡ one
one_base one other differ told same = by_test (same_id one other) refl (sym told ∙ same)
  where
    by_test : (b : Bool) → same_id one other ≡ b → not b ≡ false → other ≡ one
    by_test true is no_difference = sym (id_is one other is)
    by_test false is no_difference = absurd cc

-- where two objects differ that ids name
pub differ_at : (objects : List Content) (old new : ObjectId) (older newer : Option Content) (list : List Difference) → older ≡ first_named objects old → newer ≡ first_named objects new → AreDifferences (entries_in older) (entries_in newer) list
    → DifferAt objects old new list
differ_at objects old new older newer list old_is new_is are =
    subst (λ (o : Option Content). AreDifferences (entries_in (first_named objects old)) (entries_in o) list) new_is (subst (λ (o : Option Content). AreDifferences (entries_in o) (entries_in newer) list) old_is are)
