-- What is kept of trees.
use Rattle.std.proofs.Common.{◌≡◌, Bool, true, false, cond, List, Option, Some, refl, sym, ◌∙◌, subst, Vec, Global}
use Rattle.std.specs.Map.{lookup}
use Rattle.git_object.specs.Content.{Content}
use Rattle.git_object.specs.declared.object_id.ObjectId.{ObjectId}
use Rattle.git_object.specs.declared.tree.TreeEntry.{TreeEntry}
use Rattle.ref_store.specs.Objects.{first_named, same_id}
use Rattle.ref_store.proofs.ObjectLemmas.{id_is}
use Rattle.policy_swap.specs.Trees.{AreEntries, AreRight}
use Rattle.policy_swap.specs.declared.trees.Trees.{Trees}

-- one right list more
pub right_more : (objects : List Content) (before after : Trees) (id : ObjectId) (list : Vec TreeEntry Global) (object : Option Content) → AreRight objects before
    → object ≡ first_named objects id → AreEntries object list.items
    → ((q : ObjectId) → lookup (same_id q) after.lists.entries ≡ cond (same_id id q) (Some list) (lookup (same_id q) before.lists.entries)) → AreRight objects after
right_more objects before after id list object right object_is are updates = λ q l is. by_test q l (same_id id q) refl (sym (updates q) ∙ is)
  where
    here : AreEntries (first_named objects id) list.items
    here = subst (λ (o : Option Content). AreEntries o list.items) object_is are

    by_test : (q : ObjectId) (l : Vec TreeEntry Global) (b : Bool) → same_id id q ≡ b → cond b (Some list) (lookup (same_id q) before.lists.entries) ≡ Some l → AreEntries (first_named objects q) l.items
    by_test q l true e is =
        let same : list ≡ l = cc in
        subst (λ (p : ObjectId). AreEntries (first_named objects p) l.items) (id_is id q e) (subst (λ (v : Vec TreeEntry Global). AreEntries (first_named objects id) v.items) same here)
    by_test q l false e is = right q l is
