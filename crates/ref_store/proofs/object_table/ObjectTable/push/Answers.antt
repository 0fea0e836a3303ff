use Rattle.std.proofs.Common.{rules, ◌≡◌, Some, None, sym, ◌∙◌, ap, cond, length}
use Rattle.std.specs.Map.{lookup}
use Rattle.git_object.specs.Object.{object_name}
use Rattle.git_object.specs.declared.object_id.ObjectId.{ObjectId}
use Rattle.ref_store.specs.Objects.{place_of, same_id}
use Rattle.ref_store.proofs.ObjectLemmas.{place_new, place_back}
use Rattle.ref_store.proofs.object_table.ObjectTable.push.Goals as goal

pub invariant_of-self-in_default-before : goal.invariant_of-self-in_default-before
invariant_of-self-in_default-before c =
    let xs = c.self.inside.objects.items in
    let id : c.name-id.result ≡ object_name c.args.object = c.name-id.ensures in
    let len : c.len-at.result ≡ length xs = search rules in
    let known = λ (q : ObjectId). ap (lookup (same_id q)) c.in_ok-reserve.ensures.entries ∙ c.self.invariant.places q in
    let absent : place_of xs (object_name c.args.object) ≡ None = ap (place_of xs) (sym id) ∙ sym (known c.name-id.result) ∙ sym c.in-Ok.ensures.old ∙ c.in_default-before.is in
    record {
      places = λ q.
          c.in-Ok.ensures.updates.0 q
          ∙ ap (λ n. cond (same_id n q) (Some c.len-at.result) (lookup (same_id q) c.reserve.new.self.entries)) id
          ∙ ap (λ n. cond (same_id (object_name c.args.object) q) (Some n) (lookup (same_id q) c.reserve.new.self.entries)) len
          ∙ ap (λ p. cond (same_id (object_name c.args.object) q) (Some (length xs)) p) (known q)
          ∙ sym (place_new xs c.args.object absent q)
          ∙ ap (λ os. place_of os q) (sym c.in_ok-push.ensures.items);
    }

pub invariant_of-self-2 : goal.invariant_of-self-2
invariant_of-self-2 c =
    let xs = c.self.inside.objects.items in
    let id : c.name-id.result ≡ object_name c.args.object = c.name-id.ensures in
    let known = λ (q : ObjectId). ap (lookup (same_id q)) c.in_ok-reserve.ensures.entries ∙ c.self.invariant.places q in
    let there : place_of xs (object_name c.args.object) ≡ Some c.in-Some.first = ap (place_of xs) (sym id) ∙ sym (known c.name-id.result) ∙ sym c.in-Ok.ensures.old ∙ c.in-Some.is in
    record {
      places = λ q.
          c.in-Ok-insert.ensures.updates.0 q
          ∙ ap (λ p. cond (same_id c.name-id.result q) (Some c.in-Some.first) p) (c.in-Ok.ensures.updates.0 q)
          ∙ ap (λ n. cond (same_id n q) (Some c.in-Some.first) (cond (same_id n q) (Some c.len-at.result) (lookup (same_id q) c.reserve.new.self.entries))) id
          ∙ ap (λ p. cond (same_id (object_name c.args.object) q) (Some c.in-Some.first) (cond (same_id (object_name c.args.object) q) (Some c.len-at.result) p)) (known q)
          ∙ place_back xs c.args.object c.in-Some.first c.len-at.result there q
          ∙ ap (λ os. place_of os q) (sym c.in_ok-push.ensures.items);
    }
