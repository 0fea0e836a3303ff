use Rattle.std.proofs.Common.{◌++◌, ◌∷◌, [], List, refl, sym, ◌∙◌, ap, subst, append_assoc, append-nil}
use Rattle.git_object.specs.declared.object_id.ObjectId.{ObjectId}
use Rattle.ancestry.specs.IdSet.{Adds}
use Rattle.ancestry.proofs.ReachedLemmas.{adds_none, adds_more}
use Rattle.ancestry.proofs.generations.insert_parents.Goals as goal

pub loop-parent-init : goal.loop-parent-init
loop-parent-init c = record { adds = adds_none c.args.set.now; left = c.into_iter-parent-iterator.ensures.into_iter_gives ∙ c.parents-parent-items.ensures.parents }

pub loop-parent-preserved : goal.loop-parent-preserved
loop-parent-preserved c = record {
  adds = adds_more c.args.set.now c.loop-parent.set c.insert.new.self c.loop-parent.yielded (c.loop-parent.yielded ++ c.in-Some.parent ∷ []) c.in-Some.parent c.loop-parent.invariant.adds c.in_ok-insert.ensures refl;
  left = append_assoc c.loop-parent.yielded (c.in-Some.parent ∷ []) c.next.new.self ∙ ap (λ (ids : List ObjectId). c.loop-parent.yielded ++ ids) (sym c.in-Some.ensures.steps) ∙ c.loop-parent.invariant.left;
}

pub returns : goal.returns
returns c =
    subst (λ (ids : List ObjectId). Adds c.args.set.now c.loop-parent.set ids)
    (sym (append-nil c.loop-parent.yielded) ∙ ap (λ (ids : List ObjectId). c.loop-parent.yielded ++ ids) (sym c.in-None.ensures.steps.0) ∙ c.loop-parent.invariant.left)
    c.loop-parent.invariant.adds
