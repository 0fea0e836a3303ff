use Rattle.std.proofs.Common.{◌++◌, ◌∷◌, [], List, ap, subst, sym, ◌∙◌, append_assoc, append-nil, max}
use Rattle.git_object.specs.declared.object_id.ObjectId.{ObjectId}
use Rattle.ancestry.specs.Generations.{IsAfter}
use Rattle.ancestry.proofs.GenerationLemmas.{after_none, after_more}
use Rattle.ancestry.proofs.walks.Walks.generation_of.Goals as goal

pub loop-parent-init : goal.loop-parent-init
loop-parent-init c = record {
  after = after_none c.args.self.now;
  left = c.into_iter-parent-iterator.ensures.into_iter_gives ∙ c.parents-parent-items.ensures.parents;
}

pub loop-parent-preserved : goal.loop-parent-preserved
loop-parent-preserved c = record {
  after = after_more c.args.self.now c.loop-parent.yielded c.in-Some.parent c.in-Some-generation.before c.loop-parent.generation c.max-generation.result c.loop-parent.invariant.after c.in-Some-generation.ensures
      (c.max-generation.ensures ∙ ap (λ n. max c.loop-parent.generation n) c.in-Some-checked_add.ensures.1);
  left = append_assoc c.loop-parent.yielded (c.in-Some.parent ∷ []) c.next.new.self ∙ ap (λ (ids : List ObjectId). c.loop-parent.yielded ++ ids) (sym c.in-Some.ensures.steps) ∙ c.loop-parent.invariant.left;
}

pub returns : goal.returns
returns c =
    subst (λ (ids : List ObjectId). IsAfter c.args.self.now ids c.loop-parent.generation)
    (sym (append-nil c.loop-parent.yielded) ∙ ap (λ (ids : List ObjectId). c.loop-parent.yielded ++ ids) (sym c.in-None.ensures.steps.0) ∙ c.loop-parent.invariant.left)
    c.loop-parent.invariant.after
