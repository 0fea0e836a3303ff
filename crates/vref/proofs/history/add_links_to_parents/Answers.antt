use Rattle.std.proofs.Common.{◌++◌, ◌∷◌, [], ℕ, List, sym, ◌∙◌, ap, subst, append_assoc, append-nil}
use Rattle.git_object.specs.declared.object_id.ObjectId.{ObjectId}
use Rattle.vref.specs.History.{AddsParents}
use Rattle.vref.proofs.LinkLemmas.{adds_none, adds_more}
use Rattle.vref.proofs.history.add_links_to_parents.Goals as goal

pub loop-parent-init : goal.loop-parent-init
loop-parent-init c = record { adds = adds_none c.args.ids.now.keys c.args.at c.args.links.now.items; left = c.into_iter-parent-iterator.ensures.into_iter_gives ∙ c.parents-parent-items.ensures.parents }

pub loop-parent-preserved : goal.loop-parent-preserved
loop-parent-preserved c = record {
  adds = subst (λ (links : List (ℕ × ℕ)). AddsParents c.args.ids.now.keys c.args.at (c.loop-parent.yielded ++ c.in-Some.parent ∷ []) c.args.links.now.items links) (sym c.in_ok-push.ensures.items)
      (adds_more c.args.ids.now.keys c.args.at c.in-Some-place_of.to c.loop-parent.yielded c.in-Some.parent c.args.links.now.items c.loop-parent.links.items c.loop-parent.invariant.adds
      (sym c.place_of.ensures.place ∙ c.in-Some-place_of.is));
  left = append_assoc c.loop-parent.yielded (c.in-Some.parent ∷ []) c.next.new.self ∙ ap (λ (ids : List ObjectId). c.loop-parent.yielded ++ ids) (sym c.in-Some.ensures.steps) ∙ c.loop-parent.invariant.left;
}

pub returns : goal.returns
returns c = λ all.
    subst (λ (ids : List ObjectId). AddsParents c.args.ids.now.keys c.args.at ids c.args.links.now.items c.loop-parent.links.items)
    (sym (append-nil c.loop-parent.yielded) ∙ ap (λ (ids : List ObjectId). c.loop-parent.yielded ++ ids) (sym c.in-None.ensures.steps.0) ∙ c.loop-parent.invariant.left)
    c.loop-parent.invariant.adds
