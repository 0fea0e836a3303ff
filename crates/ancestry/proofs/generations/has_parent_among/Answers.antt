use Rattle.std.proofs.Common.{◌++◌, ◌∷◌, [], List, Contains, sym, ◌∙◌, ap, subst, append_assoc}
use Rattle.std.proofs.lemmas.List.Elements.{Contains-append_right}
use Rattle.git_object.specs.declared.object_id.ObjectId.{ObjectId}
use Rattle.ancestry.proofs.ListLemmas.{contains_here}
use Rattle.ancestry.proofs.generations.has_parent_among.Goals as goal

pub loop-parent-init : goal.loop-parent-init
loop-parent-init c = c.into_iter-parent-iterator.ensures.into_iter_gives ∙ c.parents-parent-items.ensures.parents

pub loop-parent-preserved : goal.loop-parent-preserved
loop-parent-preserved c = append_assoc c.loop-parent.yielded (c.in-Some.parent ∷ []) c.next.new.self ∙ ap (λ (ids : List ObjectId). c.loop-parent.yielded ++ ids) (sym c.in-Some.ensures.steps) ∙ c.loop-parent.invariant

pub returns-then-contains : goal.returns-then-contains
returns-then-contains c = λ is. (
  c.in-Some.parent,
  subst (λ (ids : List ObjectId). Contains ids c.in-Some.parent) (ap (λ (ids : List ObjectId). c.loop-parent.yielded ++ ids) (sym c.in-Some.ensures.steps) ∙ c.loop-parent.invariant)
      (Contains-append_right c.loop-parent.yielded (c.in-Some.parent ∷ c.next.new.self) c.in-Some.parent (contains_here c.in-Some.parent c.next.new.self)),
  c.contains.ensures.0 c.if-contains.true,
)
