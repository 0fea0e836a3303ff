use Rattle.std.proofs.Common.{inl, inr, List, Contains, ◌∙◌, subst}
use Rattle.git_object.specs.declared.object_id.ObjectId.{ObjectId}
use Rattle.ancestry.specs.declared.runs.Run.{Run}
use Rattle.ancestry.proofs.ClosureLemmas.{closures_grow, closures_of_two}
use Rattle.ancestry.proofs.closures.Closures.with.Goals as goal

pub returns-clause-of : goal.returns-clause-of
returns-clause-of c = λ closure there. elim (c.in_ok-add_numbered.ensures closure there) [
  | inl was ↦ inl (subst (λ (cs : List (ObjectId × List Run)). Contains cs closure) (c.deref.ensures.value ∙ c.self.view_is) (c.in_ok-closures.ensures closure was))
  | inr one ↦ inr (subst (λ (cs : List (ObjectId × List Run)). Contains cs closure) (c.deref-2.ensures.value ∙ c.made.view_is) one)
]

pub returns-clause-right : goal.returns-clause-right
returns-clause-right c = λ fewer among more first second are also.
    closures_of_two more c.args.self.now c.args.made.now c.add_numbered.new.closures.items (closures_grow fewer more c.args.self.now first are) (closures_grow among more c.args.made.now second also) (returns-clause-of c)
