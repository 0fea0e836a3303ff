use Rattle.std.proofs.Common.{inl, inr, List, Contains, sym, subst, ◌∙◌}
use Rattle.std.proofs.lemmas.List.Elements.{Contains-push_cases}
use Rattle.git_object.specs.declared.object_id.ObjectId.{ObjectId}
use Rattle.ancestry.specs.declared.runs.Run.{Run}
use Rattle.ancestry.proofs.closures.add_numbered.Goals as goal

pub loop-closure-preserved : goal.loop-closure-preserved
loop-closure-preserved c = λ closure there. elim (Contains-push_cases c.loop-closure.closures.items c.in_ok-numbered_behind.field-0 closure (subst (λ (cs : List (ObjectId × List Run)). Contains cs closure) c.in_ok-push.ensures.items there)) [
  | inl was ↦ c.loop-closure.invariant closure was
  | inr same ↦ inr (subst (λ (x : ObjectId × List Run). Contains c.args.made.now x) (sym c.in_ok-numbered_behind.ensures ∙ same) (c.loop-closure.closure-index, c.loop-closure-test.true, sym c.closure-item.is))
]
