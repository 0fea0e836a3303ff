use Rattle.std.proofs.Common.{◌++◌, ◌∷◌, [], List, sym, ◌∙◌, ap, subst, append_assoc, append-nil}
use Rattle.git_object.specs.declared.object_id.ObjectId.{ObjectId}
use Rattle.git_object.specs.declared.kind.Kind.{Kind}
use Rattle.ancestry.proofs.ClosureLemmas.{AreOnly, only_passed, only_one}
use Rattle.ancestry.proofs.closing.insert_commits.Goals as goal

pub loop-to-preserved-then-is_content : goal.loop-to-preserved-then-is_content
loop-to-preserved-then-is_content c = record {
  only = only_passed c.args.set.now c.loop-to.set c.loop-to.yielded _ c.loop-to.invariant.only;
  left = append_assoc c.loop-to.yielded (_ ∷ []) c.next.new.self ∙ ap (λ (ls : List (ObjectId × Kind)). c.loop-to.yielded ++ ls) (sym c.in-Some.ensures.steps) ∙ c.loop-to.invariant.left;
}

pub loop-to-preserved : goal.loop-to-preserved
loop-to-preserved c = record {
  only = only_one c.args.set.now c.loop-to.set c.insert.new.self c.loop-to.yielded _ c.loop-to.invariant.only c.in_ok-insert.ensures;
  left = append_assoc c.loop-to.yielded (_ ∷ []) c.next.new.self ∙ ap (λ (ls : List (ObjectId × Kind)). c.loop-to.yielded ++ ls) (sym c.in-Some.ensures.steps) ∙ c.loop-to.invariant.left;
}

pub returns : goal.returns
returns c =
    subst (λ (ls : List (ObjectId × Kind)). AreOnly c.args.set.now c.loop-to.set ls)
    (sym (append-nil c.loop-to.yielded) ∙ ap (λ (ls : List (ObjectId × Kind)). c.loop-to.yielded ++ ls) (sym c.in-None.ensures.steps.0) ∙ c.loop-to.invariant.left) c.loop-to.invariant.only
