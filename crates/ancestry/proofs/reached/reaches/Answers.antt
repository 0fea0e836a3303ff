use Rattle.std.proofs.Common.{◌∷◌, [], refl, sym, ◌∙◌, subst, true≢false}
use Rattle.ancestry.proofs.WalkedLemmas.{ended}
use Rattle.git_object.specs.declared.object_id.ObjectId.{ObjectId}
use Rattle.ancestry.specs.Reached.{IsReached}
use Rattle.ancestry.proofs.ReachedLemmas.{walk_begins, walk_goes_on, walk_met, none_entered, unmet_more, unmet_all}
use Rattle.ancestry.proofs.reached.reaches.Goals as goal

pub loop-id-init : goal.loop-id-init
loop-id-init g c = record {
  walking = walk_begins (g.S.Steps.next c.args.steps.now) (c.args.root ∷ []) c.new-set.result c.insert.new.self c.new-set.ensures c.in_ok-insert.ensures;
  unmet = none_entered c.insert.new.self c.args.wanted;
}

pub loop-id-preserved : goal.loop-id-preserved
loop-id-preserved g c = record {
  walking = walk_goes_on (g.S.Steps.next c.args.steps.now) (c.args.root ∷ []) c.loop-id.set c.insert_next.new.set c.loop-id.next c.in-Some.id c.loop-id.invariant.walking (sym c.in-Some.ensures.id) c.in-Some.ensures.within c.in_ok-insert_next.ensures;
  unmet = unmet_more c.loop-id.set c.insert_next.new.set c.loop-id.next c.in-Some.id c.args.wanted (sym c.in-Some.ensures.id) c.in-Some.ensures.within c.in_ok-insert_next.ensures.grows
      (λ same. true≢false (sym (c.is_same.ensures.1 same) ∙ c.if-is_same.false)) c.loop-id.invariant.unmet;
}

pub returns-then-is_same : goal.returns-then-is_same
returns-then-is_same g c = (
  λ is. subst (λ (i : ObjectId). IsReached (g.S.Steps.next c.args.steps.now) (c.args.root ∷ []) i) (c.is_same.ensures.0 c.if-is_same.true)
      (walk_met (g.S.Steps.next c.args.steps.now) (c.args.root ∷ []) c.loop-id.set c.loop-id.next c.in-Some.id c.loop-id.invariant.walking (sym c.in-Some.ensures.id) c.in-Some.ensures.within),
  λ reached. refl,
)

pub returns : goal.returns
returns g c = (
  λ is. absurd (true≢false (sym is)),
  λ reached. absurd (unmet_all (g.S.Steps.next c.args.steps.now) (c.args.root ∷ []) c.loop-id.set c.loop-id.next c.args.wanted c.loop-id.invariant.walking
      (ended c.loop-id.set c.loop-id.next (sym c.in_default.ensures.id)) c.loop-id.invariant.unmet reached),
)
