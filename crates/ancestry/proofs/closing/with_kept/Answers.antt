use Rattle.std.proofs.Common.{List, Contains, inl, inr, sym, subst}
use Rattle.std.proofs.lemmas.Option.{get_or_from_slice_get}
use Rattle.git_object.specs.declared.object_id.ObjectId.{ObjectId}
use Rattle.ancestry.specs.Reached.{Root, Next}
use Rattle.ancestry.proofs.ClosureLemmas.{joins_none, joins_more}
use Rattle.ancestry.proofs.ListLemmas.{contains_none}
use Rattle.ancestry.proofs.closing.with_kept.Goals as goal

pub loop-id-init : goal.loop-id-init
loop-id-init c = record {
  reached = λ id there. elim (c.in_ok-insert_all.ensures.only id there) [
    | inl was ↦ absurd (contains_none id (subst (λ (ids : List ObjectId). Contains ids id) c.new-set.ensures was))
    | inr root ↦ Root id root
  ];
  joins = joins_none c.args.front.now c.args.kept.now c.args.roots.now c.args.before.now c.in_ok-met.met c.in_ok-met.ensures;
}

pub loop-id-preserved : goal.loop-id-preserved
loop-id-preserved c =
    let here : Contains c.loop-id.set c.in-Some.id = (c.loop-id.next, c.in-Some.ensures.within, get_or_from_slice_get c.loop-id.set c.loop-id.next c.in-Some.id c.in-Some.id (sym c.in-Some.ensures.id)) in
    let reached = c.loop-id.invariant.reached c.in-Some.id here in
    record {
      reached = λ to there. elim (c.in_ok-enter.ensures.set to there) [
        | inl was ↦ c.loop-id.invariant.reached to was
        | inr link ↦ Next c.in-Some.id to reached link
      ];
      joins = joins_more c.args.front.now c.args.kept.now c.args.roots.now c.args.before.now c.loop-id.met c.enter.new.met c.in-Some.id c.loop-id.invariant.joins reached c.in_ok-enter.ensures.met;
    }
