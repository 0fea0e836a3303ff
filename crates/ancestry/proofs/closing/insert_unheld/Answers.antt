use Rattle.std.proofs.Common.{◌++◌, ◌∷◌, [], List, filter, map, not, sym, ◌∙◌, ap, append_assoc}
use Rattle.git_object.specs.declared.object_id.ObjectId.{ObjectId}
use Rattle.git_object.specs.declared.kind.Kind.{Kind}
use Rattle.ancestry.specs.Closures.{is_held}
use Rattle.ancestry.proofs.ClosureLemmas.{filter_push}
use Rattle.ancestry.proofs.ReachedLemmas.{adds_more}
use Rattle.ancestry.proofs.closing.insert_unheld.Goals as goal

pub loop-to-preserved : goal.loop-to-preserved
loop-to-preserved c = record {
  adds =
      adds_more c.args.set.now c.loop-to.set c.insert.new.self (filter (λ (to : ObjectId). not (is_held c.args.front.now c.args.held.now to)) (map (λ (l : ObjectId × Kind). l.0) c.loop-to.yielded)) _ c.in-Some.to c.loop-to.invariant.adds c.in_ok-insert.ensures
      (filter_push (λ (to : ObjectId). not (is_held c.args.front.now c.args.held.now to)) c.loop-to.yielded _ (ap not (sym c.holds.ensures ∙ c.if-holds.false)));
  left = append_assoc c.loop-to.yielded (_ ∷ []) c.next.new.self ∙ ap (λ (ls : List (ObjectId × Kind)). c.loop-to.yielded ++ ls) (sym c.in-Some.ensures.steps) ∙ c.loop-to.invariant.left;
}
