use Rattle.std.proofs.Common.{◌<◌, ℕ, List, take, sym, subst, arith}
use Rattle.std.specs.List.{All}
use Rattle.git_object.specs.declared.object_id.ObjectId.{ObjectId}
use Rattle.std.proofs.lemmas.List.{take_all}
use Rattle.std.proofs.lemmas.List.Elements.{All-push}
use Rattle.ancestry.proofs.ClosureLemmas.{ArePlacesOf, places_absent, places_one, one_more}
use Rattle.ancestry.proofs.closing.places_of.Goals as goal

pub loop-at-preserved-in_default-place : goal.loop-at-preserved-in_default-place
loop-at-preserved-in_default-place c = record {
  are =
      subst (λ (ids : List ObjectId). ArePlacesOf c.args.front.now ids c.loop-at.places.items) (sym (one_more c.args.set.now c.loop-at.at c.in-Some.id c.in-Some.ensures.id))
      (places_absent c.args.front.now (take c.loop-at.at c.args.set.now) c.in-Some.id c.loop-at.places.items c.loop-at.invariant.are (sym c.in_default-place.ensures.place));
  small = c.loop-at.invariant.small;
}

pub loop-at-preserved : goal.loop-at-preserved
loop-at-preserved c = record {
  are =
      subst (λ (ids : List ObjectId). ArePlacesOf c.args.front.now ids c.push.new.self.items) (sym (one_more c.args.set.now c.loop-at.at c.in-Some.id c.in-Some.ensures.id))
      (places_one c.args.front.now (take c.loop-at.at c.args.set.now) c.in-Some.id c.in-Some-place.place c.loop-at.places.items c.push.new.self.items c.loop-at.invariant.are (sym c.in-Some-place.ensures.place) c.in_ok-push.ensures.items);
  small =
      subst (λ (ps : List ℕ). All (λ place. place < 4294967295) ps) (sym c.in_ok-push.ensures.items)
      (All-push (λ place. place < 4294967295) c.loop-at.places.items c.in-Some-place.place c.loop-at.invariant.small c.in-Some-place.ensures.small);
}

pub returns-clause-are : goal.returns-clause-are
returns-clause-are c =
    subst (λ (ids : List ObjectId). ArePlacesOf c.args.front.now ids c.loop-at.places.items) (take_all c.loop-at.at c.args.set.now (omega (arith, c.loop-at-test.false, c.len-at-end.ensures.len))) c.loop-at.invariant.are
