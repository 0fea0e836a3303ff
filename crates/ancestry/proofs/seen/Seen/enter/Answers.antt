use Rattle.std.proofs.Common.{◌≡◌, ◌++◌, ◌∷◌, [], sym, ◌∙◌, ap, subst, append_assoc, append-nil}
use Rattle.std.specs.Prelude.{List}
use Rattle.git_object.specs.Object.{links_of}
use Rattle.git_object.specs.declared.object_id.ObjectId.{ObjectId}
use Rattle.git_object.specs.declared.kind.Kind.{Kind}
use Rattle.ancestry.specs.Walk.{Want, wanted_by}
use Rattle.ancestry.specs.Seen.{Notes}
use Rattle.ancestry.proofs.SeenLemmas.{notes_none, notes_both}
use Rattle.ancestry.proofs.WalkLemmas.{wanted_by-append}
use Rattle.ancestry.proofs.seen.Seen.enter.Goals as goal

pub loop-to-init : goal.loop-to-init
loop-to-init c = record {
  notes = notes_none c.args.lens.now c.args.self.now;
  left = c.into_iter-to-iterator.ensures.into_iter_gives ∙ c.links-to-items.ensures;
}

pub loop-to-preserved : goal.loop-to-preserved
loop-to-preserved c =
    let link : ObjectId × Kind = (c.in-Some.to, c.in-Some.wanted) in
    record {
      notes =
          subst (λ (wants : List Want). Notes c.args.lens.now c.args.self.now c.note.new.self wants) (sym (wanted_by-append c.loop-to.yielded (link ∷ [])))
          (notes_both c.args.lens.now c.args.self.now c.loop-to.self c.note.new.self (wanted_by c.loop-to.yielded) (wanted_by (link ∷ [])) c.loop-to.invariant.notes c.in_ok-note.ensures);
      left = append_assoc c.loop-to.yielded (link ∷ []) c.next.new.self ∙ ap (λ (links : List (ObjectId × Kind)). c.loop-to.yielded ++ links) (sym c.in-Some.ensures.steps) ∙ c.loop-to.invariant.left;
    }

pub returns : goal.returns
returns c =
    let all : c.loop-to.yielded ≡ links_of c.args.object.now.kind c.args.object.now.body =
    sym (append-nil c.loop-to.yielded) ∙ ap (λ (links : List (ObjectId × Kind)). c.loop-to.yielded ++ links) (sym c.in-None.ensures.steps.0) ∙ c.loop-to.invariant.left in
    subst (λ (links : List (ObjectId × Kind)). Notes c.args.lens.now c.args.self.now c.loop-to.self (wanted_by links)) all c.loop-to.invariant.notes
