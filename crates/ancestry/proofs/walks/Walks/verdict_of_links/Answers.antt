use Rattle.std.proofs.Common.{◌≡◌, ◌++◌, ◌∷◌, [], List, Some, sym, ◌∙◌, ap, subst, append_assoc, append-nil}
use Rattle.git_object.specs.Object.{links_of}
use Rattle.git_object.specs.declared.object_id.ObjectId.{ObjectId}
use Rattle.git_object.specs.declared.kind.Kind.{Kind}
use Rattle.ancestry.specs.declared.verdict.Verdict.{Verdict}
use Rattle.ancestry.specs.Walk.{Want, wanted_by}
use Rattle.ancestry.specs.Verdict.{IsToldOfAll}
use Rattle.ancestry.proofs.WalkLemmas.{wanted_by-append}
use Rattle.ancestry.proofs.VerdictLemmas.{told_of_one_more}
use Rattle.ancestry.proofs.walks.Walks.verdict_of_links.Goals as goal

pub loop-to-preserved : goal.loop-to-preserved
loop-to-preserved c =
    let objects = c.args.self.now in
    let before = c.loop-to.yielded in
    let link : ObjectId × Kind = (c.in-Some.to, c.in-Some.wanted) in
    let want : Want = (c.in-Some.to, Some c.in-Some.wanted) in
    record {
      told =
          subst (λ (wants : List Want). IsToldOfAll objects wants c.worse-verdict.result) (sym (wanted_by-append before (link ∷ [])))
          (subst (λ (v : Verdict). IsToldOfAll objects (wanted_by before ++ want ∷ []) v) (sym c.worse-verdict.ensures)
          (told_of_one_more objects (wanted_by before) want c.loop-to.verdict c.in-Some-verdict_of.behind c.loop-to.invariant.told c.in-Some-verdict_of.ensures));
      left = append_assoc before (link ∷ []) c.next.new.self ∙ ap (λ (links : List (ObjectId × Kind)). before ++ links) (sym c.in-Some.ensures.steps) ∙ c.loop-to.invariant.left;
    }

pub returns : goal.returns
returns c =
    let all : c.loop-to.yielded ≡ links_of c.args.object.now.kind c.args.object.now.body =
    sym (append-nil c.loop-to.yielded) ∙ ap (λ (links : List (ObjectId × Kind)). c.loop-to.yielded ++ links) (sym c.in-None.ensures.steps.0) ∙ c.loop-to.invariant.left in
    subst (λ (links : List (ObjectId × Kind)). IsToldOfAll c.args.self.now (wanted_by links) c.loop-to.verdict) all c.loop-to.invariant.told
