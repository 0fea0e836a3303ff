use Rattle.std.proofs.Common.{◌≡◌, List, Some, sym, ◌∙◌, ap, subst}
use Rattle.git_object.specs.Content.{Content}
use Rattle.ref_store.specs.Objects.{first_named}
use Rattle.ancestry.specs.Walk.{Want}
use Rattle.ancestry.specs.Verdict.{IsToldOfAll}
use Rattle.ancestry.proofs.WalkLemmas.{links_there}
use Rattle.ancestry.proofs.OptionLemmas.{is_some_of}
use Rattle.ancestry.proofs.walks.Walks.settle.Goals as goal

pub put-requires : goal.put-requires
put-requires c =
    let objects = c.loop-id.self in
    let there : first_named objects c.in-Some.id ≡ Some c.in-Some-get.object.now = sym (c.in-Some-get.ensures ∙ ap (λ (os : List Content). first_named os c.in-Some.id) c.loop-id.invariant.1) in
    record {
      object = there;
      verdict = (
        is_some_of (first_named objects c.in-Some.id) c.in-Some-get.object.now there,
        subst (λ (wants : List Want). IsToldOfAll objects wants c.in-Some-verdict_of_links.verdict) (sym (links_there objects c.in-Some.id c.in-Some-get.object.now there)) c.in-Some-verdict_of_links.ensures,
      );
    }
