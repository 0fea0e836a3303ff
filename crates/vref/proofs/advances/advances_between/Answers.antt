use Rattle.std.proofs.Common.{◌≡◌, ◌++◌, ◌∙◌, List, sym, ap, subst}
use Rattle.std.specs.List.{AllZip}
use Rattle.git_object.specs.Content.{Content}
use Rattle.ancestry.specs.declared.ancestors.Advance.{Advance}
use Rattle.vref.specs.Advances.{IsAdvance}
use Rattle.vref.proofs.ListLemmas.{of_some, split_more, zip_both}
use Rattle.vref.proofs.advances.advances_between.Goals as goal

pub loop-rest-preserved : goal.loop-rest-preserved
loop-rest-preserved c =
    let objects = c.args.lens.now in
    let before = c.loop-rest.invariant.0 in
    let front = c.split_at.result.0.now in
    let told = c.in_ok-told.told.items in
    let same : c.in-Some.history ≡ objects = of_some c.in_ok-history.field-0 c.in-Some.history (λ history. history ≡ objects) c.in-Some.is c.in_ok-history.ensures in
    let fits : AllZip (IsAdvance objects) front told = subst (λ (os : List Content). AllZip (IsAdvance os) front told) same c.in_ok-told.ensures in (
      before ++ front,
      split_more before front c.split_at.result.1.now c.loop-rest.rest.now c.args.pairs.now c.min.result c.loop-rest.invariant.1 c.split_at.ensures.front c.split_at.ensures.back,
      subst (λ (advances : List Advance). AllZip (IsAdvance objects) (before ++ front) advances)
          (sym (c.in_ok-extend_from_slice.ensures.items ∙ ap (λ (more : List Advance). c.loop-rest.advances.items ++ more) c.deref.ensures.value))
          (zip_both (IsAdvance objects) before front c.loop-rest.advances.items told c.loop-rest.invariant.2 fits),
    )
