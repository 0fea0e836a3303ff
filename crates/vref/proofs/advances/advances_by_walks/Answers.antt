use Rattle.std.proofs.Common.{◌+◌, List, take, sym, subst}
use Rattle.std.specs.List.{AllZip}
use Rattle.ancestry.specs.declared.ancestors.Advance.{Advance}
use Rattle.vref.specs.Advances.{IsAdvance}
use Rattle.vref.proofs.ListLemmas.{zip_more}
use Rattle.vref.proofs.advances.advances_by_walks.Goals as goal

pub loop-pair-preserved : goal.loop-pair-preserved
loop-pair-preserved c =
    subst (λ (advances : List Advance). AllZip (IsAdvance c.args.lens.now) (take (c.loop-pair.pair-index + 1) c.args.pairs.now) advances) (sym c.in_ok-push.ensures.items)
    (zip_more (IsAdvance c.args.lens.now) c.args.pairs.now c.loop-pair.advances.items c.loop-pair.pair-index _ c.in_ok-advance_by_walk.field-0 c.loop-pair-test.true c.loop-pair.invariant c.in_ok-advance_by_walk.ensures)
