use Rattle.std.proofs.Common.{List, sym, subst}
use Rattle.ref_store.specs.Objects.{first_named}
use Rattle.vref.specs.Rows.{entries_in}
use Rattle.vref.specs.Differences.{AreDifferences}
use Rattle.vref.specs.declared.differences.Difference.{Difference}
use Rattle.vref.proofs.comparisons.Comparisons.differences_of.Goals as goal

pub returns : goal.returns
returns c =
    subst (λ (xs : List Difference). AreDifferences (entries_in (first_named c.args.lens.now c.args.pair.old)) (entries_in (first_named c.args.lens.now c.args.pair.new)) xs) (sym c.deref.ensures.value)
    (c.requires.sound.pairs c.args.pair c.in-Some.list.now (sym c.in-Some.ensures.value))
