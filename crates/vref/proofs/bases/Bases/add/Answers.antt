use Rattle.std.proofs.Common.{List, sym, subst}
use Rattle.ref_store.specs.Objects.{first_named}
use Rattle.vref.specs.Bases.{DifferAt}
use Rattle.vref.specs.Rows.{entries_in}
use Rattle.vref.specs.declared.differences.Difference.{Difference}
use Rattle.vref.proofs.bases.Bases.add.Goals as goal

pub returns-then-count_of : goal.returns-then-count_of
returns-then-count_of c objects are list =
    c.join.ensures objects are
    (subst (λ (back : List Difference). DifferAt objects c.args.new c.args.old back) (sym c.deref.ensures.value) (c.in_ok-back.ensures (entries_in (first_named objects c.args.old)) (entries_in (first_named objects c.args.new)) list)) list

pub returns : goal.returns
returns c objects are list =
    c.join-2.ensures objects are list
    (subst (λ (back : List Difference). DifferAt objects c.args.new c.args.old back) (sym c.deref-2.ensures.value) (c.in_ok-back.ensures (entries_in (first_named objects c.args.old)) (entries_in (first_named objects c.args.new)) list))
