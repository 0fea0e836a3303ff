use Rattle.std.proofs.Common.{List, sym, subst}
use Rattle.git_object.specs.declared.object_id.ObjectId.{ObjectId}
use Rattle.ref_store.specs.Objects.{first_named}
use Rattle.vref.specs.Bases.{DifferAt}
use Rattle.vref.specs.Rows.{entries_in}
use Rattle.vref.specs.declared.differences.Difference.{Difference}
use Rattle.vref.proofs.BaseLemmas.{one_base}
use Rattle.vref.proofs.bases.Bases.differences_by_base.Goals as goal

pub returns : goal.returns
returns c objects are =
    let one = subst (λ (list : List Difference). DifferAt objects c.in-Some.one.now.base c.args.old list) (sym c.deref.ensures.value) (are c.args.old c.in-Some.one.now (sym c.in-Some.ensures.value)) in
    let other = subst (λ (list : List Difference). DifferAt objects c.in-Some-get.other.now.base c.args.new list) (sym c.deref-3.ensures.value) (are c.args.new c.in-Some-get.other.now (sym c.in-Some-get.ensures.value)) in
    let back = subst (λ (list : List Difference). DifferAt objects c.args.old c.in-Some.one.now.base list) (sym c.deref-2.ensures.value) (c.in_ok-back.ensures (entries_in (first_named objects c.in-Some.one.now.base)) (entries_in (first_named objects c.args.old)) one) in
    c.in_ok-list.ensures (entries_in (first_named objects c.args.old)) (entries_in (first_named objects c.in-Some.one.now.base)) (entries_in (first_named objects c.args.new)) back
    (subst (λ (base : ObjectId). DifferAt objects base c.args.new c.deref-3.result.now) (one_base c.in-Some.one.now.base c.in-Some-get.other.now.base c.ne.result c.ne.ensures c.if-ne.false) other)
