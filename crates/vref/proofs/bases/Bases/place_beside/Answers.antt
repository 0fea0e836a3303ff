use Rattle.std.proofs.Common.{List, sym, subst}
use Rattle.ref_store.specs.Objects.{first_named}
use Rattle.vref.specs.Bases.{DifferAt}
use Rattle.vref.specs.Rows.{entries_in}
use Rattle.vref.specs.declared.differences.Difference.{Difference}
use Rattle.vref.proofs.BaseLemmas.{based_more, based_same}
use Rattle.vref.proofs.bases.Bases.place_beside.Goals as goal

pub returns-in_err-insert : goal.returns-in_err-insert
returns-in_err-insert c objects are right = based_same objects c.args.self.now (record { trees = c.insert.new.self; counts = c.args.self.now.counts }) c.in_err-insert.ensures.err are

pub returns-in_err-count_one_more : goal.returns-in_err-count_one_more
returns-in_err-count_one_more c objects are right =
    c.count_one_more.ensures objects
    (based_more objects c.args.self.now (record { trees = c.insert.new.self; counts = c.args.self.now.counts }) c.args.other (record { base = c.in-Some.placed.now.base; list = c.in_ok-through.through }) are
    (c.in_ok-through.ensures (entries_in (first_named objects c.in-Some.placed.now.base)) (entries_in (first_named objects c.args.one)) (entries_in (first_named objects c.args.other))
    (subst (λ (list : List Difference). DifferAt objects c.in-Some.placed.now.base c.args.one list) (sym c.deref.ensures.value) (are c.args.one c.in-Some.placed.now (sym c.in-Some.ensures.value))) right)
    c.in_ok-insert.ensures.updates.0)

pub returns : goal.returns
returns c objects are right =
    c.count_one_more.ensures objects
    (based_more objects c.args.self.now (record { trees = c.insert.new.self; counts = c.args.self.now.counts }) c.args.other (record { base = c.in-Some.placed.now.base; list = c.in_ok-through.through }) are
    (c.in_ok-through.ensures (entries_in (first_named objects c.in-Some.placed.now.base)) (entries_in (first_named objects c.args.one)) (entries_in (first_named objects c.args.other))
    (subst (λ (list : List Difference). DifferAt objects c.in-Some.placed.now.base c.args.one list) (sym c.deref.ensures.value) (are c.args.one c.in-Some.placed.now (sym c.in-Some.ensures.value))) right)
    c.in_ok-insert.ensures.updates.0)
