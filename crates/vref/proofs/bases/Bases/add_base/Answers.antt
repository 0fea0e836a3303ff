use Rattle.std.proofs.Common.{List, sym, subst}
use Rattle.ref_store.specs.Objects.{first_named}
use Rattle.vref.specs.Bases.{DifferAt}
use Rattle.vref.specs.Rows.{entries_in}
use Rattle.vref.specs.declared.differences.Difference.{Difference}
use Rattle.vref.proofs.BaseLemmas.{based_more, based_same}
use Rattle.vref.proofs.ThroughLemmas.{differ_nowhere}
use Rattle.vref.proofs.bases.Bases.add_base.Goals as goal

pub returns-in_err-insert : goal.returns-in_err-insert
returns-in_err-insert c objects are = based_same objects c.args.self.now (record { trees = c.insert.new.self; counts = c.args.self.now.counts }) c.in_err-insert.ensures.err are

pub returns : goal.returns
returns c objects are =
    c.count_one_more.ensures objects
    (based_more objects c.args.self.now (record { trees = c.insert.new.self; counts = c.args.self.now.counts }) c.args.id (record { base = c.args.id; list = c.new.result }) are
    (subst (λ (list : List Difference). DifferAt objects c.args.id c.args.id list) (sym c.new.ensures.items) (differ_nowhere (entries_in (first_named objects c.args.id)))) c.in_ok-insert.ensures.updates.0)
