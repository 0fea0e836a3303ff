use Rattle.std.proofs.Common.{◌-◌, List, Contains, sym, subst}
use Rattle.std.proofs.lemmas.Option.{get_or_from_slice_get}
use Rattle.git_object.specs.declared.object_id.ObjectId.{ObjectId}
use Rattle.ancestry.proofs.AboveLemmas.{high_more}
use Rattle.ancestry.proofs.ListLemmas.{contains_none}
use Rattle.ancestry.proofs.generations.high_among.Goals as goal

pub loop-left-init : goal.loop-left-init
loop-left-init c = λ id there. absurd (contains_none id (subst (λ (ids : List ObjectId). Contains ids id) c.new-high.ensures there))

pub is_high-requires-clause-high : goal.is_high-requires-clause-high
is_high-requires-clause-high c = λ other there. (c.loop-left.invariant other there).1

pub loop-left-preserved : goal.loop-left-preserved
loop-left-preserved c =
    high_more c.args.lens.now c.args.least c.args.line.now c.loop-left.high c.insert.new.self c.in-Some.id c.loop-left.invariant c.in_ok-insert.ensures
    (c.loop-left.left - 1, c.in-Some.ensures.within, get_or_from_slice_get c.args.line.now (c.loop-left.left - 1) c.in-Some.id c.in-Some.id (sym c.in-Some.ensures.id)) (c.is_high.ensures c.if-not-is_high.false)
