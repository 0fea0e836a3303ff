use Rattle.std.proofs.Common.{sym, ◌∙◌}
use Rattle.vref.proofs.DifferenceLemmas.{old_known, old_more}
use Rattle.vref.proofs.differences.add_old_entries.Goals as goal

pub loop-entry-preserved-then-contains_key : goal.loop-entry-preserved-then-contains_key
loop-entry-preserved-then-contains_key c =
    old_known c.args.entries.now c.loop-entry.entry-index _ c.loop-entry.names c.loop-entry-test.true c.loop-entry.invariant (sym c.contains_key.ensures ∙ c.if-contains_key.true)

pub loop-entry-preserved : goal.loop-entry-preserved
loop-entry-preserved c =
    old_more c.args.entries.now c.loop-entry.entry-index _ c.loop-entry.names c.insert.new.self c.loop-entry-test.true c.loop-entry.invariant (sym c.contains_key.ensures ∙ c.if-contains_key.false) c.in_ok-insert.ensures.updates c.in_ok-insert.ensures.ordered
