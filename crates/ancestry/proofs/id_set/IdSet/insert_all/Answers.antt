use Rattle.std.proofs.Common.{◌+◌, take, sym}
use Rattle.std.proofs.lemmas.List.{take_more}
use Rattle.ancestry.proofs.ReachedLemmas.{adds_more}
use Rattle.ancestry.proofs.id_set.IdSet.insert_all.Goals as goal

pub loop-id-preserved : goal.loop-id-preserved
loop-id-preserved c =
    adds_more c.args.self.now c.loop-id.self c.insert.new.self (take c.loop-id.id-index c.args.ids.now) (take (c.loop-id.id-index + 1) c.args.ids.now) _ c.loop-id.invariant c.in_ok-insert.ensures
    (sym (take_more c.args.ids.now c.loop-id.id-index _ c.loop-id-test.true))
