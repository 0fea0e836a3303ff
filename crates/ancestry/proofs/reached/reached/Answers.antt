use Rattle.std.proofs.Common.{sym}
use Rattle.ancestry.proofs.WalkedLemmas.{ended}
use Rattle.ancestry.proofs.ReachedLemmas.{walk_begins, walk_goes_on, walk_ends}
use Rattle.ancestry.proofs.reached.reached.Goals as goal

pub loop-id-init : goal.loop-id-init
loop-id-init g c = walk_begins (g.S.Steps.next c.args.steps.now) c.args.roots.now c.new-set.result c.insert_all.new.self c.new-set.ensures c.in_ok-insert_all.ensures

pub loop-id-preserved : goal.loop-id-preserved
loop-id-preserved g c = walk_goes_on (g.S.Steps.next c.args.steps.now) c.args.roots.now c.loop-id.set c.insert_next.new.set c.loop-id.next c.in-Some.id c.loop-id.invariant (sym c.in-Some.ensures.id) c.in-Some.ensures.within c.in_ok-insert_next.ensures

pub returns : goal.returns
returns g c id = walk_ends (g.S.Steps.next c.args.steps.now) c.args.roots.now c.loop-id.set c.loop-id.next c.loop-id.invariant (ended c.loop-id.set c.loop-id.next (sym c.in_default.ensures.id)) id
