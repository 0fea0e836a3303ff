use Rattle.stored_hub.proofs.WaitingLemmas.{waiting_more}
use Rattle.stored_hub.proofs.account.add_waiting.Goals as goal

pub loop-queued-preserved : goal.loop-queued-preserved
loop-queued-preserved c =
    waiting_more c.args.queue.now c.loop-queued.queued-index c.queued-item.result c.args.builder.now.bodies c.loop-queued.builder c.write_enter.new.builder c.next_record.new.self
    c.loop-queued-test.true c.queued-item.is c.loop-queued.invariant c.in_ok-write_enter.ensures.body c.in_ok-next_record.ensures.ok
