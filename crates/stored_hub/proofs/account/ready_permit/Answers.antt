use Rattle.hub_history.specs.Requests.{Permit}
use Rattle.event_record.specs.Bodies.{body_of}
use Rattle.stored_hub.proofs.WaitingLemmas.{group_behind}
use Rattle.stored_hub.proofs.account.ready_permit.Goals as goal

pub returns-clause-body : goal.returns-clause-body
returns-clause-body c =
    group_behind c.args.account.now.queue.items c.as_slice.result.now (body_of c.args.caller (Permit c.args.user.now c.args.repo.now c.args.change.now)) c.in_ok-builder.builder c.write_permit.new.builder c.in_ok-group.group
    c.as_slice.ensures.value c.in_ok-builder.ensures c.in_ok-write_permit.ensures.body c.in_ok-group.ensures
