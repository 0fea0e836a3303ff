use Rattle.hub_history.specs.Requests.{Push}
use Rattle.event_record.specs.Bodies.{body_of}
use Rattle.stored_hub.proofs.WaitingLemmas.{group_behind}
use Rattle.stored_hub.proofs.account.ready_push.Goals as goal

pub returns-clause-body : goal.returns-clause-body
returns-clause-body c =
    group_behind c.args.account.now.queue.items c.as_slice.result.now (body_of c.args.caller (Push c.args.place c.args.request.now.pack c.args.request.now.commands c.args.request.now.atomic)) c.in_ok-builder.builder c.write_push.new.builder c.in_ok-group.group
    c.as_slice.ensures.value c.in_ok-builder.ensures c.in_ok-write_push.ensures.body c.in_ok-group.ensures
