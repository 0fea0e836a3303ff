use Rattle.event_record.specs.Asked.{asked}
use Rattle.hub_journal.proofs.RecoveryLemmas.{bad_event}
use Rattle.hub_journal.proofs.recovery.replay_record.Goals as goal

pub returns-in-Err-Impossible-clause-refused : goal.returns-in-Err-Impossible-clause-refused
returns-in-Err-Impossible-clause-refused c =
    bad_event c.hold_laws.ensures.front c.args.replay c.args.stored.now c.bytes.result.now c.in-Ok.request.caller (asked c.in-Ok.request.request) c.bytes.ensures c.in-Ok.ensures.found.0 c.in-Ok.ensures.found.1
    (λ foreseen. c.in-Err-Impossible.ensures.impossible c.in-Err-Impossible.field-0-is foreseen)
