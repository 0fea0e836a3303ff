use Rattle.std.proofs.lemmas.Result.{err_from_is_err_and}
use Rattle.event_record.specs.Reading.{command_within, no_cost, items_at}
use Rattle.event_record.proofs.Loop.{goes_on, ends, is_done}
use Rattle.event_record.proofs.packs.command_list.Goals as goal

pub returns-in_err-command : goal.returns-in_err-command
returns-in_err-command c =
    let p = err_from_is_err_and c.from_residual.result c.from_residual.ensures.1 in
    rw (p.1, p.2) (ends command_within no_cost c.in_err-command.field-0.0 c.loop.commands c.args.count c.loop.counter 0 c.loop.rest.now (items_at command_within no_cost c.args.count 0 c.args.bytes.now) c.loop-test.true c.in_err-command.ensures c.loop.invariant)

pub loop-preserved : goal.loop-preserved
loop-preserved c =
    rw c.in_ok-push.ensures.ok (goes_on command_within no_cost c.loop.commands c.args.count c.loop.counter 0 c.loop.rest.now c.in_ok-command.command c.in_ok-command.after.now (items_at command_within no_cost c.args.count 0 c.args.bytes.now) c.loop-test.true c.in_ok-command.ensures c.loop.invariant)

pub returns : goal.returns
returns c = is_done command_within no_cost c.loop.commands c.args.count c.loop.counter 0 c.loop.rest.now (items_at command_within no_cost c.args.count 0 c.args.bytes.now) c.loop-test.false c.loop.invariant
