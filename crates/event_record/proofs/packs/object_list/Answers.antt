use Rattle.std.proofs.lemmas.Result.{err_from_is_err_and}
use Rattle.event_record.specs.Reading.{object_at, body_size, items_at}
use Rattle.event_record.proofs.Loop.{goes_on, ends, is_done}
use Rattle.event_record.proofs.packs.object_list.Goals as goal

pub returns-in_err-object : goal.returns-in_err-object
returns-in_err-object c =
    let p = err_from_is_err_and c.from_residual.result c.from_residual.ensures.1 in
    rw (p.1, p.2) (ends object_at body_size c.in_err-object.field-0.0 c.loop.objects c.args.count c.loop.counter c.loop.left c.loop.rest.now (items_at object_at body_size c.args.count 268435456 c.args.bytes.now) c.loop-test.true c.in_err-object.ensures c.loop.invariant)

pub loop-preserved : goal.loop-preserved
loop-preserved c =
    rw (c.in_ok-push.ensures.ok, c.saturating_sub-left.ensures, c.body.ensures.body) (goes_on object_at body_size c.loop.objects c.args.count c.loop.counter c.loop.left c.loop.rest.now c.in_ok-object.object c.in_ok-object.after.now (items_at object_at body_size c.args.count 268435456 c.args.bytes.now) c.loop-test.true c.in_ok-object.ensures c.loop.invariant)

pub returns : goal.returns
returns c = is_done object_at body_size c.loop.objects c.args.count c.loop.counter c.loop.left c.loop.rest.now (items_at object_at body_size c.args.count 268435456 c.args.bytes.now) c.loop-test.false c.loop.invariant
