use Rattle.std.proofs.Common.{◌≡◌, ◌++◌, take, length, arith, rules, length-append}
use Rattle.std.proofs.lemmas.List.{length-take-le}
use Rattle.script_frames.proofs.ReadingLemmas.{takes_more}
use Rattle.script_frames.proofs.frames.read_body.Goals as goal

pub returns-in-Err-Ended-clause-err : goal.returns-in-Err-Ended-clause-err
returns-in-Err-Ended-clause-err g c =
    let taken = rw c.in-Err-Ended.field-0-is at c.in-Err-Ended.ensures.takes in
    let len = length-take-le taken.n c.take_all.new.room taken.within in
    let room : length c.take_all.new.room ≡ c.min-wanted.result = search rules in
    record {
      part = c.loop-body.body.items ++ take taken.n c.take_all.new.room;
      takes = takes_more _ _ _ _ _ c.loop-body.invariant.takes (record { consumed = taken.consumed; counted = omega (arith, taken.counted, len) });
      short = omega (arith, taken.ended.0, len, room, c.min-wanted.ensures, c.len-filled.ensures, c.loop-body.invariant.within, length-append c.loop-body.body.items (take taken.n c.take_all.new.room));
      ended = taken.ended.1;
    }

pub returns-in-Err-Failed-clause-err : goal.returns-in-Err-Failed-clause-err
returns-in-Err-Failed-clause-err g c =
    let taken = rw c.in-Err-Failed.field-0-is at c.in-Err-Failed.ensures.takes in
    let len = length-take-le taken.n c.take_all.new.room taken.within in
    let room : length c.take_all.new.room ≡ c.min-wanted.result = search rules in
    record {
      part = c.loop-body.body.items ++ take taken.n c.take_all.new.room;
      short = omega (arith, taken.ended.0, len, room, c.min-wanted.ensures, c.len-filled.ensures, c.loop-body.invariant.within, length-append c.loop-body.body.items (take taken.n c.take_all.new.room));
      fails = record {
        takes = takes_more _ _ _ _ _ c.loop-body.invariant.takes (record { consumed = taken.consumed; counted = omega (arith, taken.counted, len) });
        risen = rw c.loop-body.invariant.tells at taken.ended.1;
        may_fail = rw c.loop-body.invariant.later.may_fail at taken.ended.2;
      };
    }
