use Rattle.raw_pack.proofs.ReadLemmas.{room_filled, room_ended, room_failed}
use Rattle.raw_pack.proofs.input.take_bytes.Goals as goal

pub returns-in-Ok-clause-reads : goal.returns-in-Ok-clause-reads
returns-in-Ok-clause-reads g c = room_filled _ _ _ _ _ _ c.take_all.new.room c.take_all.auto.room c.in-Ok.ensures.takes c.update.ensures

pub returns-in-Err-Ended-clause-reads : goal.returns-in-Err-Ended-clause-reads
returns-in-Err-Ended-clause-reads g c = room_ended _ _ _ _ _ _ c.take_all.new.room c.take_all.auto.room (rw c.in-Err-Ended.field-0-is at c.in-Err-Ended.ensures.takes)

pub returns-in-Err-Failed-clause-reads : goal.returns-in-Err-Failed-clause-reads
returns-in-Err-Failed-clause-reads g c = room_failed _ _ _ _ _ _ c.take_all.new.room c.take_all.auto.room (rw c.in-Err-Failed.field-0-is at c.in-Err-Failed.ensures.takes)
