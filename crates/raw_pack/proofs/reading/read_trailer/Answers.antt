use Rattle.std.proofs.Common.{◌≡◌, true, false, rules}
use Rattle.std.specs.Str.{bytes_eq}
use Rattle.raw_pack.proofs.PackLemmas.{trailer_ended, trailer_failed, trailer_same, trailer_other}
use Rattle.raw_pack.proofs.reading.read_trailer.Goals as goal

pub returns-in-Err-Ended-clause-reads : goal.returns-in-Err-Ended-clause-reads
returns-in-Err-Ended-clause-reads g c = trailer_ended _ _ _ _ c.take_all.new.room c.take_all.auto.room (rw c.in-Err-Ended.field-0-is at c.in-Err-Ended.ensures.takes)

pub returns-in-Err-Failed-clause-reads : goal.returns-in-Err-Failed-clause-reads
returns-in-Err-Failed-clause-reads g c = trailer_failed _ _ _ _ c.take_all.new.room c.take_all.auto.room (rw c.in-Err-Failed.field-0-is at c.in-Err-Failed.ensures.takes)

pub returns-then-eq-clause-reads : goal.returns-then-eq-clause-reads
returns-then-eq-clause-reads g c =
    let same : bytes_eq c.take_all.new.room c.args.computed ≡ true = search rules in
    trailer_same _ _ _ _ c.take_all.new.room c.take_all.auto.room same c.in-Ok.ensures.takes

pub returns-clause-reads : goal.returns-clause-reads
returns-clause-reads g c =
    let other : bytes_eq c.take_all.new.room c.args.computed ≡ false = search rules in
    trailer_other _ _ _ _ c.take_all.new.room c.take_all.auto.room other c.in-Ok.ensures.takes
