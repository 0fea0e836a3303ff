use Rattle.std.proofs.Common.{◌≡◌, length, ap, sym}
use Rattle.raw_pack.proofs.ReaderLemmas.{goes_more, goes_cut}
use Rattle.raw_pack.proofs.reader.PackReader.read_next.Goals as goal

pub returns-in-Ok-clause-goes_on : goal.returns-in-Ok-clause-goes_on
returns-in-Ok-clause-goes_on g c =
    let size : length c.body.result.now ≡ length c.in-Ok.object.body = ap length c.body.ensures.body in
    goes_more _ _ _ _ (sym c.self.view_is) _ c.in-Ok.object _ c.requires.more c.requires.goes size c.in-Ok.ensures.reads c.read_object.ensures.later

pub returns-in-Err-clause-goes_on : goal.returns-in-Err-clause-goes_on
returns-in-Err-clause-goes_on g c = goes_cut _ _ _ _ (sym c.self.view_is) _ c.in-Err.fault c.requires.more c.in-Err.ensures.reads
