use Rattle.std.proofs.Common.{sym}
use Rattle.raw_pack.proofs.ReaderLemmas.{goes_end, goes_broken}
use Rattle.raw_pack.proofs.reader.PackReader.check_trailer.Goals as goal

pub returns-in-Ok-clause-goes_on : goal.returns-in-Ok-clause-goes_on
returns-in-Ok-clause-goes_on g c = goes_end _ _ _ _ (sym c.self.view_is) _ _ c.self.invariant.0 c.requires.all (rw c.replace-hasher.ensures.value at c.finalize.ensures) c.in-Ok.ensures.reads

pub returns-in-Err-clause-goes_on : goal.returns-in-Err-clause-goes_on
returns-in-Err-clause-goes_on g c = goes_broken _ _ _ _ (sym c.self.view_is) _ _ c.self.invariant.0 c.requires.all (rw c.replace-hasher.ensures.value at c.finalize.ensures) c.in-Err.fault c.in-Err.ensures.reads
