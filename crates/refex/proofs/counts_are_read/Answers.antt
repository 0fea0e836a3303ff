use Rattle.refex.proofs.CountLemmas.{counts_are_read}
use Rattle.refex.proofs.counts_are_read.Goals as goal

pub returns : goal.returns
returns c = counts_are_read
