use Rattle.vref.proofs.BitLemmas.{has_without}
use Rattle.vref.proofs.bits.without.Goals as goal

pub returns : goal.returns
returns c = λ k. has_without c.args.word c.args.other k c.ranges.word.fits c.ranges.other.fits
