use Rattle.refex.proofs.WrittenTexts.{patterns_are_read}
use Rattle.refex.proofs.patterns_are_read.Goals as goal

pub returns : goal.returns
returns c = patterns_are_read
