use Rattle.refex.proofs.ClassLemmas.{classes_are_read}
use Rattle.refex.proofs.classes_are_read.Goals as goal

pub returns : goal.returns
returns c = classes_are_read
