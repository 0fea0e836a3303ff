use Rattle.refex.specs.Text.{items}
use Rattle.refex.specs.Refex.{forms}
use Rattle.refex.proofs.OnePattern.{one_pattern}
use Rattle.refex.proofs.spells_one_pattern.Goals as goal

pub returns : goal.returns
returns c = λ hole text p q r s. one_pattern (forms (items hole text)) p q r.reads s.reads
