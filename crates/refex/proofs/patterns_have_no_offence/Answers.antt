use Rattle.refex.specs.Text.{items}
use Rattle.refex.proofs.NoOffence.{no_offence}
use Rattle.refex.proofs.patterns_have_no_offence.Goals as goal

pub returns : goal.returns
returns c = λ hole text p r. no_offence (items hole text) p r
