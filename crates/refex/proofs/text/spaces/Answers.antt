use Rattle.std.proofs.Common.{◌∙◌}
use Rattle.refex.specs.Text.{either_of}
use Rattle.refex.proofs.text.spaces.Goals as goal

pub returns : goal.returns
returns c = c.or.ensures ∙ (λ i. either_of (c.range.ensures i) (c.range-2.ensures i))
