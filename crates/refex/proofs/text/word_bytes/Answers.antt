use Rattle.std.proofs.Common.{◌∙◌}
use Rattle.refex.specs.Text.{either_of}
use Rattle.refex.proofs.text.word_bytes.Goals as goal

pub returns : goal.returns
returns c =
    let letters = c.or-letters.ensures ∙ (λ i. either_of (c.range.ensures i) (c.range-2.ensures i)) in
    let named = c.or.ensures ∙ (λ i. either_of (c.range-3.ensures i) (letters i)) in
    c.or-2.ensures ∙ (λ i. either_of (named i) (c.range-4.ensures i))
