use Rattle.std.proofs.Common.{◌∙◌, ap}
use Rattle.access_check.specs.Letters.{letter_of}
use Rattle.access_check.specs.declared.letters.Flags.{Flags}
use Rattle.update_check.specs.Check.{CheckView, asked_by}
use Rattle.update_check.specs.Rules.{letter_for}
use Rattle.update_check.proofs.check.UpdateCheck.letter.Goals as goal

pub returns : goal.returns
returns c = λ ps ok.
    c.letter_of.ensures
    ∙ ap (λ (f : Flags). letter_of f c.args.facts.now) (c.self.invariant.0.letters ps ok)
    ∙ ap (λ (v : CheckView). letter_for ps v.flat.rules (asked_by ps v) c.args.facts.now) c.self.view_is
