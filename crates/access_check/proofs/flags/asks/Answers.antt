use Rattle.std.proofs.Common.{◌≡◌, false, sym}
use Rattle.std.proofs.lemmas.Bool.{and_right}
use Rattle.access_check.specs.Questions.{asked_by}
use Rattle.access_check.specs.Verdicts.{covers, is_of_vref}
use Rattle.access_check.proofs.flags.asks.Goals as goal

pub returns-then-not-is_of_vref : goal.returns-then-not-is_of_vref
returns-then-not-is_of_vref c = λ ps ok.
    let other : is_of_vref c.args.which c.args.rule.now.refex ≡ false = cc in
    sym (and_right (covers ps (asked_by ps c.args.question.now) c.args.rule.now) (is_of_vref c.args.which c.args.rule.now.refex) other)
