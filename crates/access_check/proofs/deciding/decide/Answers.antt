use Rattle.std.proofs.Common.{ap, ◌∙◌}
use Rattle.access_check.specs.Users.{Asked}
use Rattle.access_check.specs.Verdicts.{decide}
use Rattle.access_check.proofs.deciding.decide.Goals as goal

pub returns : goal.returns
returns c = λ ps ok. c.verdict_on_ref.ensures ps ok ∙ ap (λ (a : Asked). decide ps c.args.policy.now.rules a c.args.letter c.args.name.now) (c.of.ensures ps)
