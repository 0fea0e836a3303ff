use Rattle.std.proofs.Common.{ap, ◌∙◌}
use Rattle.access_check.specs.Users.{Asked}
use Rattle.access_check.specs.Verdicts.{first_stage}
use Rattle.access_check.proofs.opening.unborn_stage.Goals as goal

pub returns : goal.returns
returns c = λ ps ok. c.verdict_on_opening.ensures ps ok ∙ ap (λ (a : Asked). first_stage ps c.args.policy.now a c.args.want) (c.unborn.ensures ps)
