use Rattle.std.proofs.Common.{ap, ◌∙◌}
use Rattle.access_check.specs.Users.{Asked}
use Rattle.access_check.specs.Verdicts.{creating_stage}
use Rattle.access_check.proofs.opening.may_create.Goals as goal

pub returns : goal.returns
returns c = λ ps ok. c.verdict_on_creating.ensures ps ok ∙ ap (λ (a : Asked). creating_stage ps c.args.policy.now a) (c.unborn.ensures ps)
