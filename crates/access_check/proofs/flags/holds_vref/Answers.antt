use Rattle.std.proofs.Common.{ap, ◌∙◌}
use Rattle.access_check.specs.Users.{Asked}
use Rattle.access_check.specs.Verdicts.{holds_vref}
use Rattle.access_check.proofs.flags.holds_vref.Goals as goal

pub returns : goal.returns
returns c = λ ps ok. c.some_rule_asks.ensures ps ok ∙ ap (λ (a : Asked). holds_vref ps c.args.policy.now.rules a c.args.which) (c.of.ensures ps)
