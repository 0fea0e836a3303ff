use Rattle.std.proofs.Common.{◌∙◌, ap}
use Rattle.std.specs.Option.{option_copied}
use Rattle.rule_compile.specs.Flat.{Flat}
use Rattle.rule_compile.specs.Roles.{declares}
use Rattle.rule_compile.proofs.policy.Policy.declares.Goals as goal

pub returns : goal.returns
returns c = λ ps ok.
    c.declares.ensures ps ok _ c.self.invariant.4
    ∙ ap (λ (f : Flat). declares ps f.options c.args.role.now c.args.repo.now (option_copied c.args.creator)) c.self.view_is
