use Rattle.std.proofs.Common.{◌∙◌, ap}
use Rattle.std.specs.Prelude.{codes}
use Rattle.std.specs.Option.{option_copied}
use Rattle.rule_compile.specs.Covering.{deny_rules}
use Rattle.rule_compile.specs.Flat.{Flat}
use Rattle.rule_compile.proofs.IndexLemmas.{option_of_lines}
use Rattle.rule_compile.proofs.policy.Policy.deny_rules.Goals as goal

pub returns : goal.returns
returns c = λ ps ok.
    c.is_in_force.ensures ps ok _ c.self.invariant.3
    ∙ option_of_lines ps (codes "deny-rules") c.self.inside.options c.args.repo.now (option_copied c.args.creator)
    ∙ ap (λ (f : Flat). deny_rules ps f.options c.args.repo.now (option_copied c.args.creator)) c.self.view_is
