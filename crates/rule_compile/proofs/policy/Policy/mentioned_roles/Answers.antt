use Rattle.std.proofs.Common.{ℕ, List, ◌∙◌, ap}
use Rattle.conf_groups.specs.Groups.{holds}
use Rattle.rule_compile.specs.Flat.{Flat}
use Rattle.rule_compile.specs.Roles.{is_mentioned}
use Rattle.rule_compile.proofs.policy.Policy.mentioned_roles.Goals as goal

pub returns : goal.returns
returns c = λ word.
    ap (λ (names : List (List ℕ)). holds names word) c.as_slice.ensures
    ∙ c.self.invariant.4.names word
    ∙ ap (λ (f : Flat). is_mentioned f.options word) c.self.view_is
