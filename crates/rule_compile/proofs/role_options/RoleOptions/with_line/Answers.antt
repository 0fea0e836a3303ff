use Rattle.std.proofs.Common.{ℕ, List, sym, ap, ◌∙◌}
use Rattle.std.specs.Str.{bytes_eq}
use Rattle.rule_compile.specs.Roles.{role_key}
use Rattle.rule_compile.proofs.RoleLemmas.{passed_by}
use Rattle.rule_compile.proofs.role_options.RoleOptions.with_line.Goals as goal

pub returns-in-None : goal.returns-in-None
returns-in-None c = λ lines are.
    passed_by c.args.self lines c.args.line.now (λ word role. ap (λ (k : List ℕ). bytes_eq k (role_key word)) (sym c.bytes.ensures) ∙ c.in-None.ensures.none word role) are
