use Rattle.std.proofs.Common.{List, sym, subst}
use Rattle.rule_compile.specs.RoleOptions.{AreRoles}
use Rattle.rule_compile.specs.Sound.{IsSoundOption}
use Rattle.rule_compile.specs.declared.rule.OptionLine.{OptionLine}
use Rattle.rule_compile.proofs.IndexLemmas.{all_at, taken}
use Rattle.rule_compile.proofs.policy.roles_of.Goals as goal

pub with_line-requires : goal.with_line-requires
with_line-requires c = subst IsSoundOption (sym c.line-item.is) (all_at IsSoundOption c.args.options.now c.loop-line.line-index c.line-item.result c.requires c.loop-line-test.true)

pub loop-line-preserved : goal.loop-line-preserved
loop-line-preserved c =
    subst (λ (lines : List OptionLine). AreRoles c.in_ok-roles.roles lines)
    (sym (taken c.args.options.now c.loop-line.line-index c.line-item.result c.loop-line-test.true c.line-item.is))
    (c.in_ok-roles.ensures _ c.loop-line.invariant)
