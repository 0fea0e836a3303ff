use Rattle.std.proofs.Common.{take}
use Rattle.rule_compile.specs.RoleOptions.{AreRoles}
use Rattle.rule_compile.proofs.policy.roles_of.Given as goal

abbrev pub invariant-loop-line : goal.invariant-loop-line
invariant-loop-line l = AreRoles l.roles (take l.line-index l.options)
