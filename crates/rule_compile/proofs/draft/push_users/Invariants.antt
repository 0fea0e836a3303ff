use Rattle.std.proofs.Common.{◌≡◌, drop}
use Rattle.rule_compile.specs.Flat.{pushed, for_users}
use Rattle.rule_compile.proofs.draft.push_users.Given as goal

abbrev pub invariant-loop-user : goal.invariant-loop-user
invariant-loop-user l = pushed l.line l.perm l.fn.rules (for_users l.repo l.refex l.users) ≡ pushed l.line l.perm l.rules (for_users l.repo l.refex (drop l.user-index l.users))
