use Rattle.std.proofs.Common.{take}
use Rattle.rule_compile.specs.Members.{AreMembers}
use Rattle.rule_compile.proofs.members.names_of.Given as goal

abbrev pub invariant-loop-member : goal.invariant-loop-member
invariant-loop-member l = AreMembers l.names (take l.member-index l.list)
