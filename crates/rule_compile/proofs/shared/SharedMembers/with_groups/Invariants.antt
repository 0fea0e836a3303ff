use Rattle.rule_compile.specs.Shared.{AreShared}
use Rattle.rule_compile.proofs.shared.SharedMembers.with_groups.Given as goal

abbrev pub invariant-loop-word : goal.invariant-loop-word
invariant-loop-word l = AreShared l.shared l.conf.placed.now
