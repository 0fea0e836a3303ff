use Rattle.rule_compile.specs.Shared.{AreShared}
use Rattle.rule_compile.proofs.policy.share_members.Given as goal

abbrev pub invariant-loop-placed : goal.invariant-loop-placed
invariant-loop-placed l = AreShared l.shared l.conf.placed.now
