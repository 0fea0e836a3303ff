use denote.Param.Send.{sendable}
use Rattle.rule_compile.proofs.PolicyCrosses.{policy_send, policy_sync}
use Rattle.rule_tests.proofs.rule_compile_tests.threads_share_a_policy.Goals as goal

pub crosses_threads-requires-send-T : goal.crosses_threads-requires-send-T
crosses_threads-requires-send-T c κs = search (policy_send, sendable)

pub crosses_threads-requires-sync-T : goal.crosses_threads-requires-sync-T
crosses_threads-requires-sync-T c κs = search (policy_sync, sendable)
