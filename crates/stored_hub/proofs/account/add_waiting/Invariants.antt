use Rattle.std.proofs.Common.{◌≡◌, ◌++◌, [], take}
use Rattle.stored_hub.specs.Stored.{bodies_waiting}
use Rattle.stored_hub.proofs.account.add_waiting.Given as goal

abbrev pub invariant-loop-queued : goal.invariant-loop-queued
invariant-loop-queued l = l.builder ≡ record { bodies = l.initial.builder.bodies ++ bodies_waiting (take l.queued-index l.queue); body = [] }
