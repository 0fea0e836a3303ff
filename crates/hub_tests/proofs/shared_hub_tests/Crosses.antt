-- That a caller may go to another thread.
use denote.Param.Send.{IsSend, IsSync, recorded_send, sendable, struct_send, view_send}
use denote.RattleType.{RattleType}
use denote.Ref.{NamedLft}
use denote.Struct.Declared.{row, shape}
use Rattle.std.proofs.Crossing as heap
use Rattle.shared_hub.proofs.Crosses.{crosses, desk_send, pin_send}
use Rattle.shared_hub.specs.declared.event_hub.EventHub.{Ghosts}
use Rattle.hub_tests.specs.contracts.shared_hub_tests.caller.Caller as Caller
use Rattle.hub_tests.specs.contracts.shared_hub_tests.caller.Caller.TheInside as CallerInside
use Rattle.hub_tests.specs.contracts.shared_hub_tests.caller.Job as Job

job_sync : IsSync Job.the_row
job_sync = search crosses depth 100 fits 50000

pub caller_send : (κ : NamedLft) (R H : RattleType) (ghosts : Ghosts H.Denot) → IsSync R → IsSend H → IsSend (Caller.the_row κ R H ghosts)
caller_send κ R H ghosts y h =
    let inside = struct_send (shape (CallerInside.the_type κ R H ghosts)) (
      search (desk_send κ R H ghosts y h, sendable) depth 30,
      (search (job_sync, sendable) depth 30, (search (pin_send, heap.crosses, sendable) depth 60, (search (heap.crosses, sendable) depth 60, tt))),
    ) in
    let whole : IsSend (row (CallerInside.the_type κ R H ghosts)) = recorded_send _ _ _ (CallerInside.the_type κ R H ghosts).to_one inside in
    view_send (row (CallerInside.the_type κ R H ghosts)) _ _ _ _ whole
