-- That a hub whose events are stored may go from thread to thread, where its disk may.
use denote.Param.Send.{IsSend, recorded_send, sendable, struct_send}
use denote.RattleType.{RattleType}
use denote.Struct.Declared.{shape}
use Rattle.std.proofs.Crossing as heap
use Rattle.record_file.specs.declared.disk.Disk.{Ghosts}
use Rattle.shared_hub.proofs.Crosses.{hub_send}
use Rattle.stored_hub.specs.contracts.stored.StoredHub as StoredHub

pub stored_send : (Y : RattleType) (ghosts : Ghosts Y.Denot) → IsSend Y → IsSend (StoredHub.the_row Y ghosts)
stored_send Y ghosts y =
    let fields = struct_send (shape (StoredHub.the_type Y ghosts)) (
      search (y, sendable) depth 30,
      (search (hub_send, sendable) depth 30, (search (heap.crosses, sendable) depth 60, (search sendable depth 30, (search sendable depth 30, (search (heap.crosses, sendable) depth 60, tt))))),
    ) in
    recorded_send _ _ _ (StoredHub.the_type Y ghosts).to_one fields
