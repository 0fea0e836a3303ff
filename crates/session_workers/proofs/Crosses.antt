-- That posts may go from thread to thread, and what their workers share.
use Rattle.std.proofs.Common.{ℕ, List, [], ◌∷◌}
use denote.Param.Send.{IsSend, IsSync, recorded_send, recorded_sync, sendable, struct_send, struct_sync}
use denote.Param.{param}
use denote.RattleType.{RattleType}
use denote.Ref.{NamedLft}
use denote.Struct.Declared.{shape}
use denote.Struct.Field.{shr_ref_field, u64-field}
use denote.Struct.Tuple.{TupleAt, type_at}
use Rattle.std.proofs.Crossing as heap
use Rattle.std.specs.contracts.alloc.Global as Global
use Rattle.turn_lock.proofs.Crosses.{pass_send}
use Rattle.shared_hub.specs.declared.event_hub.EventHub.{Ghosts}
use Rattle.shared_hub.specs.contracts.shared.SharedHub as SharedHub
use Rattle.shared_hub.proofs.Crosses.{kept_send, shared_sync}
use Rattle.session_workers.specs.contracts.post.Post as Post

pub post_send : (D G H P : RattleType) (ghosts : Ghosts H.Denot) → IsSend D → IsSend G → IsSend H → IsSend P → IsSend (Post.the_row D G H P ghosts)
post_send D G H P ghosts d g h p =
    let fields = struct_send (shape (Post.the_type D G H P ghosts)) (
      search (d, sendable) depth 30,
      (search (g, sendable) depth 30, (search (p, sendable) depth 30, (search (pass_send, kept_send, sendable) depth 60, (search sendable depth 60, tt)))),
    ) in
    recorded_send _ _ _ (Post.the_type D G H P ghosts).to_one fields

-- what the workers' closure has taken: references to the runtime, the allocator, the hub and a number
abbrev pub taken : NamedLft → NamedLft → NamedLft → NamedLft → (R H : RattleType) → Ghosts H.Denot → RattleType → List RattleType
taken a b c d R H ghosts mark =
    (shr_ref_field a (param 3 R) tt).row ∷ (shr_ref_field b Global.the_row tt).row ∷ (shr_ref_field c (SharedHub.the_row H ghosts) tt).row ∷ (shr_ref_field d (u64-field).row tt).row ∷ mark ∷ []

pub taken_sync : (name : List ℕ) (a b c d : NamedLft) (R H mark : RattleType) (ghosts : Ghosts H.Denot) → IsSync (param 3 R) → IsSend H → IsSync mark → IsSync (TupleAt name (taken a b c d R H ghosts mark))
taken_sync name a b c d R H mark ghosts y h m =
    let fields = struct_sync (shape (type_at name (taken a b c d R H ghosts mark))) (
      search (y, sendable) depth 30,
      (search (heap.crosses, sendable) depth 30, (search (shared_sync, sendable) depth 30, (search sendable depth 30, (search (m, sendable) depth 30, tt)))),
    ) in
    recorded_sync _ _ _ (type_at name (taken a b c d R H ghosts mark)).to_one fields
