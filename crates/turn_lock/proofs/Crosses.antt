-- That a pass may go to another thread, and threads may share a lock, where the value may go.
use denote.Param.Send.{IsSend, IsSync, recorded_send, recorded_sync, sendable, struct_send, struct_sync, view_send, view_sync}
use denote.RattleType.{RattleType}
use denote.Struct.Declared.{row, shape}
use Rattle.std.proofs.Crossing as heap
use Rattle.std.specs.contracts.option.Option as Option
use Rattle.atomic_table.proofs.shared.Seat.TheSendSync as seat
use Rattle.atomic_table.proofs.shared.Shared.TheSendSync as table
use Rattle.atomic_table.proofs.send_lease.SendLease.TheSendSync as lease
use Rattle.turn_lock.specs.declared.kept.Kept.{Ghosts}
use Rattle.turn_lock.specs.contracts.lock.Pass as Pass
use Rattle.turn_lock.specs.contracts.lock.Pass.TheInside as PassInside
use Rattle.turn_lock.specs.contracts.lock.TurnLock as TurnLock
use Rattle.turn_lock.specs.contracts.lock.TurnLock.TheInside as LockInside
use Rattle.turn_lock.specs.contracts.rule.View as View

option_send : (T : RattleType) → IsSend T → IsSend (Option.the_row T)
option_send T t = search sendable depth 12

pub pass_send : (T E : RattleType) (kept : Ghosts T.Denot E.Denot) → IsSend T → IsSend (Pass.the_row T E kept)
pass_send T E kept t =
    let inside = struct_send (shape (PassInside.the_type T E kept)) (seat.the_send (Option.the_row T) (View.the_row E) (option_send T t), (search sendable depth 30, (search sendable depth 30, tt))) in
    let whole : IsSend (row (PassInside.the_type T E kept)) = recorded_send _ _ _ (PassInside.the_type T E kept).to_one inside in
    view_send (row (PassInside.the_type T E kept)) _ _ _ _ whole

pub lock_sync : (T E : RattleType) (kept : Ghosts T.Denot E.Denot) → IsSend T → IsSync (TurnLock.the_row T E kept)
lock_sync T E kept t =
    let inside = struct_sync (shape (LockInside.the_type T E kept)) (search (option_send, table.the_sync, lease.the_sync, heap.crosses, heap.send, heap.sync, sendable) depth 100 fits 50000, tt) in
    let whole : IsSync (row (LockInside.the_type T E kept)) = recorded_sync _ _ _ (LockInside.the_type T E kept).to_one inside in
    view_sync (row (LockInside.the_type T E kept)) _ _ _ _ whole
