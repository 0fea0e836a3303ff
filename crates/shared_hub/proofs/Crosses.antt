-- That passes of a hub may go from thread to thread, part by part.
use denote.Builtin.{u64}
use denote.Param.Send.{IsSend, IsSync, recorded_send, recorded_sync, sendable, struct_send, struct_sync, view_send, view_sync}
use denote.RattleType.{RattleType}
use denote.Ref.{NamedLft}
use denote.Struct.Declared.{row, shape}
use Rattle.std.proofs.Crossing as heap
use Rattle.std.proofs.MapsCrossing as maps
use Rattle.rule_compile.proofs.PolicyCrosses.{policy_send, policy_sync}
use Rattle.git_object.specs.contracts.object.Object as Object
use Rattle.ref_store.specs.contracts.object_table.ObjectTable as ObjectTable
use Rattle.ref_store.specs.contracts.segments.Segments as Segments
use Rattle.ref_store.specs.contracts.shared_refs.SharedRefs as SharedRefs
use Rattle.ref_store.specs.contracts.repo.Repo as Repo
use Rattle.ref_store.specs.contracts.lens.Lens as Lens
use Rattle.ancestry.specs.contracts.table.Table as Table
use Rattle.ancestry.specs.contracts.known.Known as Known
use Rattle.ancestry.specs.contracts.runs.Runs as Runs
use Rattle.ancestry.specs.contracts.closures.Closures as Closures
use Rattle.wild_perms.specs.contracts.wild.Wild as Wild
use Rattle.rule_compile.specs.contracts.fault.PolicyFault as Fault
use Rattle.hub_history.specs.contracts.outcome.Outcome as Outcome
use Rattle.hub_history.specs.contracts.entry.Event as Event
use Rattle.hub_history.specs.contracts.entry.Entry as Entry
use Rattle.base_types.specs.contracts.item_list.ItemList as ItemList
use Rattle.hub_state.specs.contracts.conf.ConfInForce as Conf
use Rattle.hub_state.specs.contracts.hosted.HostedRepo as Hosted
use Rattle.hub_state.specs.contracts.pin.Pin as Pin
use Rattle.hub.specs.contracts.table.RepoTable as RepoTable
use Rattle.hub.specs.contracts.since.Since as Since
use Rattle.hub.specs.contracts.hub.Hub as Hub
use Rattle.hub.specs.contracts.hub.Hub.TheInside as Inside
use Rattle.turn_lock.proofs.Crosses.{lock_sync, pass_send}
use Rattle.shared_hub.specs.declared.event_hub.EventHub.{Ghosts}
use Rattle.shared_hub.specs.contracts.kept.KeptHub as KeptHub
use Rattle.shared_hub.specs.contracts.kept.KeptHub.TheInside as KeptInside
use Rattle.shared_hub.specs.contracts.shared.SharedHub as SharedHub
use Rattle.shared_hub.specs.contracts.shared.SharedHub.TheInside as SharedInside
use Rattle.shared_hub.specs.contracts.desk.SharedDesk as Desk
use Rattle.shared_hub.specs.contracts.desk.SharedDesk.TheInside as DeskInside

object_send : IsSend Object.the_row
object_send = search (heap.crosses, sendable) depth 30

pub object_sync : IsSync Object.the_row
object_sync = search (heap.crosses, sendable) depth 30

objects_send : IsSend ObjectTable.the_row
objects_send = search (object_send, heap.crosses, maps.crosses, sendable) depth 100 fits 50000

objects_sync : IsSync ObjectTable.the_row
objects_sync = search (object_sync, heap.crosses, maps.crosses, sendable) depth 100 fits 50000

segments_send : IsSend Segments.the_row
segments_send = search (objects_send, objects_sync, heap.crosses, sendable) depth 60

segments_sync : IsSync Segments.the_row
segments_sync = search (objects_send, objects_sync, heap.crosses, sendable) depth 60

refs_send : IsSend SharedRefs.the_row
refs_send = search (heap.crosses, maps.crosses, sendable) depth 100 fits 50000

refs_sync : IsSync SharedRefs.the_row
refs_sync = search (heap.crosses, maps.crosses, sendable) depth 100 fits 50000

repo_send : IsSend Repo.the_row
repo_send = search (segments_send, refs_send, heap.crosses, sendable) depth 60

repo_sync : IsSync Repo.the_row
repo_sync = search (segments_sync, refs_sync, heap.crosses, sendable) depth 60

lens_send : IsSend Lens.the_row
lens_send = search (segments_send, objects_send, heap.crosses, sendable) depth 60

lens_sync : IsSync Lens.the_row
lens_sync = search (segments_sync, objects_sync, heap.crosses, sendable) depth 60

generations_send : IsSend (Table.the_row u64)
generations_send = search (heap.crosses, maps.crosses, sendable) depth 100 fits 50000

generations_sync : IsSync (Table.the_row u64)
generations_sync = search (heap.crosses, maps.crosses, sendable) depth 100 fits 50000

known_send : IsSend (Known.the_field).row
known_send = search (generations_send, generations_sync, heap.crosses, sendable) depth 100 fits 50000

known_sync : IsSync (Known.the_field).row
known_sync = search (generations_send, generations_sync, heap.crosses, sendable) depth 100 fits 50000

runs_send : IsSend Runs.the_row
runs_send = search (heap.crosses, sendable) depth 60

runs_sync : IsSync Runs.the_row
runs_sync = search (heap.crosses, sendable) depth 60

closures_send : IsSend Closures.the_row
closures_send = search (runs_send, runs_sync, heap.crosses, sendable) depth 100 fits 50000

closures_sync : IsSync Closures.the_row
closures_sync = search (runs_send, runs_sync, heap.crosses, sendable) depth 100 fits 50000

wild_send : IsSend Wild.the_row
wild_send = search (heap.crosses, sendable) depth 60

wild_sync : IsSync Wild.the_row
wild_sync = search (heap.crosses, sendable) depth 60

conf_send : IsSend Conf.the_row
conf_send = search (policy_send, policy_sync, lens_send, lens_sync, heap.crosses, sendable) depth 100 fits 50000

conf_sync : IsSync Conf.the_row
conf_sync = search (policy_send, policy_sync, lens_send, lens_sync, heap.crosses, sendable) depth 100 fits 50000

hosted_send : IsSend Hosted.the_row
hosted_send = search (repo_send, repo_sync, wild_send, wild_sync, known_send, known_sync, closures_send, closures_sync, heap.crosses, sendable) depth 100 fits 50000

pub pin_send : IsSend Pin.the_row
pin_send = search (conf_send, hosted_send, heap.crosses, sendable) depth 60

table_send : IsSend (RepoTable.the_field).row
table_send = search (hosted_send, heap.crosses, maps.crosses, sendable) depth 100 fits 50000

since_send : IsSend Since.the_row
since_send = search (heap.crosses, maps.crosses, sendable) depth 100 fits 50000

fault_send : IsSend (Fault.the_field).row
fault_send = search (heap.crosses, sendable) depth 60

outcome_send : IsSend (Outcome.the_field).row
outcome_send = search (fault_send, heap.crosses, sendable) depth 100 fits 50000

event_send : IsSend (Event.the_field).row
event_send = search (object_send, outcome_send, heap.crosses, sendable) depth 100 fits 50000

entry_send : IsSend Entry.the_row
entry_send = recorded_send _ _ _ (Entry.the_type).to_one (struct_send (shape Entry.the_type) (search sendable depth 20, (event_send, tt)))

log_send : IsSend (ItemList.the_row Entry.the_row)
log_send = search (entry_send, heap.crosses, sendable) depth 60

pub hub_send : IsSend Hub.the_row
hub_send =
    let inside = struct_send (shape Inside.the_type) (
      search (conf_send, sendable) depth 30,
      (table_send, (search (log_send, sendable) depth 30, (search (since_send, sendable) depth 30, tt))),
    ) in
    let whole : IsSend (row Inside.the_type) = recorded_send _ _ _ (Inside.the_type).to_one inside in
    view_send (row Inside.the_type) _ _ _ _ whole

pub kept_send : (H : RattleType) (ghosts : Ghosts H.Denot) → IsSend H → IsSend (KeptHub.the_row H ghosts)
kept_send H ghosts h =
    let inside = struct_send (shape (KeptInside.the_type H ghosts)) (search (heap.crosses, sendable) depth 30, (search sendable depth 30, tt)) in
    let whole : IsSend (row (KeptInside.the_type H ghosts)) = recorded_send _ _ _ (KeptInside.the_type H ghosts).to_one inside in
    view_send (row (KeptInside.the_type H ghosts)) _ _ _ _ whole

pub shared_sync : (H : RattleType) (ghosts : Ghosts H.Denot) → IsSend H → IsSync (SharedHub.the_row H ghosts)
shared_sync H ghosts h =
    let inside = struct_sync (shape (SharedInside.the_type H ghosts)) (search (lock_sync, kept_send, sendable) depth 30, tt) in
    let whole : IsSync (row (SharedInside.the_type H ghosts)) = recorded_sync _ _ _ (SharedInside.the_type H ghosts).to_one inside in
    view_sync (row (SharedInside.the_type H ghosts)) _ _ _ _ whole

pub desk_send : (κ : NamedLft) (R H : RattleType) (ghosts : Ghosts H.Denot) → IsSync R → IsSend H → IsSend (Desk.the_row κ R H ghosts)
desk_send κ R H ghosts y h =
    let inside = struct_send (shape (DeskInside.the_type κ R H ghosts)) (
      search (y, sendable) depth 30,
      (search (shared_sync, sendable) depth 30, (search (pass_send, kept_send, sendable) depth 60, tt)),
    ) in
    let whole : IsSend (row (DeskInside.the_type κ R H ghosts)) = recorded_send _ _ _ (DeskInside.the_type κ R H ghosts).to_one inside in
    view_send (row (DeskInside.the_type κ R H ghosts)) _ _ _ _ whole

-- a pass, a pin, and a reference to the hub
pub ruleset crosses = (hub_send, desk_send, kept_send, pass_send, lock_sync, shared_sync, pin_send, object_sync, heap.crosses, sendable)
