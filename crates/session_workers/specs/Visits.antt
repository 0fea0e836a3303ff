-- What a worker does at its door.
use Rattle.std.specs.Prelude.{◌≡◌, ⊤, ◌⊎◌, ◌&&◌, ℕ, ◌≤◌, Bool, IsTrue, true, false, List, [], ◌∷◌, ◌++◌, length, map, not, Option, None, Some}
use Rattle.std.specs.List.{AllByRecursion, list_any}
use Rattle.base_types.specs.Counts.{HasRisen}
use Rattle.pktline_core.specs.LinkState.{LinkState}
use Rattle.edge_links.specs.Door.{DoorState, KeepsList}
use Rattle.hub_history.specs.declared.entry.Entry.{Entry}
use Rattle.ref_store.specs.Refs.{Name}
use Rattle.hub.specs.Desk.{DeskView}
use Rattle.session_core.specs.Protocol.{Meaning}
use Rattle.session_workers.specs.declared.worker.NextServed.{NextServed}
use Rattle.session_workers.specs.declared.worker.NextServed.TheVariants as next
use Rattle.session_workers.specs.declared.worker.Tally.{Tally}
use Rattle.session_workers.specs.Served.{IsSession, Served, ServedLink}

-- link, back: a link as its door gave it, and as it was given back
-- end: how its session ended
-- stopped: whether it ended so because the hub has stopped
pub record Visit (L E : Type 0) : Type 0 where
  pub link : L
  pub back : L
  pub end : E
  pub stopped : Bool

abbrev pub served_link : {L E : Type 0} → (L → LinkState) → Visit L E → ServedLink E
served_link state visit = record { given = state visit.link; back = state visit.back; end = visit.end }

abbrev pub link_of : {L E : Type 0} → Visit L E → L
link_of visit = visit.link

abbrev pub back_of : {L E : Type 0} → Visit L E → L
back_of visit = visit.back

-- whether memory ran out in one of the sessions, which the hub hadn't stopped
abbrev pub have_lacked : {L E : Type 0} → Meaning E → List (Visit L E) → Bool
have_lacked protocol visits = list_any (λ v. not v.stopped && protocol.lacks v.end) visits

-- whether the hub stopped one of them
abbrev pub have_stopped : {L E : Type 0} → List (Visit L E) → Bool
have_stopped visits = list_any (λ v. v.stopped) visits

-- only a hub that may stop stops a session, which then ends as one without memory
abbrev pub StopsAtLack : {L E : Type 0} → Meaning E → Bool → Visit L E → Type 0
StopsAtLack protocol may_stop visit = IsTrue visit.stopped → IsTrue (may_stop && protocol.lacks visit.end)

-- a told list began with these links, and lost them
abbrev pub LosesFront : {L : Type 0} → Option (List L) → Option (List L) → List L → Type 0
LosesFront None new links = ⊤
LosesFront (Some xs) None links = ⊥
LosesFront (Some xs) (Some ys) links = xs ≡ links ++ ys

-- these links were put at the end of a told list
abbrev pub GainsBack : {L : Type 0} → Option (List L) → Option (List L) → List L → Type 0
GainsBack None new links = ⊤
GainsBack (Some xs) None links = ⊥
GainsBack (Some xs) (Some ys) links = ys ≡ xs ++ links

-- One link was given, served, and given back: its session's entries are those of the desk's caller from what
-- the desk had seen on.
pub record ServesLink {L E : Type 0} (protocol : Meaning E) (state : L → LinkState) (old new : DoorState L) (desk desk' : DeskView) (visit : Visit L E) : Type 0 where
  pub given : LosesFront old.left new.left (visit.link ∷ [])
  pub back : GainsBack old.served new.served (visit.back ∷ [])
  pub faults : new.faults ≡ old.faults
  pub more : List Entry
  pub seen : desk'.seen ≡ desk.seen ++ more
  pub session : IsSession protocol desk.admin desk.caller (length desk.seen) desk'.seen (served_link state visit)

-- nothing was given, and nothing done at the desk
pub record ServesNone {L : Type 0} (old new : DoorState L) (desk desk' : DeskView) : Type 0 where
  pub left : KeepsList old.left new.left
  pub served : KeepsList old.served new.served
  pub faults : old.faults ≤ new.faults
  pub desk_is : desk' ≡ desk

-- how one turn at a door went
abbrev pub ServesNext : {L E : Type 0} → Meaning E → (L → LinkState) → DoorState L → DoorState L → DeskView → DeskView → NextServed E → Type 0
ServesNext protocol state old new desk desk' (next.Served end) = (visit : Visit _ _) × (visit.end ≡ end) × ServesLink protocol state old new desk desk' visit
ServesNext protocol state old new desk desk' next.Closed = ServesNone old new desk desk' × (new.closed ≡ true) × (new.faults ≡ old.faults)
ServesNext protocol state old new desk desk' next.Failed = ServesNone old new desk desk' × HasRisen old.faults new.faults

-- Links were given and given back, in their order, and a caller's entries past a start are those of their
-- sessions.
pub record HasServed {L E : Type 0} (protocol : Meaning E) (state : L → LinkState) (admin : Name) (caller start : ℕ) (log : List Entry) (old new : DoorState L) (visits : List (Visit L E)) : Type 0 where
  pub given : LosesFront old.left new.left (map link_of visits)
  pub back : GainsBack old.served new.served (map back_of visits)
  pub served : Served protocol admin caller start log (map (served_link state) visits)
  pub faults : old.faults ≤ new.faults

-- the door failed; or it didn't, and as many were served as were asked for, or it is closed, or the hub has
-- stopped
abbrev pub HasDone : {L : Type 0} → Bool → DoorState L → DoorState L → ℕ → ℕ → Bool → Type 0
HasDone stopped old new each count true = HasRisen old.faults new.faults
HasDone stopped old new each count false = ((count ≡ each) ⊎ (new.closed ≡ true) ⊎ IsTrue stopped) × (new.faults ≡ old.faults)

-- a worker's tally is that of its visits
pub record IsTally {L E : Type 0} (protocol : Meaning E) (visits : List (Visit L E)) (tally : Tally) : Type 0 where
  pub sessions : tally.sessions ≡ length visits
  pub no_memory : tally.no_memory ≡ have_lacked protocol visits
  pub stopped : tally.stopped ≡ have_stopped visits

-- What a worker did: its visits, and whether it was done.
pub record HasWorked {L E : Type 0} (protocol : Meaning E) (state : L → LinkState) (may_stop : Bool) (admin : Name) (caller start : ℕ) (log : List Entry) (each : ℕ) (old new : DoorState L) (tally : Tally) : Type 0 where
  pub visits : List (Visit L E)
  pub served : HasServed protocol state admin caller start log old new visits
  pub is_tally : IsTally protocol visits tally
  pub stops : AllByRecursion (StopsAtLack protocol may_stop) visits
  pub done : HasDone tally.stopped old new each tally.sessions tally.door_failed
  pub most : tally.sessions ≤ each
