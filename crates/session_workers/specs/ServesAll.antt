-- What all posts served.
use Rattle.std.specs.Prelude.{◌≡◌, ℕ, ◌≤◌, ◌<◌, List, ◌++◌, length, Bool, All, slice_index_or}
use Rattle.std.specs.List.{AllByRecursion, list_any, sum_by}
use Rattle.pktline_core.specs.LinkState.{LinkState}
use Rattle.edge_links.specs.Door.{DoorState}
use Rattle.hub_history.specs.declared.entry.Entry.{Entry}
use Rattle.hub_history.specs.History.{IsLegal}
use Rattle.ref_store.specs.Refs.{Name}
use Rattle.hub.specs.Hub.{HubView}
use Rattle.session_core.specs.Protocol.{Meaning}
use Rattle.session_workers.specs.declared.post.Post.{Post}
use Rattle.session_workers.specs.Visits.{HasDone, HasServed, StopsAtLack, Visit, have_lacked, have_stopped}

-- visits: a post's links, in the order in which they were served
-- failed: whether its door failed
-- lacked: whether memory ran out in one of its sessions
-- stopped: whether the hub, which has stopped, ended one
pub record PostTally (L E : Type 0) : Type 0 where
  pub visits : List (Visit L E)
  pub failed : Bool
  pub lacked : Bool
  pub stopped : Bool

abbrev pub count_of : {L E : Type 0} → PostTally L E → ℕ
count_of did = length did.visits

-- A post's links were given, served and given back, and the entries of its place past the start are those of
-- their sessions. Then it had served as many as it should, or its door was closed, or failed, or a hub that
-- may stop had done so, which ends a session as one without memory.
pub record PostServed {L E : Type 0} (protocol : Meaning E) (state : L → LinkState) (may_stop : Bool) (admin : Name) (place start : ℕ) (log : List Entry) (each : ℕ) (old new : DoorState L) (did : PostTally L E) : Type 0 where
  pub served : HasServed protocol state admin place start log old new did.visits
  pub lacks : did.lacked ≡ have_lacked protocol did.visits
  pub stops : AllByRecursion (StopsAtLack protocol may_stop) did.visits
  pub stopped : did.stopped ≡ have_stopped did.visits
  pub done : HasDone did.stopped old new each (count_of did) did.failed
  pub most : count_of did ≤ each

-- The hub that comes back goes on from the one that was handed in, by entries that bear places of posts, and
-- is legal; and each post was served by its protocol, over the log of the hub that comes back.
pub record ServesAll {L D G H P E : Type 0} (meaning : P → Meaning E) (state : L → LinkState) (door : D → DoorState L) (may_stop : Bool) (hub after : HubView) (old new : List (Post D G H P)) (each sessions : ℕ) (door_failed no_memory : Bool) : Type 0 where
  pub admin : after.admin ≡ hub.admin
  pub legal : IsLegal after.admin after.log
  pub since : List Entry
  pub begins : hub.log ++ since ≡ after.log
  pub places : All (λ (e : Entry). e.caller < length old) since
  -- what each post did
  pub did : List (PostTally L E)
  pub each_did : length did ≡ length old
  pub posts : (k : ℕ) (d : Post D G H P) (c : PostTally L E) → k < length old
      → PostServed (meaning (slice_index_or old k d).protocol) state may_stop hub.admin k (length hub.log) after.log each (door (slice_index_or old k d).door) (door (slice_index_or new k d).door) (slice_index_or did k c)
  pub sessions_is : sessions ≡ sum_by count_of did
  pub failed_is : door_failed ≡ list_any (λ (c : PostTally L E). c.failed) did
  pub lacked_is : no_memory ≡ list_any (λ (c : PostTally L E). c.lacked) did
