-- Passes, as the posts have them while their workers run.
use Rattle.std.specs.Prelude.{◌≡◌, ℕ, List, [], ◌∷◌, length, Bool, Option, None, Some, false, if◌then◌else◌, nat_eq, ◌++◌}
use Rattle.std.specs.List.{AllByRecursion}
use Rattle.atomic_table.specs.Seated.{TableId}
use Rattle.pktline_core.specs.LinkState.{LinkState}
use Rattle.turn_lock.specs.Lock.{ContainsBelow, IsSamePass, PassState}
use Rattle.hub_history.specs.declared.entry.Entry.{Entry}
use Rattle.hub.specs.Desk.{IsOfAnother}
use Rattle.edge_links.specs.Door.{DoorState}
use Rattle.shared_hub.specs.declared.kept.KeptEntry.{KeptEntry}
use Rattle.shared_hub.specs.Kept.{admin_in}
use Rattle.shared_hub.specs.Shared.{IsHubPass, log_at_new, log_seen}
use Rattle.session_core.specs.Protocol.{Meaning}
use Rattle.session_workers.specs.declared.post.Post.{Post}
use Rattle.session_workers.specs.Visits.{HasWorked}

-- a pass of this hub that has seen nothing since `new`
pub record IsFresh {H : Type 0} (lock : TableId) (pass : PassState (KeptEntry H)) : Type 0 where
  pub of_hub : pass.lock ≡ lock
  pub hub : IsHubPass pass
  pub fresh : pass.since ≡ []

abbrev pub HoldsFresh : {H : Type 0} → TableId → Option (PassState (KeptEntry H)) → Type 0
HoldsFresh lock None = ⊥
HoldsFresh lock (Some pass) = IsFresh lock pass

-- what a post has for good
abbrev pub place_of : {D G H P : Type 0} → Post D G H P → D × P
place_of post = (post.door, post.protocol)

-- the post has a pass with which its worker may begin
abbrev pub MayWork : {D G H P : Type 0} → TableId → Post D G H P → Type 0
MayWork lock post = HoldsFresh lock post.pass

-- what the worker of a post did with the post's pass and at its door, by the post's protocol
pub record HasWorkedAt {L D G H P E : Type 0} (meaning : P → Meaning E) (state : L → LinkState) (door : D → DoorState L) (may_stop : Bool) (each : ℕ) (old new : Post D G H P) : Type 0 where
  pub began : PassState (KeptEntry H)
  pub ended : PassState (KeptEntry H)
  pub had : old.pass ≡ Some began
  pub has : new.pass ≡ Some ended
  pub same_pass : IsSamePass began ended
  pub hub : IsHubPass ended
  pub worked : HasWorked (meaning old.protocol) state may_stop (admin_in began.at_new) began.caller (length (log_at_new began)) (log_seen ended) each (door old.door) (door new.door) new.tally

-- the pass of a place as it is handed out, where so many were made
abbrev pub pass_at : {H : Type 0} → TableId → List (KeptEntry H) → ℕ → ℕ → PassState (KeptEntry H)
pass_at lock list made place = record { lock = lock; caller = place; passes = if nat_eq place 0 then made else 0; at_new = list; since = []; numbers = place ∷ [] }

-- the pass of a place, whatever it has seen since
pub record IsPassOf {H : Type 0} (lock : TableId) (list : List (KeptEntry H)) (made place : ℕ) (pass : PassState (KeptEntry H)) : Type 0 where
  pub same : IsSamePass (pass_at lock list made place) pass
  pub hub : IsHubPass pass

abbrev pub HasPassOf : {H : Type 0} → TableId → List (KeptEntry H) → ℕ → ℕ → Option (PassState (KeptEntry H)) → Type 0
HasPassOf lock list made place None = ⊥
HasPassOf lock list made place (Some pass) = IsPassOf lock list made place pass

-- what one pass has seen goes on, with entries of others, to what another has
abbrev pub Follows : {H : Type 0} → ℕ → PassState (KeptEntry H) → PassState (KeptEntry H) → Type 0
Follows caller earlier later = (more : List Entry) × (log_seen earlier ++ more ≡ log_seen later) × AllByRecursion (IsOfAnother caller) more

-- the first pass, once those of the numbers below this one are joined into it
pub record IsWhole {H : Type 0} (lock : TableId) (list : List (KeptEntry H)) (made joined : ℕ) (pass : PassState (KeptEntry H)) : Type 0 where
  pub of_hub : pass.lock ≡ lock
  pub first : pass.caller ≡ 0
  pub at_new : pass.at_new ≡ list
  pub made_is : pass.passes ≡ made
  pub all : ContainsBelow pass.numbers joined
  pub hub : IsHubPass pass

-- a post as it is while no worker runs: without a pass, and with nothing counted
pub record IsIdle {D G H P : Type 0} (post : Post D G H P) : Type 0 where
  pub no_pass : post.pass ≡ None
  pub none_counted : post.tally ≡ record { sessions = 0; door_failed = false; no_memory = false; stopped = false }
