-- Making a hub again from what was asked of it.
use Rattle.std.specs.Prelude.{◌≡◌, ◌⊎◌, ⊤, ℕ, ◌≤◌, Bool, List, length, Option, None, Some, if◌then◌else◌}
use Rattle.std.specs.BTreeMap.{is_at}
use Rattle.std.specs.Map.{lookup}
use Rattle.std.specs.Ordering.{nat_cmp, is_eq}
use Rattle.access_check.specs.declared.verdicts.Want.{Want}
use Rattle.access_check.specs.declared.verdicts.Want.TheVariants as want
use Rattle.hub_history.specs.declared.entry.Event.{Event}
use Rattle.hub_history.specs.History.{Stands, history, opening_at}
use Rattle.hub_history.specs.Opening.{Opening, Pinned}
use Rattle.hub_history.specs.Requests.{Request, Enter, Push, Permit, Look, request_of}
use Rattle.hub.specs.Hub.{HubView, logged}

-- At this place of a hub's log an opening for writing was granted.
pub record IsWritable (hub : HubView) (place : ℕ) : Type 0 where
  pub pinned : Pinned
  pub opened : opening_at (history hub.admin hub.log) place ≡ Some pinned
  pub writes : pinned.want ≡ want.Write

-- What can't be asked of a hub: a push after no opening for writing that was granted, or without commands.
abbrev pub IsImpossible : HubView → Request → Type 0
IsImpossible hub (Push place pack commands atomic) = (IsWritable hub place → ⊥) ⊎ (length commands ≡ 0)
IsImpossible hub (Enter user repo want) = ⊥
IsImpossible hub (Permit user repo change) = ⊥
IsImpossible hub (Look user) = ⊥

-- The log grows by an event with this request.
pub record Replays (old new : HubView) (caller : ℕ) (request : Request) : Type 0 where
  pub event : Event
  pub asks : request_of event ≡ request
  pub grows : new ≡ logged old caller event

-- By what is known of last pushes, a push at this place of the log or a later one may be after the opening at
-- the other.
pub record IsAwaited (last_pushes : ℕ → Option ℕ) (from opening : ℕ) : Type 0 where
  pub last : ℕ
  pub known : last_pushes opening ≡ Some last
  pub later : from ≤ last

-- a hub that is made again, and for openings the place of the last push after each
pub record ReplayView : Type 0 where
  pub hub : HubView
  pub last_pushes : List (ℕ × ℕ)

abbrev pub last_push : List (ℕ × ℕ) → ℕ → Option ℕ
last_push last_pushes place = lookup (is_at (nat_cmp place)) last_pushes

-- A push was foreseen: its opening is known to have a push at this place or a later one.
abbrev pub IsForeseen : ReplayView → Request → Type 0
IsForeseen replay (Push place pack commands atomic) = IsAwaited (last_push replay.last_pushes) (length replay.hub.log) place
IsForeseen replay (Enter user repo want) = ⊤
IsForeseen replay (Permit user repo change) = ⊤
IsForeseen replay (Look user) = ⊤

-- The pins that are kept, by their places: of openings for writing that were granted, those at least after
-- which a push is awaited.
pub record ArePins (last_pushes : ℕ → Option ℕ) (hub : HubView) (kept : ℕ → Option Opening) : Type 0 where
  pub all : (place : ℕ) (pinned : Pinned) → opening_at (history hub.admin hub.log) place ≡ Some pinned → pinned.want ≡ want.Write → IsAwaited last_pushes (length hub.log) place → kept place ≡ Some (record { place = place; pinned = pinned })
  pub stand : (place : ℕ) (pin : Opening) → kept place ≡ Some pin → (pin.place ≡ place) × (pin.pinned.want ≡ want.Write) × Stands pin hub.admin hub.log

-- Taking the pin of an opening leaves the others, and that one only where a push is to come after it.
abbrev pub LeavesPins : Bool → ℕ → (ℕ → Option Opening) → (ℕ → Option Opening) → Type 0
LeavesPins goes_on place old new = (q : ℕ) → new q ≡ (if goes_on then old q else if is_eq (nat_cmp place q) then None else old q)

-- what is kept of an opening that was replayed
abbrev pub Keeps : HubView → HubView → Option Opening → Type 0
Keeps old new (Some pin) = (pin.place ≡ length old.log) × (pin.pinned.want ≡ want.Write) × Stands pin new.admin new.log
Keeps old new None = IsWritable new (length old.log) → ⊥

-- Of a pin that could be kept, it is, or no push at this place or a later one is awaited after its opening.
abbrev pub KeepsAwaited : (ℕ → Option ℕ) → ℕ → Option Opening → Option Opening → Type 0
KeepsAwaited last_pushes from kept (Some pin) = kept ≡ Some pin
KeepsAwaited last_pushes from (Some pin) None = IsAwaited last_pushes from pin.place → ⊥
KeepsAwaited last_pushes from None None = ⊤

-- the pin of an opening, where that is for writing
abbrev pub writing_only : Opening → Want → Option Opening
writing_only pin want.Write = Some pin
writing_only pin want.Read = None
