-- A hub as contracts see it, and what its calls do to it.
use Rattle.std.specs.Prelude.{◌≡◌, ℕ, List, [], ◌∷◌, ◌++◌, Option, None, Some}
use Rattle.base_types.specs.Names.{ByName}
use Rattle.ref_store.specs.Refs.{Name}
use Rattle.hub_history.specs.declared.entry.Entry.{Entry}
use Rattle.hub_history.specs.declared.entry.Event.{Event}
use Rattle.hub_history.specs.History.{replay}
use Rattle.hub_history.specs.State.{Conf, Repository, State}

-- the admin from whose setup it began, and its log
pub record HubView : Type 0 where
  pub admin : Name
  pub log : List Entry

-- the state that the log has led to
abbrev pub state_of : HubView → State
state_of hub = replay hub.admin hub.log

-- one entry more
abbrev pub logged : HubView → ℕ → Event → HubView
logged hub caller event = record { admin = hub.admin; log = hub.log ++ record { caller = caller; event = event } ∷ [] }

-- the log grows by this event's entry, or all is as before
abbrev pub Logs : HubView → HubView → ℕ → Option Event → Type 0
Logs old new caller None = new ≡ old
Logs old new caller (Some event) = new ≡ logged old caller event

abbrev pub stored : ByName Repository → Conf → State
stored repositories conf = record { repositories = repositories; conf = conf }
