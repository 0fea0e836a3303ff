-- What running the sessions of a generated installation does to a hub.
use Rattle.std.specs.Prelude.{◌≡◌, ℕ, List}
use Rattle.hub.specs.Hub.{HubView}
use Rattle.interaction_tree.specs.Traces.{Begins}
use Rattle.session_core.specs.Recorded.{AsRecorded}
use Rattle.shell_program.specs.Script.{served_alone}
use Rattle.shell_program.specs.Load.{BeginsLoad, loader, log_behind}

-- a session with this input was served alone
pub record ServesInput (old new : HubView) (input : List ℕ) : Type 0 where
  pub admin : new.admin ≡ old.admin
  pub log : AsRecorded old.admin new.log (λ recorded. new.log ≡ (served_alone recorded old.admin input old.log).log)

-- memory ran out in it: of the entries that are due of it a beginning was made
pub record LacksInput (old new : HubView) (input : List ℕ) : Type 0 where
  pub admin : new.admin ≡ old.admin
  pub goes_on : Begins old.log new.log
  pub within : AsRecorded old.admin new.log (λ recorded. Begins new.log (served_alone recorded old.admin input old.log).log)

-- the first session was served, and so many visits
pub record HasLoaded (count start number : ℕ) (hub : HubView) : Type 0 where
  pub admin : hub.admin ≡ loader
  pub log : AsRecorded loader hub.log (λ recorded. hub.log ≡ log_behind recorded count start number)

-- memory ran out in one of the sessions, or before it
pub record StopsLoading (count start : ℕ) (hub : HubView) : Type 0 where
  pub admin : hub.admin ≡ loader
  pub within : BeginsLoad count start hub.log
