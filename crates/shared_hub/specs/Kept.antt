-- The list that a hub under a lock stands for: its admin with the hub as it was shared, and then the log.
use Rattle.std.specs.Prelude.{◌≡◌, ℕ, true, List, [], ◌∷◌, map}
use Rattle.conf_lex.specs.Names.{is_user_name}
use Rattle.ref_store.specs.Refs.{Name}
use Rattle.hub_history.specs.declared.entry.Entry.{Entry}
use Rattle.hub.specs.Hub.{HubView}
use Rattle.shared_hub.specs.declared.kept.KeptEntry.{KeptEntry}
use Rattle.shared_hub.specs.declared.kept.KeptEntry.TheVariants.{First, Logged}

-- A hub under a lock, as contracts see it.
-- first: as it was shared
-- hub: as it is
pub record KeptState (H : Type 0) : Type 0 where
  pub first : H
  pub hub : H

abbrev pub caller_of : {H : Type 0} → KeptEntry H → ℕ
caller_of (First name was) = 0
caller_of (Logged entry) = entry.caller

-- the list of a hub that was shared as this one
abbrev pub listed : {H : Type 0} → H → HubView → List (KeptEntry H)
listed first hub = First hub.admin (record { marker = record {}; value = first }) ∷ map Logged hub.log

-- the admin that a list begins with, and the log in it
abbrev pub admin_in : {H : Type 0} → List (KeptEntry H) → Name
admin_in [] = []
admin_in (First name was ∷ items) = name
admin_in (Logged entry ∷ items) = []

abbrev pub log_in : {H : Type 0} → List (KeptEntry H) → List Entry
log_in [] = []
log_in (First name was ∷ items) = log_in items
log_in (Logged entry ∷ items) = entry ∷ log_in items

-- the hub of a list
abbrev pub hub_in : {H : Type 0} → List (KeptEntry H) → HubView
hub_in items = record { admin = admin_in items; log = log_in items }

-- the first item is an admin, which is a user's name
abbrev pub NamesAdmin : {H : Type 0} → List (KeptEntry H) → Type 0
NamesAdmin [] = ⊥
NamesAdmin (First name was ∷ items) = is_user_name name ≡ true
NamesAdmin (Logged entry ∷ items) = ⊥

-- the list is one of a hub that was shared as this one
abbrev pub Began : {H : Type 0} → List (KeptEntry H) → H → Type 0
Began [] first = ⊥
Began (First name was ∷ items) first = was.value ≡ first
Began (Logged entry ∷ items) first = ⊥
