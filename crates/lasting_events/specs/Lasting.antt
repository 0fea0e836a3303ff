-- Which entries of a log last, and the log of these alone.
use Rattle.std.specs.Prelude.{◌≡◌, ◌⊎◌, ℕ, ◌+◌, ◌<◌, Bool, true, false, List, [], ◌∷◌, ◌++◌, length, take, drop, filter, if◌then◌else◌, Some}
use Rattle.std.specs.List.{list_any, slice_get}
use Rattle.access_check.specs.declared.verdicts.Want.{Want}
use Rattle.access_check.specs.declared.verdicts.Want.TheVariants.{Read, Write}
use Rattle.hub_history.specs.declared.entry.EnterKept.{EnterKept}
use Rattle.hub_history.specs.declared.entry.EnterKept.TheVariants.{Granted, Created, Denied, NoRepo}
use Rattle.hub_history.specs.declared.entry.Entry.{Entry}
use Rattle.hub_history.specs.declared.entry.Event.{Event}
use Rattle.hub_history.specs.declared.entry.Event.TheVariants.{Entered, Pushed, Permitted, Looked}
use Rattle.hub_history.specs.declared.entry.PermsKept.{PermsKept}
use Rattle.hub_history.specs.declared.entry.PermsKept.TheVariants.{Changed, AlreadySo, NotWild, NotCreator, NoSuchRole, Listed}
use Rattle.hub_history.specs.Push.{is_done}

-- ---- which events last

-- an opening that made its repository lasts, and one for writing that was granted, since a push may come
-- after it
abbrev pub opening_lasts : EnterKept → Want → Bool
opening_lasts Created want = true
opening_lasts Granted Write = true
opening_lasts Granted Read = false
opening_lasts (Denied verdict) want = false
opening_lasts NoRepo want = false

-- a change of roles lasts where it is done
abbrev pub change_lasts : PermsKept → Bool
change_lasts Changed = true
change_lasts AlreadySo = false
change_lasts NotWild = false
change_lasts NotCreator = false
change_lasts NoSuchRole = false
change_lasts Listed = false

-- a push lasts where one of its commands is done, and a listing never does
abbrev pub lasts : Event → Bool
lasts (Entered user repo want answer) = opening_lasts answer want
lasts (Pushed place pack commands atomic outcomes made) = list_any is_done outcomes
lasts (Permitted user repo asked answer) = change_lasts answer
lasts (Looked user) = false

-- ---- the log of those alone

-- the first entries of a log, and those behind them that last
abbrev pub chosen : ℕ → List Entry → List Entry
chosen start log = take start log ++ filter (λ (e : Entry). lasts e.event) (drop start log)

-- the place of an entry counted among these: how many of them stand before it
abbrev pub place_among : ℕ → List Entry → ℕ → ℕ
place_among start log place = length (chosen start (take place log))

-- an event that follows these entries, with the place of its opening counted so
abbrev pub renumbered : ℕ → List Entry → Event → Event
renumbered start before (Entered user repo want answer) = Entered user repo want answer
renumbered start before (Pushed place pack commands atomic outcomes made) = Pushed (place_among start before place) pack commands atomic outcomes made
renumbered start before (Permitted user repo asked answer) = Permitted user repo asked answer
renumbered start before (Looked user) = Looked user

abbrev pub renumbered_entry : ℕ → List Entry → Entry → Entry
renumbered_entry start before e = record { caller = e.caller; event = renumbered start before e.event }

-- an entry that follows others, where it lasts
abbrev pub if_lasting : ℕ → List Entry → Entry → List Entry
if_lasting start before e = if lasts e.event then renumbered_entry start before e ∷ [] else []

-- the lasting ones of entries that follow others
abbrev pub lasting_behind : ℕ → List Entry → List Entry → List Entry
lasting_behind start before [] = []
lasting_behind start before (e ∷ es) = if_lasting start before e ++ lasting_behind start (before ++ e ∷ []) es

-- the first entries of a log as they are, and behind them those that last
abbrev pub lasting : ℕ → List Entry → List Entry
lasting start log = take start log ++ lasting_behind start (take start log) (drop start log)

-- the places of those entries that last, where the first of them stands at this place
abbrev pub places_from : ℕ → List Entry → List ℕ
places_from place [] = []
places_from place (e ∷ es) = (if lasts e.event then place ∷ [] else []) ++ places_from (place + 1) es

-- the places of the entries of a log that last, but of the first entries
abbrev pub lasting_places : ℕ → List Entry → List ℕ
lasting_places start log = places_from start (drop start log)

-- the entry at a place is one of the first, or it lasts
abbrev pub IsChosen : ℕ → List Entry → ℕ → Type 0
IsChosen start log place = (place < start) ⊎ ((entry : Entry) × (slice_get log place ≡ Some entry) × (lasts entry.event ≡ true))
