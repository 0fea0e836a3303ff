-- A hub of which the entries that last are stored: those that changed something before they are answered, and
-- granted openings for writing with the next of those.
use Rattle.std.specs.Prelude.{◌≡◌, ◌⊎◌, ℕ, ◌+◌, ◌≤◌, Bool, true, false, IsTrue, List, [], ◌∷◌, ◌++◌, length, take, drop, map, Option, None, Some}
use Rattle.std.specs.List.{AllByRecursion}
use Rattle.base_types.specs.Counts.{HasRisen}
use Rattle.ref_store.specs.Refs.{Name}
use Rattle.access_check.specs.declared.verdicts.Want.{Want}
use Rattle.access_check.specs.declared.verdicts.Want.TheVariants.{Read, Write}
use Rattle.hub_history.specs.declared.entry.EnterKept.{EnterKept}
use Rattle.hub_history.specs.declared.entry.EnterKept.TheVariants.{Granted, Created, Denied, NoRepo}
use Rattle.hub_history.specs.declared.entry.Entry.{Entry}
use Rattle.hub_history.specs.declared.entry.Event.{Event}
use Rattle.hub_history.specs.declared.entry.Event.TheVariants.{Entered, Pushed, Permitted, Looked}
use Rattle.hub_history.specs.Requests.{Enter}
use Rattle.history_laws.specs.StateLaws.{MayChange}
use Rattle.hub.specs.Hub.{HubView}
use Rattle.record_file.specs.Crashes.{Leaves, LeavesOnly}
use Rattle.record_file.specs.Files.{EndsAtGate, IsDurable}
use Rattle.event_record.specs.Bodies.{body_of}
use Rattle.hub_journal.specs.Events.{AreStorableEntries, HoldsEvents, bodies_in, head_for}
use Rattle.hub_journal.specs.Journal.{StoreView, Stores}
use Rattle.lasting_events.specs.Lasting.{lasting, lasting_behind, lasts}
use Rattle.stored_hub.specs.declared.account.FileAccount.{FileAccount}
use Rattle.stored_hub.specs.declared.account.Queued.{Queued}

-- ---- the parts

-- a hub, how many events its file had when it was opened, for how many events of the log those that last are
-- in the file, and the disk; `stored` of the store is how many events are answered
pub record StoredView : Type 0 where
  pub hub : HubView
  pub start : ℕ
  pub written : ℕ
  pub store : StoreView

-- the hub as its callers know it: with the events that are answered
abbrev pub answered : StoredView → HubView
answered j = record { admin = j.hub.admin; log = take j.store.stored j.hub.log }

-- an entry, if there is one, lasts
abbrev pub lasts_in : Option Entry → Bool
lasts_in None = false
lasts_in (Some entry) = lasts entry.event

-- an event lasts, and changes nothing: it is a granted opening for writing
abbrev pub opening_waits : EnterKept → Want → Bool
opening_waits Granted Write = true
opening_waits Granted Read = false
opening_waits Created want = false
opening_waits (Denied verdict) want = false
opening_waits NoRepo want = false

abbrev pub waits : Event → Bool
waits (Entered user repo want answer) = opening_waits answer want
waits (Pushed place pack commands atomic outcomes made) = false
waits (Permitted user repo asked answer) = false
waits (Looked user) = false

abbrev pub waits_in : Option Entry → Bool
waits_in None = false
waits_in (Some entry) = waits entry.event

-- the body of an opening that waits
abbrev pub body_waiting : Queued → List ℕ
body_waiting q = body_of q.caller (Enter q.user q.repo Write)

abbrev pub bodies_waiting : List Queued → List (List ℕ)
bodies_waiting queue = map body_waiting queue

-- nothing was stored, noted or put off
abbrev pub IsSameAccount : FileAccount → FileAccount → Type 0
IsSameAccount old new = (new.written ≡ old.written) × (new.places.items ≡ old.places.items) × (new.queue.items ≡ old.queue.items)

-- None of these entries changed the state.
abbrev pub ChangeNothing : List Entry → Type 0
ChangeNothing entries = AllByRecursion (λ (e : Entry). ¬ MayChange e.event) entries

-- What was done once a call of the hub may have made an event, by whether there is one that lasts. Where
-- there is, its record is stored, and with it those that wait, or a call of the disk fails; its place is
-- noted once it is stored. Where there is none, no call of the disk is made.
pub record AccountsFor (modeled : Bool) (group : List (List ℕ)) (count : ℕ) (is_lasting : Bool) (old new : StoreView) (written written' : ℕ) (places places' : List ℕ) (queue queue' : List Queued) : Type 0 where
  pub none : is_lasting ≡ false → (new ≡ record old { stored = count }) × (written' ≡ written) × (places' ≡ places) × (queue' ≡ queue)
  pub stores : is_lasting ≡ true → Stores modeled group count old new
  pub noted : is_lasting ≡ true → new.writer.broken ≡ false → (written' ≡ count) × (places' ≡ places ++ old.stored ∷ []) × (queue' ≡ [])
  pub unnoted : is_lasting ≡ true → new.writer.broken ≡ true → (written' ≡ written) × (places' ≡ places) × (queue' ≡ queue)

-- ---- what holds between calls

-- All events of the log are answered, but perhaps the last one, at which a call of the disk failed. Each
-- answered event that changed something is in the file, if it lasts: behind those for which the file has the
-- ones that last none did.
pub record HasStored (j : StoredView) : Type 0 where
  pub at_gate : EndsAtGate j.store.writer j.store.disk.size
  pub first : j.start ≤ j.written
  pub written : j.written ≤ j.store.stored
  pub answered : j.store.stored ≤ length j.hub.log
  pub last : length j.hub.log ≤ j.store.stored + 1
  pub whole : j.store.writer.broken ≡ false → j.store.stored ≡ length j.hub.log
  pub unchanged : ChangeNothing (drop j.written (take j.store.stored j.hub.log))

-- The file holds the lasting entries of the first so many events of a log; of the first `least` no later one
-- changed anything.
pub record HoldsLasting (admin : Name) (start : ℕ) (log : List Entry) (least : ℕ) (file : List ℕ) : Type 0 where
  pub count : ℕ
  pub first : start ≤ count
  pub there : count ≤ length log
  pub enough : ChangeNothing (drop count (take least log))
  pub holds : HoldsEvents admin (lasting start (take count log)) file

-- While no call of the disk has failed the file holds the lasting entries of a beginning of the log, and
-- nothing is pending. Whether one failed or not, a crash leaves those of a beginning of the log, with each
-- answered event that changed something.
pub record KeepsLasting (j : StoredView) : Type 0 where
  pub within : j.store.stored ≤ length j.hub.log
  pub durable : j.store.writer.broken ≡ false → IsDurable (head_for j.hub.admin) (bodies_in (lasting j.start (take j.written j.hub.log))) j.store.writer.end j.store.disk.file
  pub leaves : Leaves (HoldsLasting j.hub.admin j.start j.hub.log j.store.stored) j.store.disk.file.pending

-- What any calls do, one after the other. A body can be made of each event that they make and that lasts. The
-- hub is broken only where a call of the disk failed, and then makes none any more. What is answered stays
-- so. At each moment a crash leaves the lasting entries of a beginning of the log, with each event that was
-- answered at first and changed something.
pub record GoesOnLasting (modeled : Bool) (old new : StoredView) : Type 0 where
  pub start : new.start ≡ old.start
  pub admin : new.hub.admin ≡ old.hub.admin
  pub more : List Entry
  pub grows : new.hub.log ≡ old.hub.log ++ more
  pub storable : AreStorableEntries (lasting_behind old.start old.hub.log more)
  pub stored : old.store.stored ≤ new.store.stored
  pub counted : old.store.disk.disk_faults ≤ new.store.disk.disk_faults
  pub stays_broken : old.store.writer.broken ≡ true → (new.store ≡ old.store) × (new.written ≡ old.written)
  pub fault : new.store.writer.broken ≡ true → (old.store.writer.broken ≡ true) ⊎ HasRisen old.store.disk.disk_faults new.store.disk.disk_faults
  pub no_fault : new.store.writer.broken ≡ false → new.store.disk.disk_faults ≡ old.store.disk.disk_faults
  pub runs : IsTrue modeled → KeepsLasting old → KeepsLasting new
  pub any_moment : IsTrue modeled → KeepsLasting old → LeavesOnly (HoldsLasting new.hub.admin new.start new.hub.log old.store.stored) old.store.disk.file new.store.disk.file

-- At a moment in between just so many events were answered, and from it on the hub went on.
pub record PassesBy (modeled : Bool) (old new : StoredView) (count : ℕ) : Type 0 where
  pub between : StoredView
  pub stored : between.store.stored ≡ count
  pub before : GoesOnLasting modeled old between
  pub after : GoesOnLasting modeled between new

-- What any calls do, one after the other: the hub goes on, and answers the events one by one.
pub record GoesOnStored (modeled : Bool) (old new : StoredView) : Type 0 where
  pub on : GoesOnLasting modeled old new
  pub moments : (count : ℕ) → old.store.stored ≤ count → count ≤ new.store.stored → PassesBy modeled old new count

-- What calls did from a first hub to the old one, they did to the new one too: the hub is the one that it
-- was.
abbrev pub ContinuesStored : Bool → StoredView → StoredView → Type 0
ContinuesStored modeled old new = (first : StoredView) → GoesOnStored modeled first old → GoesOnStored modeled first new
