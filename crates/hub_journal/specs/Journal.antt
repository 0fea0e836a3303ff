-- A journal: a hub whose events are stored on a disk.
use Rattle.std.specs.Prelude.{◌≡◌, ◌⊎◌, ℕ, ◌≤◌, Bool, true, false, IsTrue, List, ◌++◌, length}
use Rattle.base_types.specs.Counts.{HasRisen}
use Rattle.hub_history.specs.declared.entry.Entry.{Entry}
use Rattle.hub.specs.Hub.{HubView}
use Rattle.record_file.specs.Crashes.{Leaves, LeavesOnly}
use Rattle.record_file.specs.Disks.{DiskState}
use Rattle.record_file.specs.Files.{EndsAtGate, IsDurable, WriterState}
use Rattle.record_file.specs.Records.{HoldsAllOrNone}
use Rattle.hub_journal.specs.Events.{AreStorableEntries, HoldsSome, bodies_in, head_for}

-- how many events are stored for certain, the end of the file, and the disk
pub record StoreView : Type 0 where
  pub stored : ℕ
  pub writer : WriterState
  pub disk : DiskState

-- the hub, from which place on entries are the journal's own, and how they are stored
pub record JournalView : Type 0 where
  pub hub : HubView
  pub start : ℕ
  pub store : StoreView

-- what storing a group of records does, after which so many events are stored
pub record Stores (modeled : Bool) (group : List (List ℕ)) (count : ℕ) (old new : StoreView) : Type 0 where
  pub at_gate : EndsAtGate new.writer new.disk.size
  pub told : new.writer.broken ≡ false → new.stored ≡ count
  pub kept : new.writer.broken ≡ true → new.stored ≡ old.stored
  pub counted : old.disk.disk_faults ≤ new.disk.disk_faults
  pub stays_broken : old.writer.broken ≡ true → (new.writer ≡ old.writer) × (new.disk ≡ old.disk)
  pub fault : new.writer.broken ≡ true → (old.writer.broken ≡ true) ⊎ HasRisen old.disk.disk_faults new.disk.disk_faults
  pub no_fault : new.writer.broken ≡ false → new.disk.disk_faults ≡ old.disk.disk_faults
  pub durable : IsTrue modeled → new.writer.broken ≡ false → (head : List ℕ) (bodies : List (List ℕ))
      → IsDurable head bodies old.writer.end old.disk.file → IsDurable head (bodies ++ group) new.writer.end new.disk.file
  pub any_moment : IsTrue modeled → old.writer.broken ≡ false → (head : List ℕ) (bodies : List (List ℕ))
      → IsDurable head bodies old.writer.end old.disk.file → LeavesOnly (HoldsAllOrNone head bodies group) old.disk.file new.disk.file

-- the first events that are stored for certain are in the log; while the journal isn't broken, that is all of
-- it
pub record IsSound (j : JournalView) : Type 0 where
  pub within : j.start ≤ length j.hub.log
  pub at_gate : EndsAtGate j.store.writer j.store.disk.size
  pub stored : j.store.stored ≤ length j.hub.log
  pub whole : j.store.writer.broken ≡ false → j.store.stored ≡ length j.hub.log

-- While the journal isn't broken its file holds the whole log, and nothing is pending. Whether broken or not,
-- a crash leaves the first events of the log, no fewer than are stored for certain.
pub record IsRunning (j : JournalView) : Type 0 where
  pub durable : j.store.writer.broken ≡ false → IsDurable (head_for j.hub.admin) (bodies_in j.hub.log) j.store.writer.end j.store.disk.file
  pub leaves : Leaves (HoldsSome j.hub.admin j.hub.log j.store.stored) j.store.disk.file.pending

-- What any calls of a journal do, one after the other. A body can be made of each event that they make. It is
-- broken only where a call of the disk failed, and then makes none any more. What is stored for certain
-- stays. At each moment a crash leaves the first events of the log, no fewer than were stored for certain at
-- the beginning.
pub record GoesOn (modeled : Bool) (old new : JournalView) : Type 0 where
  pub start : new.start ≡ old.start
  pub admin : new.hub.admin ≡ old.hub.admin
  pub more : List Entry
  pub grows : new.hub.log ≡ old.hub.log ++ more
  pub storable : AreStorableEntries more
  pub stored : old.store.stored ≤ new.store.stored
  pub counted : old.store.disk.disk_faults ≤ new.store.disk.disk_faults
  pub stays_broken : old.store.writer.broken ≡ true → new.store ≡ old.store
  pub fault : new.store.writer.broken ≡ true → (old.store.writer.broken ≡ true) ⊎ HasRisen old.store.disk.disk_faults new.store.disk.disk_faults
  pub no_fault : new.store.writer.broken ≡ false → new.store.disk.disk_faults ≡ old.store.disk.disk_faults
  pub runs : IsTrue modeled → IsRunning old → IsRunning new
  pub any_moment : IsTrue modeled → IsRunning old → LeavesOnly (HoldsSome new.hub.admin new.hub.log old.store.stored) old.store.disk.file new.store.disk.file

-- What calls did from a first journal to the old one, they did to the new one too. It is how a caller knows
-- that a desk is the journal that it was: from any journal on, calls go on to it.
abbrev pub Continues : Bool → JournalView → JournalView → Type 0
Continues modeled old new = (first : JournalView) → GoesOn modeled first old → GoesOn modeled first new
