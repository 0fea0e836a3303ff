-- What opening a journal answers.
use Rattle.std.specs.Prelude.{◌≡◌, ◌⊎◌, ⊤, ℕ, ◌≤◌, ◌<◌, List, [], length, take, Some, Result, Err}
use Rattle.base_types.specs.Counts.{HasRisen}
use Rattle.ref_store.specs.Refs.{Name}
use Rattle.hub_history.specs.declared.entry.Entry.{Entry}
use Rattle.hub_history.specs.History.{IsLegal}
use Rattle.hub_history.specs.Requests.{Request}
use Rattle.hub.specs.Hub.{HubView}
use Rattle.record_file.specs.Disks.{DiskState}
use Rattle.record_file.specs.Reading.{IsBadGate, IsReadTo, IsRecordAt}
use Rattle.record_file.specs.Records.{IsNoRecordFile, HasAnotherName}
use Rattle.record_file.specs.declared.stored_record.StoredRecord.{StoredRecord}
use Rattle.event_record.specs.Bodies.{body_of, IsStorable}
use Rattle.hub_journal.specs.Events.{AreStorableEntries, HoldsEvents, bodies_in, head_for, magic}
use Rattle.event_record.specs.Fronts.{place_at}
use Rattle.hub_journal.specs.Replay.{IsAwaited, IsImpossible, ReplayView, last_push}
use Rattle.record_file.specs.declared.open_fault.OpenFault as records
use Rattle.record_file.specs.declared.open_fault.OpenFault.TheVariants as records_fault
use Rattle.hub_journal.specs.declared.open_fault.OpenFault.{OpenFault}
use Rattle.hub_journal.specs.declared.open_fault.OpenFault.TheVariants.{NotAJournal, OtherAdmin, BadRecord, DiskFault, NoMemory}

-- `DiskFault` comes exactly where the count of failed calls rose.
abbrev pub ReportsFaults : {T : Type 0} → Result T OpenFault → DiskState → DiskState → Type 0
ReportsFaults (Err DiskFault) old new = HasRisen old.disk_faults new.disk_faults × (old.disk_faults ≤ new.disk_faults)
ReportsFaults answer old new = new.disk_faults ≡ old.disk_faults

-- These bytes are the body of an event that can't be asked of the hub.
pub record IsImpossibleBody (hub : HubView) (body : List ℕ) : Type 0 where
  pub caller : ℕ
  pub request : Request
  pub storable : IsStorable caller request
  pub spells : body ≡ body_of caller request
  pub impossible : IsImpossible hub request

-- These bytes are no event's body, or that of one that can't be asked of the hub.
abbrev pub IsBadBody : HubView → List ℕ → Type 0
IsBadBody hub body = ((caller : ℕ) (request : Request) → IsStorable caller request → body ≡ body_of caller request → ⊥) ⊎ IsImpossibleBody hub body

-- A push with this body was foreseen: its opening is known to have a push at the next place of the hub's log,
-- or at a later one.
abbrev pub IsForeseenBody : ReplayView → List ℕ → Type 0
IsForeseenBody replay body = (opening : ℕ) → place_at (take 17 body) ≡ Some opening → IsAwaited (last_push replay.last_pushes) (length replay.hub.log) opening

-- why the event of a record wasn't replayed
abbrev pub RefusesRecord : ReplayView → StoredRecord → OpenFault → Type 0
RefusesRecord replay its (BadRecord offset) = (its.offset ≡ offset) × (IsForeseenBody replay its.body → IsBadBody replay.hub its.body)
RefusesRecord replay its NoMemory = ⊤
RefusesRecord replay its fault = ⊥

-- At this offset is a whole record, of no event that can be asked of the hub.
pub record IsBadRecordAt (hub : HubView) (file : List ℕ) (offset : ℕ) : Type 0 where
  pub body : List ℕ
  pub next : ℕ
  pub there : IsRecordAt file offset body next
  pub bad : IsBadBody hub body

-- Behind the records of a legal log's events, at this offset, is no whole record and no zero gate, or the
-- record of no event that can be asked of the hub of that log.
pub record HasBadEventAt (admin : Name) (file : List ℕ) (offset : ℕ) : Type 0 where
  pub log : List Entry
  pub legal : IsLegal admin log
  pub storable : AreStorableEntries log
  pub read : IsReadTo (head_for admin) (bodies_in log) file offset
  pub bad : IsBadGate file offset ⊎ IsBadRecordAt (record { admin = admin; log = log }) file offset

-- why an admin's events weren't made of the records of a file; the other faults say nothing of it
abbrev pub RefusesEvents : Name → List ℕ → OpenFault → Type 0
RefusesEvents admin file (BadRecord offset) = HasBadEventAt admin file offset
RefusesEvents admin file DiskFault = ⊤
RefusesEvents admin file NoMemory = ⊤
RefusesEvents admin file fault = ⊥

-- the fault of a file of records, as one of a journal
abbrev pub journal_fault : records.OpenFault → OpenFault
journal_fault records_fault.NotARecordFile = NotAJournal
journal_fault records_fault.NameDiffers = OtherAdmin
journal_fault (records_fault.BadRecord offset) = BadRecord offset
journal_fault records_fault.DiskFault = DiskFault
journal_fault records_fault.NoMemory = NoMemory

-- why a file isn't the journal of an admin's hub, each fault by its word; the other faults say nothing of the
-- file
abbrev pub IsNoJournal : Name → List ℕ → OpenFault → Type 0
IsNoJournal admin file NotAJournal = IsNoRecordFile magic file
IsNoJournal admin file OtherAdmin = HasAnotherName magic admin file
IsNoJournal admin file (BadRecord offset) = HasBadEventAt admin file offset
IsNoJournal admin file DiskFault = ⊤
IsNoJournal admin file NoMemory = ⊤

-- The hub's events are those of the file; an empty file has none.
abbrev pub AreEventsOf : Name → List Entry → List ℕ → Type 0
AreEventsOf admin log file = (length file ≡ 0 → log ≡ []) × (0 < length file → HoldsEvents admin log file)
