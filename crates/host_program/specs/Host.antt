-- `host`: workers at the hub of a journal on a disk, and how it ends.
use Rattle.std.specs.Prelude.{◌≡◌, ◌⊎◌, ℕ, ◌+◌, ◌≤◌, Bool, true, false, IsTrue, List, [], length, take, drop, Option, None, Some, Result, Ok, Err, slice_index_or}
use Rattle.std.specs.Io.KnownBytes.{Appends}
use Rattle.base_types.specs.Counts.{HasRisen}
use Rattle.pktline_core.specs.LinkState.{LinkState}
use Rattle.edge_links.specs.Door.{DoorState}
use Rattle.ref_store.specs.Refs.{Name}
use Rattle.hub_history.specs.declared.entry.Entry.{Entry}
use Rattle.hub_history.specs.History.{IsLegal}
use Rattle.hub.specs.Hub.{HubView}
use Rattle.record_file.specs.Crashes.{FileState, Leaves, LeavesOnly}
use Rattle.record_file.specs.Disks.{DiskState}
use Rattle.record_file.specs.Records.{Holds}
use Rattle.hub_journal.specs.Events.{head_for}
use Rattle.hub_journal.specs.Recovery.{AreEventsOf, IsNoJournal, ReportsFaults}
use Rattle.hub_journal.specs.declared.open_fault.OpenFault.{OpenFault}
use Rattle.lasting_events.specs.Lasting.{lasting}
use Rattle.session_workers.specs.declared.post.Post.{Post}
use Rattle.session_workers.specs.ServesAll.{ServesAll}
use Rattle.shell_program.specs.Keep.{EndsUnopened, IsStored}
use Rattle.shell_program.specs.Protocols.{meaning_of}
use Rattle.shell_program.specs.Serve.{StopsPrinting, served_line}
use Rattle.shell_program.specs.Status.{served_status}
use Rattle.shell_program.specs.declared.protocols.ServerProtocol.{ServerProtocol}
use Rattle.shell_program.specs.declared.script.ScriptFault.{ScriptFault}
use Rattle.shell_program.specs.declared.status.Status.{Status}
use Rattle.shell_program.specs.declared.status.Status.TheVariants.{NoMemory, DiskFault}
use Rattle.stored_hub.specs.Stored.{ChangeNothing, HoldsLasting}

-- a run
-- modeled: whether the disk tells its bytes
-- disk, disk': what it was, and what it is where it comes back
-- sink, sink': the output
-- log, stored: the log, and how many of its events were answered; each of them that changed something is
-- stored for certain
-- status: how it ended
pub record HostRun : Type 0 where
  pub modeled : Bool
  pub disk : DiskState
  pub disk' : Option DiskState
  pub sink : LinkState
  pub sink' : LinkState
  pub log : List Entry
  pub stored : ℕ
  pub status : Status

-- I. The journal

-- The journal was opened behind the log whose events the file held. A crash at each moment meanwhile leaves
-- the records that the file held; an empty file has none.
pub record Opens (admin : Name) (modeled : Bool) (disk opened : DiskState) (before : List Entry) : Type 0 where
  pub legal : IsLegal admin before
  pub events : IsTrue modeled → AreEventsOf admin before disk.file.content
  pub no_fault : opened.disk_faults ≡ disk.disk_faults
  pub stored : IsTrue modeled → IsStored admin before opened.file
  pub opening : IsTrue modeled → (bodies : List (List ℕ)) → Leaves (Holds (head_for admin) bodies) disk.file.pending → LeavesOnly (Holds (head_for admin) bodies) disk.file opened.file

-- From this moment on a crash at each moment leaves the lasting entries of a beginning of the log, with each
-- of the first so many events that changed something; before it, at least with those that were there at
-- first. So what so many events changed isn't lost.
pub record IsStoredSince (admin : Name) (log : List Entry) (first count : ℕ) (old new : FileState) : Type 0 where
  pub moment : FileState
  pub until : LeavesOnly (HoldsLasting admin first log first) old moment
  pub since : LeavesOnly (HoldsLasting admin first log count) moment new

-- The file holds the lasting entries of a beginning of the log, behind which nothing changed, and nothing is
-- pending.
pub record StoresChanges (admin : Name) (first : ℕ) (log : List Entry) (file : FileState) : Type 0 where
  pub count : ℕ
  pub least : first ≤ count
  pub there : count ≤ length log
  pub unchanged : ChangeNothing (drop count log)
  pub stored : IsStored admin (lasting first (take count log)) file

-- For each number of events there was a moment since which what so many of them changed is stored. All that
-- the log changed is, unless a call of the disk failed; then perhaps its last event isn't stored.
pub record StoresEvents (admin : Name) (modeled : Bool) (old new : DiskState) (before log : List Entry) (stored : ℕ) : Type 0 where
  pub least : length before ≤ stored
  pub within : stored ≤ length log
  pub most : length log ≤ stored + 1
  pub all : (HasRisen old.disk_faults new.disk_faults → ⊥) → (stored ≡ length log) × (IsTrue modeled → StoresChanges admin (length before) log new.file)
  pub moments : IsTrue modeled → (count : ℕ) → length before ≤ count → count ≤ stored → IsStoredSince admin log (length before) count old.file new.file

-- II. The end

-- the line is printed, or why it isn't
abbrev pub Prints : LinkState → LinkState → List ℕ → Result (Unit {0}) ScriptFault → Type 0
Prints sink sink' line (Ok unit) = Appends sink.written sink'.written line
Prints sink sink' line (Err why) = StopsPrinting sink sink' line why

-- a fault of the disk comes before all others
abbrev pub host_status : Bool → Result (Unit {0}) ScriptFault → Bool → Bool → Status
host_status true printed failed lacked = DiskFault
host_status false printed failed lacked = served_status printed failed lacked

-- a call of the disk failed, or none
abbrev pub TellsFault : Bool → DiskState → DiskState → Type 0
TellsFault true old new = HasRisen old.disk_faults new.disk_faults
TellsFault false old new = new.disk_faults ≡ old.disk_faults

abbrev pub hub_of : Name → List Entry → HubView
hub_of admin log = record { admin = admin; log = log }

module _ {L D G H : Type 0} (state : L → LinkState) (door : D → DoorState L) (admin : Name) (each : ℕ) (old new : List (Post D G H ServerProtocol)) (run : HostRun) where
  -- no door was asked
  abbrev pub AsksNone : Type 0
  AsksNone = (k : ℕ) (d : Post D G H ServerProtocol) → (slice_index_or new k d).door ≡ (slice_index_or old k d).door

  -- The journal wasn't opened, for this reason. Whatever records the file held, a crash at each moment leaves
  -- them.
  pub record IsRefused : Type 0 where
    pub fault : OpenFault
    pub disk' : DiskState
    pub back : run.disk' ≡ Some disk'
    pub why : IsTrue run.modeled → IsNoJournal admin run.disk.file.content fault
    pub faults : ReportsFaults {T = Unit {0}} (Err fault) run.disk disk'
    pub any_moment : IsTrue run.modeled → (bodies : List (List ℕ)) → Leaves (Holds (head_for admin) bodies) run.disk.file.pending → LeavesOnly (Holds (head_for admin) bodies) run.disk.file disk'.file
    pub ends : EndsUnopened fault run.sink run.sink' run.status
    pub unasked : AsksNone
    pub no_log : run.log ≡ []

  -- There was no memory to share the hub: it is gone, with its disk, on which nothing was done since the
  -- journal was opened.
  pub record SharesNone : Type 0 where
    pub gone : run.disk' ≡ None
    pub status : run.status ≡ NoMemory
    pub unprinted : run.sink' ≡ run.sink
    pub unasked : AsksNone
    pub no_log : run.log ≡ []

  -- The posts were served at the hub, each by its protocol, and the log goes on from the one of the journal.
  pub record Hosts (opened : DiskState) (before : List Entry) : Type 0 where
    pub sessions : ℕ
    pub failed : Bool
    pub lacked : Bool
    pub serves : ServesAll meaning_of state door true (hub_of admin before) (hub_of admin (take run.stored run.log)) old new each sessions failed lacked
    pub disk' : DiskState
    pub back : run.disk' ≡ Some disk'
    pub stores : StoresEvents admin run.modeled opened disk' before run.log run.stored
    pub broken : Bool
    pub faults : TellsFault broken opened disk'
    pub printed : Result (Unit {0}) ScriptFault
    pub prints : Prints run.sink run.sink' (served_line sessions run.stored) printed
    pub status : run.status ≡ host_status broken printed failed lacked

  -- what holds behind an open journal
  pub record RunsHost : Type 0 where
    pub before : List Entry
    pub opened : DiskState
    pub opens : Opens admin run.modeled run.disk opened before
    pub ends : SharesNone ⊎ Hosts opened before

  -- how `host` ends
  abbrev pub EndsHost : Type 0
  EndsHost = IsRefused ⊎ RunsHost
