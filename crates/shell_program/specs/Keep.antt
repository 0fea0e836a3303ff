-- `keep`: a script at a hub whose log is kept in a journal on a disk.
use Rattle.std.specs.Prelude.{◌≡◌, ◌⊎◌, ℕ, Bool, IsTrue, List, [], ◌∷◌, ◌++◌, length, Err}
use Rattle.std.specs.Io.KnownBytes.{Appends}
use Rattle.base_types.specs.Counts.{HasRisen}
use Rattle.pktline_core.specs.LinkState.{LinkState}
use Rattle.ref_store.specs.Refs.{Name}
use Rattle.hub_history.specs.declared.entry.Entry.{Entry}
use Rattle.hub_history.specs.History.{IsLegal}
use Rattle.record_file.specs.Crashes.{FileState, Leaves, LeavesOnly}
use Rattle.record_file.specs.Disks.{DiskState}
use Rattle.record_file.specs.Files.{IsDurable}
use Rattle.record_file.specs.Records.{Holds}
use Rattle.hub_journal.specs.Events.{HoldsSome, bodies_in, head_for}
use Rattle.hub_journal.specs.Faults.{fault_text}
use Rattle.hub_journal.specs.Recovery.{AreEventsOf, IsNoJournal, ReportsFaults}
use Rattle.hub_journal.specs.declared.open_fault.OpenFault.{OpenFault}
use Rattle.hub_journal.specs.declared.open_fault.OpenFault.TheVariants as refusal
use Rattle.shell_program.specs.RunningScripts.{EndsScript, MayLackAfter, StopsAtDisk, WritesPart}
use Rattle.shell_program.specs.declared.status.Status.{Status}
use Rattle.shell_program.specs.declared.status.Status.TheVariants.{OutputFault, NoMemory, DiskFault, BadJournal}

-- whether a disk tells its bytes, and what it was and is
pub record DiskRun : Type 0 where
  pub modeled : Bool
  pub old : DiskState
  pub new : DiskState

-- I. The file is no journal of this admin's hub

-- the line that says why
unfoldable pub refusal_line : OpenFault → List ℕ
refusal_line fault = fault_text fault ++ 10 ∷ []

-- What holds where a file was refused with this status; it is refused with no other. The line is printed, or
-- a beginning of it, not all of it. Where memory lacked nothing was printed, or the sink is one that may lack
-- memory.
abbrev pub TellsRefusal : List ℕ → LinkState → LinkState → Status → Type 0
TellsRefusal line sink sink' BadJournal = Appends sink.written sink'.written line
TellsRefusal line sink sink' OutputFault = WritesPart sink sink' line × HasRisen sink.write_faults sink'.write_faults
TellsRefusal line sink sink' NoMemory = (part : WritesPart sink sink' line) × MayLackAfter sink part.bytes
TellsRefusal line sink sink' other = ⊥

-- by the fault: a fault of the disk and want of memory aren't printed
abbrev pub EndsUnopened : OpenFault → LinkState → LinkState → Status → Type 0
EndsUnopened refusal.DiskFault sink sink' status = (status ≡ DiskFault) × (sink' ≡ sink)
EndsUnopened refusal.NoMemory sink sink' status = (status ≡ NoMemory) × (sink' ≡ sink)
EndsUnopened fault sink sink' status = TellsRefusal (refusal_line fault) sink sink' status

-- The journal wasn't opened, for this reason: nothing was read of the input, and there is no log. Whatever
-- records the file held, a crash at each moment leaves them.
pub record IsUnopened (admin : Name) (disk : DiskRun) (source source' sink sink' : LinkState) (log : List Entry) (status : Status) : Type 0 where
  pub fault : OpenFault
  pub why : IsTrue disk.modeled → IsNoJournal admin disk.old.file.content fault
  pub faults : ReportsFaults {T = Unit {0}} (Err fault) disk.old disk.new
  pub any_moment : IsTrue disk.modeled → (bodies : List (List ℕ)) → Leaves (Holds (head_for admin) bodies) disk.old.file.pending → LeavesOnly (Holds (head_for admin) bodies) disk.old.file disk.new.file
  pub ends : EndsUnopened fault sink sink' status
  pub unread : source' ≡ source
  pub no_log : log ≡ []

-- II. The script

-- the whole log is in the file, and nothing of it is pending
pub record IsStored (admin : Name) (log : List Entry) (file : FileState) : Type 0 where
  pub end : ℕ
  pub durable : IsDurable (head_for admin) (bodies_in log) end file

-- no call of the disk failed, and the whole log is stored
pub record StoresAll (admin : Name) (disk : DiskRun) (log : List Entry) : Type 0 where
  pub no_fault : disk.new.disk_faults ≡ disk.old.disk_faults
  pub stored : IsTrue disk.modeled → IsStored admin log disk.new.file

-- what is stored, by the status: the whole log, unless a call of the disk failed; where memory ran out either
-- may be so
abbrev pub Keeps : Name → DiskRun → List Entry → Status → Type 0
Keeps admin disk log DiskFault = HasRisen disk.old.disk_faults disk.new.disk_faults
Keeps admin disk log NoMemory = StoresAll admin disk log ⊎ HasRisen disk.old.disk_faults disk.new.disk_faults
Keeps admin disk log other = StoresAll admin disk log

-- how the script ended behind this log: as at a desk that can't break, or since the desk broke
abbrev pub EndsKept : Name → List Entry → LinkState → LinkState → LinkState → LinkState → List Entry → Status → Type 0
EndsKept admin before source source' sink sink' log DiskFault = StopsAtDisk source source' sink sink' admin before log
EndsKept admin before source source' sink sink' log other = EndsScript admin before source source' sink sink' log other

-- The script was run at the hub of an open journal. A crash at each moment leaves the first events of the
-- log, and all from before among them.
pub record RunsOpen (admin : Name) (before : List Entry) (disk : DiskRun) (source source' sink sink' : LinkState) (log : List Entry) (status : Status) : Type 0 where
  pub more : List Entry
  pub grows : log ≡ before ++ more
  pub ends : EndsKept admin before source source' sink sink' log status
  pub keeps : Keeps admin disk log status
  pub any_moment : IsTrue disk.modeled → LeavesOnly (HoldsSome admin log (length before)) disk.old.file disk.new.file

-- The journal was opened, and the script was run behind the log whose events the file held. While it was
-- opened, a crash at each moment leaves the records that the file held; an empty file has none. From then on
-- it leaves the first events of the log, and all from before among them.
pub record RunsKept (admin : Name) (disk : DiskRun) (source source' sink sink' : LinkState) (log : List Entry) (status : Status) : Type 0 where
  pub before : List Entry
  pub legal : IsLegal admin before
  pub events : IsTrue disk.modeled → AreEventsOf admin before disk.old.file.content
  pub opened : DiskState
  pub no_fault : opened.disk_faults ≡ disk.old.disk_faults
  pub stored : IsTrue disk.modeled → IsStored admin before opened.file
  pub opening : IsTrue disk.modeled → (bodies : List (List ℕ)) → Leaves (Holds (head_for admin) bodies) disk.old.file.pending → LeavesOnly (Holds (head_for admin) bodies) disk.old.file opened.file
  pub runs : RunsOpen admin before (record { modeled = disk.modeled; old = opened; new = disk.new }) source source' sink sink' log status

-- III. The end

-- What holds where `keep` ended with this status.
abbrev pub EndsKeep : Name → DiskRun → LinkState → LinkState → LinkState → LinkState → List Entry → Status → Type 0
EndsKeep admin disk source source' sink sink' log status =
    IsUnopened admin disk source source' sink sink' log status ⊎ RunsKept admin disk source source' sink sink' log status
