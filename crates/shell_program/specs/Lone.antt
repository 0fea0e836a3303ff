-- How a run of the program ends.
use Rattle.std.specs.Prelude.{◌≡◌, ◌⊎◌, ⊤, ℕ, true, false, IsTrue, List, [], Option, Some, None, IfSome}
use Rattle.std.specs.Io.KnownBytes.{Appends}
use Rattle.base_types.specs.Counts.{HasRisen}
use Rattle.pktline_core.specs.LinkState.{LinkState}
use Rattle.hub_history.specs.declared.entry.Entry.{Entry}
use Rattle.ref_store.specs.Refs.{Name}
use Rattle.hub.specs.Desk.{DeskView}
use Rattle.hub_history.specs.History.{IsLegal}
use Rattle.session_core.specs.Recorded.{IsRecorded, Recorded}
use Rattle.shell_words.specs.declared.commands.WordsFault.{WordsFault}
use Rattle.shell_words.specs.declared.commands.WordsFault.TheVariants as words
use Rattle.shell_words.specs.declared.commands.Asked.{Asked}
use Rattle.shell_words.specs.declared.commands.Asked.TheVariants.{Script, Serve, Check, Load, Keep, Access}
use Rattle.shell_program.specs.Command.{admin_of, usage_line}
use Rattle.shell_program.specs.RunningScripts.{EndsScript, MayLackAfter, WritesPart}
use Rattle.shell_program.specs.Access.{EndsAccess}
use Rattle.shell_program.specs.Check.{EndsCheck}
use Rattle.shell_program.specs.Load.{EndsLoad}
use Rattle.shell_program.specs.Keep.{DiskRun, EndsKeep}
use Rattle.shell_program.specs.Status.{status_number}
use Rattle.shell_program.specs.declared.status.Status.{Status}
use Rattle.shell_program.specs.declared.status.Status.TheVariants.{Usage, OutputFault, NoMemory}

-- the desk of a new hub's only caller
abbrev pub new_desk : Name → DeskView
new_desk admin = record { admin = admin; caller = 0; start = 0; seen = []; alone = true }

-- What holds where refused words ended with this status; they end with no other. The usage is printed, or a
-- beginning of it, not all of it. Where memory lacked nothing was printed, or the sink is one that may lack
-- memory.
abbrev pub EndsUsage : LinkState → LinkState → Status → Type 0
EndsUsage sink sink' Usage = Appends sink.written sink'.written usage_line
EndsUsage sink sink' OutputFault = WritesPart sink sink' usage_line × HasRisen sink.write_faults sink'.write_faults
EndsUsage sink sink' NoMemory = (part : WritesPart sink sink' usage_line) × MayLackAfter sink part.bytes
EndsUsage sink sink' other = ⊥

-- What holds where the words aren't read as a command: they are refused, or memory ran out, and then nothing
-- is printed.
abbrev pub EndsUnread : WordsFault → LinkState → LinkState → ℕ → Type 0
EndsUnread words.Usage sink sink' number = (why : Status) × (number ≡ status_number why) × EndsUsage sink sink' why
EndsUnread words.NoMemory sink sink' number = (number ≡ 4) × (sink' ≡ sink)

-- Words that are no command at all end with 4 only where the output may lack memory.
abbrev pub RefusesSurely : Option Asked → LinkState → ℕ → Type 0
RefusesSurely None sink number = number ≡ 4 → IsTrue sink.may_lack
RefusesSurely (Some command) sink number = ⊤

-- The command decides: a check, which logs nothing; a script at a new hub; the sessions of a generated
-- installation, which reads nothing; a script at the hub of a journal, the only command that uses the disk;
-- questions, which log nothing; or none, and then the words are refused, and nothing is read or logged. One
-- caller alone does no other.
abbrev pub EndsBy : Option Asked → DiskRun → LinkState → LinkState → LinkState → LinkState → List Entry → Status → Type 0
EndsBy (Some Check) disk source source' sink sink' log status = EndsCheck source source' sink sink' status × (log ≡ []) × (disk.new ≡ disk.old)
EndsBy (Some (Script admin)) disk source source' sink sink' log status = EndsScript admin [] source source' sink sink' log status × (disk.new ≡ disk.old)
EndsBy (Some (Serve transport admin workers sessions)) disk source source' sink sink' log status = ⊥
EndsBy (Some (Load count start)) disk source source' sink sink' log status = EndsLoad count start sink sink' log status × (source' ≡ source) × (disk.new ≡ disk.old)
EndsBy (Some (Keep admin)) disk source source' sink sink' log status = EndsKeep admin disk source source' sink sink' log status
EndsBy (Some Access) disk source source' sink sink' log status = EndsAccess source source' sink sink' status × (log ≡ []) × (disk.new ≡ disk.old)
EndsBy None disk source source' sink sink' log status = EndsUsage sink sink' status × (source' ≡ source) × (log ≡ []) × (disk.new ≡ disk.old)

-- A run of this command ended with this number and this log.
pub record EndsRun (found : Option Asked) (disk : DiskRun) (source source' sink sink' : LinkState) (number : ℕ) (log : List Entry) : Type 0 where
  pub status : Status
  pub number_is : number ≡ status_number status
  pub ends : EndsBy found disk source source' sink sink' log status

-- unless memory runs out, a check ends with 0 or 6, a script with 0 or 7, `keep` with 0, 7 or 9, `access`
-- with 0, 6, 7 or 10, `serve`, `http` and `load` with 0, and refused words with 1
abbrev pub IsDue : Option Asked → ℕ → Type 0
IsDue (Some Check) number = (number ≡ 0) ⊎ (number ≡ 6) ⊎ (number ≡ 4)
IsDue (Some (Script admin)) number = (number ≡ 0) ⊎ (number ≡ 7) ⊎ (number ≡ 4)
IsDue (Some (Serve transport admin workers sessions)) number = (number ≡ 0) ⊎ (number ≡ 4)
IsDue (Some (Load count start)) number = (number ≡ 0) ⊎ (number ≡ 4)
IsDue (Some (Keep admin)) number = (number ≡ 0) ⊎ (number ≡ 7) ⊎ (number ≡ 9) ⊎ (number ≡ 4)
IsDue (Some Access) number = (number ≡ 0) ⊎ (number ≡ 6) ⊎ (number ≡ 7) ⊎ (number ≡ 10) ⊎ (number ≡ 4)
IsDue None number = (number ≡ 1) ⊎ (number ≡ 4)

-- a call of the disk failed, of a command that uses it
abbrev pub AUsedDiskFailed : Option Asked → DiskRun → Type 0
AUsedDiskFailed (Some (Keep admin)) disk = HasRisen disk.old.disk_faults disk.new.disk_faults
AUsedDiskFailed other disk = ⊥

-- that is so where no fault is counted
abbrev pub EndsSurely : Option Asked → DiskRun → LinkState → LinkState → LinkState → LinkState → ℕ → Type 0
EndsSurely found disk source source' sink sink' number =
    (HasRisen source.read_faults source'.read_faults → ⊥) → (HasRisen sink.write_faults sink'.write_faults → ⊥) → (AUsedDiskFailed found disk → ⊥) → IsDue found number

-- A run that doesn't end with 2 had no failed read of its input, and one that doesn't end with 3 no failed
-- write of its output.
abbrev pub TellsStatus : LinkState → LinkState → LinkState → LinkState → ℕ → Type 0
TellsStatus source source' sink sink' number = ((number ≡ 2) ⊎ (source'.read_faults ≡ source.read_faults)) × ((number ≡ 3) ⊎ (sink'.write_faults ≡ sink.write_faults))

-- The log of a hub is legal from the setup for its admin: each recorded answer is the one that is due by what
-- stands before it.
abbrev pub IsLegalRun : Option Asked → List Entry → Type 0
IsLegalRun found log = IfSome (admin_of found) (λ admin. IsLegal admin log)

-- And something is recorded by it, so that what holds by all that the log records, or by each of its
-- rulebooks, isn't said of nothing.
abbrev pub IsRecordedRun : Option Asked → List Entry → Type 0
IsRecordedRun found log = IfSome (admin_of found) (λ admin. (recorded : Recorded) × IsRecorded admin log recorded)
