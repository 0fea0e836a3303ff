-- What a run of `check` does.
use Rattle.std.specs.Prelude.{◌≡◌, ◌⊎◌, ℕ, List, Bool, true, false, IsTrue, Result, Err, if◌then◌else◌}
use Rattle.std.specs.Io.KnownBytes.{Appends, IsAtEnd}
use Rattle.base_types.specs.Counts.{HasRisen}
use Rattle.pktline_core.specs.LinkState.{LinkState}
use Rattle.conf_check.specs.Report.{IsPrinted}
use Rattle.script_frames.specs.ReadingFrames.{Takes, FailsAfter}
use Rattle.shell_program.specs.RunningScripts.{WritesPart}
use Rattle.shell_program.specs.declared.check.ReadAllFault.{ReadAllFault}
use Rattle.shell_program.specs.declared.check.ReadAllFault.TheVariants as fault
use Rattle.shell_program.specs.declared.status.Status.{Status}
use Rattle.shell_program.specs.declared.status.Status.TheVariants.{Done, Usage, InputFault, OutputFault, NoMemory, DoorFault, ConfRefused, BadScript, DiskFault, BadJournal, BadQuestion}

-- the input was read to its end
pub record ReadsAll (source source' : LinkState) (input : List ℕ) : Type 0 where
  pub takes : Takes source source' input
  pub ended : IsAtEnd source'.left

-- The input was read to its end, and what is due of it was printed: rules, or a fault.
pub record PrintsConf (source source' sink sink' : LinkState) (has_rules : Bool) : Type 0 where
  pub input : List ℕ
  pub text : List ℕ
  pub reads : ReadsAll source source' input
  pub due : IsPrinted input has_rules text
  pub printed : Appends sink.written sink'.written text

-- a read failed after these bytes
pub record FailsInput (source source' : LinkState) : Type 0 where
  pub part : List ℕ
  pub fails : FailsAfter source source' part

-- memory ran out after these bytes, which may be all
pub record LacksInput (source source' : LinkState) : Type 0 where
  pub part : List ℕ
  pub takes : Takes source source' part

-- The input was read to its end, and a beginning of what is due of it was printed, not all of it.
pub record PrintsPart (source source' sink sink' : LinkState) : Type 0 where
  pub input : List ℕ
  pub text : List ℕ
  pub has_rules : Bool
  pub reads : ReadsAll source source' input
  pub due : IsPrinted input has_rules text
  pub part : WritesPart sink sink' text

-- What holds where a check ended with this status; it ends with no other. Where a read failed nothing was
-- printed; where memory ran out that is so, or the sink may run out of memory.
abbrev pub EndsCheck : LinkState → LinkState → LinkState → LinkState → Status → Type 0
EndsCheck source source' sink sink' Done = PrintsConf source source' sink sink' true
EndsCheck source source' sink sink' ConfRefused = PrintsConf source source' sink sink' false
EndsCheck source source' sink sink' InputFault = FailsInput source source' × (sink' ≡ sink)
EndsCheck source source' sink sink' OutputFault = PrintsPart source source' sink sink' × HasRisen sink.write_faults sink'.write_faults
EndsCheck source source' sink sink' NoMemory = (LacksInput source source' × (sink' ≡ sink)) ⊎ (PrintsPart source source' sink sink' × IsTrue sink.may_lack)
EndsCheck source source' sink sink' Usage = ⊥
EndsCheck source source' sink sink' DoorFault = ⊥
EndsCheck source source' sink sink' BadScript = ⊥
EndsCheck source source' sink sink' DiskFault = ⊥
EndsCheck source source' sink sink' BadJournal = ⊥
EndsCheck source source' sink sink' BadQuestion = ⊥

-- why the input was not read to its end
abbrev pub StopsReading : LinkState → LinkState → ReadAllFault → Type 0
StopsReading source source' fault.Failed = FailsInput source source'
StopsReading source source' fault.NoMemory = LacksInput source source'

-- no failed read is hidden
abbrev pub TellsReadAll : {V : Type 0} → LinkState → LinkState → Result V ReadAllFault → Type 0
TellsReadAll old new (Err fault.Failed) = Unit {0}
TellsReadAll old new answer = new.read_faults ≡ old.read_faults

-- how a conf that was printed whole is told
abbrev pub conf_status : Bool → Status
conf_status has_rules = if has_rules then Done else ConfRefused

-- how an unfinished reading is told
abbrev pub read_status : ReadAllFault → Status
read_status fault.Failed = InputFault
read_status fault.NoMemory = NoMemory
