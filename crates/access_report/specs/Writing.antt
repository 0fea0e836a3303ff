-- How a text is written whose last part waits.
use Rattle.std.specs.Prelude.{◌≡◌, ⊤, ℕ, ◌<◌, List, ◌++◌, length, codes, Result, Err}
use Rattle.std.specs.Io.KnownBytes.{Appends}
use Rattle.base_types.specs.Counts.{HasRisen}
use Rattle.pktline_core.specs.LinkState.{LinkState}
use Rattle.access_report.specs.declared.report.ReportFault.{ReportFault}
use Rattle.access_report.specs.declared.report.ReportFault.TheVariants.{WriteFault, NoMemory}

-- the text of a fault
abbrev pub fault_text : ReportFault → List ℕ
fault_text WriteFault = codes "write failed"
fault_text NoMemory = codes "out of memory"

-- What waited and a text were written up to what waits now.
pub record HandsOn (old new : LinkState) (waiting waiting' text : List ℕ) : Type 0 where
  pub bytes : List ℕ
  pub written : Appends old.written new.written bytes
  pub split : waiting ++ text ≡ bytes ++ waiting'

-- a failed write is counted; memory may run out anywhere
abbrev pub HasFailed : LinkState → LinkState → ReportFault → Type 0
HasFailed old new WriteFault = HasRisen old.write_faults new.write_faults
HasFailed old new NoMemory = ⊤

-- A beginning of a text was written, and not all of it.
pub record StopsInside (old new : LinkState) (text : List ℕ) (fault : ReportFault) : Type 0 where
  pub bytes : List ℕ
  pub rest : List ℕ
  pub written : Appends old.written new.written bytes
  pub split : text ≡ bytes ++ rest
  pub short : 0 < length rest
  pub failed : HasFailed old new fault

-- No failed write is hidden.
abbrev pub TellsWrites : {V : Type 0} → LinkState → LinkState → Result V ReportFault → Type 0
TellsWrites old new (Err WriteFault) = ⊤
TellsWrites old new answer = new.write_faults ≡ old.write_faults
