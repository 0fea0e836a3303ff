-- What a report over confs of several files prints, and how it ends.
use Rattle.std.specs.Prelude.{◌≡◌, ◌⊎◌, ℕ, ◌<◌, List, ◌++◌, length, codes, decimal, Result, Ok, Err}
use Rattle.std.specs.Io.KnownBytes.{Appends}
use Rattle.base_types.specs.Counts.{HasRisen}
use Rattle.pktline_core.specs.LinkState.{LinkState}
use Rattle.rule_compile.specs.Patterns.{AreTrue, Patterns}
use Rattle.access_report.specs.Access.{Due, access}
use Rattle.access_report.specs.declared.access.Printed.{Printed}
use Rattle.access_report.specs.declared.access.Printed.TheVariants as printed
use Rattle.access_report.specs.declared.report.ReportFault.{ReportFault}
use Rattle.access_report.specs.declared.report.ReportFault.TheVariants as report
use Rattle.report_input.specs.Input.{FailsInput, FindsBad, LacksInput, ReadsInput}
use Rattle.report_input.specs.declared.confs.Confs.{Confs}
use Rattle.report_input.specs.declared.report.ReportEnd.{ReportEnd}
use Rattle.report_input.specs.declared.report.ReportEnd.TheVariants as end

-- the line of a bad input
unfoldable pub fault_text : ℕ → List ℕ
fault_text offset = codes "bad script at " ++ decimal offset ++ codes "\n"

-- what is due of questions and confs
abbrev pub due : Patterns → List ℕ → Confs → Due
due patterns ask confs = access patterns ask confs.first confs.second

-- the number of an end
abbrev pub end_number : ReportEnd → ℕ
end_number end.Done = 0
end_number end.InputFault = 2
end_number end.OutputFault = 3
end_number end.NoMemory = 4
end_number end.ConfRefused = 6
end_number end.BadScript = 7
end_number end.BadQuestion = 10

-- a beginning of a text was written, and not all of it
pub record WritesPart (sink sink' : LinkState) (text : List ℕ) : Type 0 where
  pub bytes : List ℕ
  pub rest : List ℕ
  pub written : Appends sink.written sink'.written bytes
  pub split : text ≡ bytes ++ rest
  pub short : 0 < length rest

-- The input was read whole, and what is due of it was printed.
pub record PrintsDue (source source' sink sink' : LinkState) (what : Printed) : Type 0 where
  pub ask : List ℕ
  pub confs : Confs
  pub reads : ReadsInput source source' ask confs
  pub what_is : (patterns : Patterns) → AreTrue patterns → (due patterns ask confs).what ≡ what
  pub printed : (patterns : Patterns) → AreTrue patterns → Appends sink.written sink'.written (due patterns ask confs).text

-- The input was read whole, and a beginning of what is due of it was printed, not all of it.
pub record PrintsPart (source source' sink sink' : LinkState) : Type 0 where
  pub ask : List ℕ
  pub confs : Confs
  pub reads : ReadsInput source source' ask confs
  pub part : (patterns : Patterns) → AreTrue patterns → WritesPart sink sink' (due patterns ask confs).text

-- The input is bad at an offset, which was printed.
pub record PrintsBad (source source' sink sink' : LinkState) : Type 0 where
  pub offset : ℕ
  pub finds : FindsBad source source' offset
  pub printed : Appends sink.written sink'.written (fault_text offset)

-- a beginning of that was printed, not all of it
pub record PrintsBadPart (source source' sink sink' : LinkState) : Type 0 where
  pub offset : ℕ
  pub finds : FindsBad source source' offset
  pub part : WritesPart sink sink' (fault_text offset)

-- What holds with each end. Where a read failed nothing was printed; where memory ran out that is so, or a
-- beginning was printed of what is due.
abbrev pub EndsReport : LinkState → LinkState → LinkState → LinkState → ReportEnd → Type 0
EndsReport source source' sink sink' end.Done = PrintsDue source source' sink sink' printed.Report
EndsReport source source' sink sink' end.BadQuestion = PrintsDue source source' sink sink' printed.BadQuestion
EndsReport source source' sink sink' end.ConfRefused = PrintsDue source source' sink sink' printed.ConfFault
EndsReport source source' sink sink' end.BadScript = PrintsBad source source' sink sink'
EndsReport source source' sink sink' end.InputFault = FailsInput source source' × (sink' ≡ sink)
EndsReport source source' sink sink' end.OutputFault = (PrintsPart source source' sink sink' ⊎ PrintsBadPart source source' sink sink') × HasRisen sink.write_faults sink'.write_faults
EndsReport source source' sink sink' end.NoMemory = (LacksInput source source' × (sink' ≡ sink)) ⊎ PrintsPart source source' sink sink' ⊎ PrintsBadPart source source' sink sink'

-- with another end no read failed, and no write
abbrev pub TellsEnd : LinkState → LinkState → LinkState → LinkState → ReportEnd → Type 0
TellsEnd source source' sink sink' why = ((why ≡ end.InputFault) ⊎ (source'.read_faults ≡ source.read_faults)) × ((why ≡ end.OutputFault) ⊎ (sink'.write_faults ≡ sink.write_faults))

abbrev pub TellsOutput : LinkState → LinkState → ReportEnd → Type 0
TellsOutput sink sink' why = (why ≡ end.OutputFault) ⊎ (sink'.write_faults ≡ sink.write_faults)

abbrev pub report_end : Result Printed ReportFault → ReportEnd
report_end (Ok printed.Report) = end.Done
report_end (Ok printed.BadQuestion) = end.BadQuestion
report_end (Ok printed.ConfFault) = end.ConfRefused
report_end (Err report.WriteFault) = end.OutputFault
report_end (Err report.NoMemory) = end.NoMemory

-- how the place of a bad frame was told
abbrev pub TellsBad : LinkState → LinkState → ℕ → ReportEnd → Type 0
TellsBad sink sink' offset end.BadScript = Appends sink.written sink'.written (fault_text offset)
TellsBad sink sink' offset end.OutputFault = WritesPart sink sink' (fault_text offset) × HasRisen sink.write_faults sink'.write_faults
TellsBad sink sink' offset end.NoMemory = WritesPart sink sink' (fault_text offset)
TellsBad sink sink' offset other = ⊥
