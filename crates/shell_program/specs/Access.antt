-- What a run of `access` does.
use Rattle.std.specs.Prelude.{◌≡◌, ◌⊎◌, ℕ, ◌+◌, ◌<◌, ◌≤◌, List, [], ◌∷◌, ◌++◌, length, codes, Option, Some, None, Result, Ok, Err}
use Rattle.std.specs.Option.{option_map}
use Rattle.std.specs.Io.KnownBytes.{Appends, IsAtEnd}
use Rattle.base_types.specs.Counts.{HasRisen}
use Rattle.pktline_core.specs.LinkState.{LinkState}
use Rattle.rule_compile.specs.Patterns.{AreTrue, Patterns}
use Rattle.conf_check.specs.Report.{only_file}
use Rattle.script_frames.specs.Frames.{AreBodies, BeginsNoFrame, frame_text, largest_body}
use Rattle.script_frames.specs.ReadingFrames.{FailsAfter, IsRest, Takes}
use Rattle.script_frames.specs.declared.frames.FrameFault.{FrameFault}
use Rattle.script_frames.specs.declared.frames.FrameFault.TheVariants as frame
use Rattle.access_report.specs.Access.{Due, access}
use Rattle.access_report.specs.declared.access.Printed.{Printed}
use Rattle.access_report.specs.declared.access.Printed.TheVariants as printed
use Rattle.access_report.specs.declared.report.ReportFault.{ReportFault}
use Rattle.access_report.specs.declared.report.ReportFault.TheVariants as report
use Rattle.shell_program.specs.RunningScripts.{WritesPart}
use Rattle.shell_program.specs.Script.{fault_text}
use Rattle.shell_program.specs.declared.access.InputFault.{InputFault}
use Rattle.shell_program.specs.declared.access.InputFault.TheVariants as fault
use Rattle.shell_program.specs.declared.status.Status.{Status}
use Rattle.shell_program.specs.declared.status.Status.TheVariants as status

-- ---- the input

-- the words of its frames, and the space behind each
abbrev pub ask_word : List ℕ
ask_word = codes "ask "

abbrev pub conf_word : List ℕ
conf_word = codes "conf "

-- the frame of a second conf, where there is one
abbrev pub other_text : Option (List ℕ) → List ℕ
other_text None = []
other_text (Some conf) = frame_text conf_word conf

abbrev pub bodies_of : Option (List ℕ) → List (List ℕ)
bodies_of None = []
bodies_of (Some conf) = conf ∷ []

-- An input: a frame with questions, and one with a conf, or two.
abbrev pub input_text : List ℕ → List ℕ → Option (List ℕ) → List ℕ
input_text ask conf other = frame_text ask_word ask ++ (frame_text conf_word conf ++ other_text other)

abbrev pub AreSmall : List ℕ → List ℕ → Option (List ℕ) → Type 0
AreSmall ask conf other = AreBodies (ask ∷ conf ∷ bodies_of other)

-- What follows the good frames of an input that isn't that: no frame of questions; behind questions no frame
-- of a conf; behind a conf something that is none; or something behind a second conf.
pub data GoesWrong (rest : List ℕ) : List ℕ → Type 0 where
  no_questions : BeginsNoFrame ask_word rest → GoesWrong rest []
  no_conf : (ask : List ℕ) → AreBodies (ask ∷ []) → BeginsNoFrame conf_word rest → GoesWrong rest (frame_text ask_word ask)
  no_other : (ask conf : List ℕ) → AreSmall ask conf None → 0 < length rest → BeginsNoFrame conf_word rest → GoesWrong rest (frame_text ask_word ask ++ frame_text conf_word conf)
  no_end : (ask conf other : List ℕ) → AreSmall ask conf (Some other) → 0 < length rest → GoesWrong rest (input_text ask conf (Some other))

-- An input that isn't that is bad where its good frames end.
pub record IsBadAt (input : List ℕ) (offset : ℕ) : Type 0 where
  pub frames : List ℕ
  pub rest : List ℕ
  pub split : input ≡ frames ++ rest
  pub place : offset ≡ length frames
  pub wrong : GoesWrong rest frames

-- ---- what was read

-- the whole input
pub record ReadsInput (source source' : LinkState) (ask conf : List ℕ) (other : Option (List ℕ)) : Type 0 where
  pub small : AreSmall ask conf other
  pub takes : Takes source source' (input_text ask conf other)
  pub ended : IsAtEnd source'.left

-- a part by which the input is bad, whatever follows; where the source doesn't tell what is left, the input
-- is taken to end here
pub record FindsBad (source source' : LinkState) (offset : ℕ) : Type 0 where
  pub part : List ℕ
  pub takes : Takes source source' part
  pub bad : (rest : List ℕ) → IsRest source'.left rest → IsBadAt (part ++ rest) offset

-- a part, before a read failed
pub record FailsInput (source source' : LinkState) : Type 0 where
  pub part : List ℕ
  pub fails : FailsAfter source source' part

-- a part, before memory ran out
pub record LacksInput (source source' : LinkState) : Type 0 where
  pub part : List ℕ
  pub takes : Takes source source' part

abbrev pub StopsInput : LinkState → LinkState → InputFault → Type 0
StopsInput source source' (fault.Bad offset) = FindsBad source source' offset
StopsInput source source' fault.Failed = FailsInput source source'
StopsInput source source' fault.NoMemory = LacksInput source source'

-- ---- what is printed

-- each conf has one file
abbrev pub due : Patterns → List ℕ → List ℕ → Option (List ℕ) → Due
due patterns ask conf other = access patterns ask (only_file conf) (option_map only_file other)

-- The input was read whole, and what is due of it was printed.
pub record PrintsAccess (source source' sink sink' : LinkState) (what : Printed) : Type 0 where
  pub ask : List ℕ
  pub conf : List ℕ
  pub other : Option (List ℕ)
  pub reads : ReadsInput source source' ask conf other
  pub what_is : (patterns : Patterns) → AreTrue patterns → (due patterns ask conf other).what ≡ what
  pub printed : (patterns : Patterns) → AreTrue patterns → Appends sink.written sink'.written (due patterns ask conf other).text

-- The input was read whole, and a beginning of what is due of it was printed, not all of it.
pub record PrintsPart (source source' sink sink' : LinkState) : Type 0 where
  pub ask : List ℕ
  pub conf : List ℕ
  pub other : Option (List ℕ)
  pub reads : ReadsInput source source' ask conf other
  pub part : (patterns : Patterns) → AreTrue patterns → WritesPart sink sink' (due patterns ask conf other).text

-- The input is bad at an offset, which was printed.
pub record PrintsBad (source source' sink sink' : LinkState) : Type 0 where
  pub offset : ℕ
  pub finds : FindsBad source source' offset
  pub printed : Appends sink.written sink'.written (fault_text offset)

-- a beginning of that was printed, not all of it
pub record PrintsBadPart (source source' sink sink' : LinkState) : Type 0 where
  pub offset : ℕ
  pub finds : FindsBad source source' offset
  pub part : WritesPart sink sink' (fault_text offset)

-- ---- the end

-- What holds where `access` ended with this status; it ends with no other. Where a read failed nothing was
-- printed; where memory ran out that is so, or a beginning was printed of what is due.
abbrev pub EndsAccess : LinkState → LinkState → LinkState → LinkState → Status → Type 0
EndsAccess source source' sink sink' status.Done = PrintsAccess source source' sink sink' printed.Report
EndsAccess source source' sink sink' status.BadQuestion = PrintsAccess source source' sink sink' printed.BadQuestion
EndsAccess source source' sink sink' status.ConfRefused = PrintsAccess source source' sink sink' printed.ConfFault
EndsAccess source source' sink sink' status.BadScript = PrintsBad source source' sink sink'
EndsAccess source source' sink sink' status.InputFault = FailsInput source source' × (sink' ≡ sink)
EndsAccess source source' sink sink' status.OutputFault = (PrintsPart source source' sink sink' ⊎ PrintsBadPart source source' sink sink') × HasRisen sink.write_faults sink'.write_faults
EndsAccess source source' sink sink' status.NoMemory = (LacksInput source source' × (sink' ≡ sink)) ⊎ PrintsPart source source' sink sink' ⊎ PrintsBadPart source source' sink sink'
EndsAccess source source' sink sink' other = ⊥

-- no failed read is hidden
abbrev pub TellsInput : {V : Type 0} → LinkState → LinkState → Result V InputFault → Type 0
TellsInput old new (Err fault.Failed) = Unit {0}
TellsInput old new answer = new.read_faults ≡ old.read_faults

-- ---- frame by frame

-- how a fault of a frame at this offset is told
abbrev pub input_fault : FrameFault → ℕ → InputFault
input_fault frame.Bad offset = fault.Bad offset
input_fault frame.ReadFault offset = fault.Failed
input_fault frame.NoMemory offset = fault.NoMemory

-- a part by which no frame of the word stands here, whatever follows
pub record FindsNoFrame (word : List ℕ) (source source' : LinkState) : Type 0 where
  pub part : List ℕ
  pub takes : Takes source source' part
  pub none : (rest : List ℕ) → IsRest source'.left rest → BeginsNoFrame word (part ++ rest)

-- why a frame that is wanted isn't read
abbrev pub StopsAtFrame : List ℕ → LinkState → LinkState → ℕ → InputFault → Type 0
StopsAtFrame word source source' offset (fault.Bad at) = (at ≡ offset) × FindsNoFrame word source source'
StopsAtFrame word source source' offset fault.Failed = FailsInput source source'
StopsAtFrame word source source' offset fault.NoMemory = LacksInput source source'

-- why the end isn't found: a byte stands here
abbrev pub StopsAtEnd : LinkState → LinkState → ℕ → InputFault → Type 0
StopsAtEnd source source' offset (fault.Bad at) = (at ≡ offset) × ((byte : ℕ) × Takes source source' (byte ∷ []))
StopsAtEnd source source' offset fault.Failed = FailsInput source source'
StopsAtEnd source source' offset fault.NoMemory = ⊥

-- the second conf, and the end of the input
pub record TakesLast (source source' : LinkState) (conf : List ℕ) : Type 0 where
  pub small : length conf ≤ largest_body
  pub takes : Takes source source' (frame_text conf_word conf)
  pub ended : IsAtEnd source'.left

-- something stands here that is no frame
pub record FindsOther (source source' : LinkState) : Type 0 where
  pub found : FindsNoFrame conf_word source source'
  pub some : 0 < length found.part

-- a second conf stands here, and something behind it, which begins at the offset
pub record FindsMore (source source' : LinkState) (offset at : ℕ) : Type 0 where
  pub conf : List ℕ
  pub byte : ℕ
  pub small : length conf ≤ largest_body
  pub takes : Takes source source' (frame_text conf_word conf ++ byte ∷ [])
  pub place : at ≡ offset + length (frame_text conf_word conf)

-- why the second conf, or the end, isn't found
abbrev pub StopsAtOther : LinkState → LinkState → ℕ → InputFault → Type 0
StopsAtOther source source' offset (fault.Bad at) = ((at ≡ offset) × FindsOther source source') ⊎ FindsMore source source' offset at
StopsAtOther source source' offset fault.Failed = FailsInput source source'
StopsAtOther source source' offset fault.NoMemory = LacksInput source source'

-- ---- what was printed

abbrev pub access_status : Result Printed ReportFault → Status
access_status (Ok printed.Report) = status.Done
access_status (Ok printed.BadQuestion) = status.BadQuestion
access_status (Ok printed.ConfFault) = status.ConfRefused
access_status (Err report.WriteFault) = status.OutputFault
access_status (Err report.NoMemory) = status.NoMemory

-- how the place of a bad frame was told
abbrev pub TellsBad : LinkState → LinkState → ℕ → Status → Type 0
TellsBad sink sink' offset status.BadScript = Appends sink.written sink'.written (fault_text offset)
TellsBad sink sink' offset status.OutputFault = WritesPart sink sink' (fault_text offset) × HasRisen sink.write_faults sink'.write_faults
TellsBad sink sink' offset status.NoMemory = WritesPart sink sink' (fault_text offset)
TellsBad sink sink' offset other = ⊥
