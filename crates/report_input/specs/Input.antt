-- What a report over confs of several files reads.
use Rattle.std.specs.Prelude.{◌≡◌, ◌⊎◌, ℕ, ◌+◌, ◌<◌, ◌≤◌, List, [], ◌++◌, length, codes, Some, None, Result, Err}
use Rattle.std.specs.List.{flat_map}
use Rattle.std.specs.Io.KnownBytes.{IsAtEnd}
use Rattle.pktline_core.specs.LinkState.{LinkState}
use Rattle.script_frames.specs.Frames.{AreBodies, BeginsNoFrame, frame_text, largest_body}
use Rattle.script_frames.specs.ReadingFrames.{FailsAfter, IsRest, Takes, TakesFrame}
use Rattle.script_frames.specs.declared.frames.FrameFault.{FrameFault}
use Rattle.script_frames.specs.declared.frames.FrameFault.TheVariants as frame
use Rattle.report_input.specs.Confs.{no_files, with_body, with_bodies}
use Rattle.report_input.specs.declared.confs.Confs.{Confs}
use Rattle.report_input.specs.declared.input.InputFault.{InputFault}
use Rattle.report_input.specs.declared.input.InputFault.TheVariants as fault

-- the words of its frames, and the space behind each
abbrev pub ask_word : List ℕ
ask_word = codes "ask "

abbrev pub file_word : List ℕ
file_word = codes "file "

-- the frames of files
abbrev pub files_text : List (List ℕ) → List ℕ
files_text bodies = flat_map (frame_text file_word) bodies

-- An input: a frame with questions, and a frame for each file.
abbrev pub input_text : List ℕ → List (List ℕ) → List ℕ
input_text ask bodies = frame_text ask_word ask ++ files_text bodies

-- the bodies of frames that give these files
pub record Give (bodies : List (List ℕ)) (confs : Confs) : Type 0 where
  pub small : AreBodies bodies
  pub gives : with_bodies no_files bodies ≡ Some confs

-- a frame stands at the front whose body gives no file
pub record BeginsWithout (confs : Confs) (rest : List ℕ) : Type 0 where
  pub body : List ℕ
  pub more : List ℕ
  pub small : length body ≤ largest_body
  pub split : rest ≡ frame_text file_word body ++ more
  pub none : with_body confs body ≡ None

-- something stands here that is no frame of a file, or the frame of none
abbrev pub IsNoFile : Confs → List ℕ → Type 0
IsNoFile confs rest = ((0 < length rest) × BeginsNoFrame file_word rest) ⊎ BeginsWithout confs rest

-- What follows the good frames of an input that isn't that: no frame of questions, or, behind questions and
-- files, something that isn't the frame of a file.
pub data GoesWrong (rest : List ℕ) : List ℕ → Type 0 where
  no_questions : BeginsNoFrame ask_word rest → GoesWrong rest []
  no_file : (ask : List ℕ) (bodies : List (List ℕ)) (confs : Confs) → length ask ≤ largest_body → Give bodies confs → IsNoFile confs rest → GoesWrong rest (input_text ask bodies)

-- An input that isn't that is bad where its good frames end.
pub record IsBadAt (input : List ℕ) (offset : ℕ) : Type 0 where
  pub frames : List ℕ
  pub rest : List ℕ
  pub split : input ≡ frames ++ rest
  pub place : offset ≡ length frames
  pub wrong : GoesWrong rest frames

-- ---- what was read

-- the whole input
pub record ReadsInput (source source' : LinkState) (ask : List ℕ) (confs : Confs) : Type 0 where
  pub bodies : List (List ℕ)
  pub small : length ask ≤ largest_body
  pub files : Give bodies confs
  pub takes : Takes source source' (input_text ask bodies)
  pub ended : IsAtEnd source'.left

-- a part by which the input is bad, whatever follows; where the source doesn't tell what is left, the input
-- is taken to end here
pub record FindsBad (source source' : LinkState) (offset : ℕ) : Type 0 where
  pub part : List ℕ
  pub takes : Takes source source' part
  pub bad : (rest : List ℕ) → IsRest source'.left rest → IsBadAt (part ++ rest) offset

-- a part, before a read failed
pub record FailsInput (source source' : LinkState) : Type 0 where
  pub part : List ℕ
  pub fails : FailsAfter source source' part

-- a part, before memory ran out
pub record LacksInput (source source' : LinkState) : Type 0 where
  pub part : List ℕ
  pub takes : Takes source source' part

abbrev pub StopsInput : LinkState → LinkState → InputFault → Type 0
StopsInput source source' (fault.Bad offset) = FindsBad source source' offset
StopsInput source source' fault.Failed = FailsInput source source'
StopsInput source source' fault.NoMemory = LacksInput source source'

-- no failed read is hidden
abbrev pub TellsInput : {V : Type 0} → LinkState → LinkState → Result V InputFault → Type 0
TellsInput old new (Err fault.Failed) = Unit {0}
TellsInput old new answer = new.read_faults ≡ old.read_faults

-- ---- frame by frame

-- how a fault of a frame at this offset is told
abbrev pub input_fault : FrameFault → ℕ → InputFault
input_fault frame.Bad offset = fault.Bad offset
input_fault frame.ReadFault offset = fault.Failed
input_fault frame.NoMemory offset = fault.NoMemory

-- a part by which no frame of questions stands here, whatever follows
pub record FindsNoAsk (source source' : LinkState) : Type 0 where
  pub part : List ℕ
  pub takes : Takes source source' part
  pub none : (rest : List ℕ) → IsRest source'.left rest → BeginsNoFrame ask_word (part ++ rest)

-- why no questions are read
abbrev pub StopsAtAsk : LinkState → LinkState → InputFault → Type 0
StopsAtAsk source source' (fault.Bad at) = (at ≡ 0) × FindsNoAsk source source'
StopsAtAsk source source' fault.Failed = FailsInput source source'
StopsAtAsk source source' fault.NoMemory = LacksInput source source'

-- the frame of a file
pub record AddsFile (confs confs' : Confs) (source source' : LinkState) (taken : ℕ) : Type 0 where
  pub body : List ℕ
  pub frame : TakesFrame file_word source source' taken body
  pub gives : with_body confs body ≡ Some confs'

-- a part by which no file stands here, whatever follows
pub record FindsNoFile (confs : Confs) (source source' : LinkState) : Type 0 where
  pub part : List ℕ
  pub takes : Takes source source' part
  pub none : (rest : List ℕ) → IsRest source'.left rest → IsNoFile confs (part ++ rest)

-- why no further file is read
abbrev pub StopsAtFile : Confs → LinkState → LinkState → ℕ → InputFault → Type 0
StopsAtFile confs source source' offset (fault.Bad at) = (at ≡ offset) × FindsNoFile confs source source'
StopsAtFile confs source source' offset fault.Failed = FailsInput source source'
StopsAtFile confs source source' offset fault.NoMemory = LacksInput source source'

-- the files of all frames, up to the end of the input
pub record TakesFiles (source source' : LinkState) (confs : Confs) : Type 0 where
  pub bodies : List (List ℕ)
  pub files : Give bodies confs
  pub takes : Takes source source' (files_text bodies)
  pub ended : IsAtEnd source'.left

-- some files, behind which none stands
pub record FindsOther (source source' : LinkState) (offset at : ℕ) : Type 0 where
  pub bodies : List (List ℕ)
  pub confs : Confs
  pub part : List ℕ
  pub files : Give bodies confs
  pub takes : Takes source source' (files_text bodies ++ part)
  pub place : at ≡ offset + length (files_text bodies)
  pub none : (rest : List ℕ) → IsRest source'.left rest → IsNoFile confs (part ++ rest)

abbrev pub StopsInFiles : LinkState → LinkState → ℕ → InputFault → Type 0
StopsInFiles source source' offset (fault.Bad at) = FindsOther source source' offset at
StopsInFiles source source' offset fault.Failed = FailsInput source source'
StopsInFiles source source' offset fault.NoMemory = LacksInput source source'
