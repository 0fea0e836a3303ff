-- The frames of a script, each of which begins with `session` and has what one session reads.
use Rattle.std.specs.Prelude.{ℕ, List, codes}
use Rattle.pktline_core.specs.LinkState.{LinkState}
use Rattle.script_frames.specs.Frames as frames
use Rattle.script_frames.specs.ReadingFrames as reading

-- the word, and the space behind it
abbrev pub session_word : List ℕ
session_word = codes "session "

abbrev pub frame_text : List ℕ → List ℕ
frame_text = frames.frame_text session_word

abbrev pub BeginsNoFrame : List ℕ → Type 0
BeginsNoFrame = frames.BeginsNoFrame session_word

abbrev pub IsScript : List ℕ → List (List ℕ) → List ℕ → Type 0
IsScript = frames.IsScript session_word

abbrev pub TakesFrame : LinkState → LinkState → ℕ → List ℕ → Type 0
TakesFrame = reading.TakesFrame session_word

abbrev pub IsInBody : List ℕ → Type 0
IsInBody = reading.IsInBody session_word

abbrev pub WantsMore : List ℕ → Type 0
WantsMore = reading.WantsMore session_word

abbrev pub GoesNoFurther : List ℕ → Type 0
GoesNoFurther = reading.GoesNoFurther session_word

abbrev pub TakesNoFrame : LinkState → LinkState → Type 0
TakesNoFrame = reading.TakesNoFrame session_word

abbrev pub FailsInFrame : LinkState → LinkState → Type 0
FailsInFrame = reading.FailsInFrame session_word

abbrev pub LacksInFrame : LinkState → LinkState → Type 0
LacksInFrame = reading.LacksInFrame session_word
