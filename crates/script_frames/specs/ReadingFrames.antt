-- What reading a frame takes.
use Rattle.std.specs.Prelude.{◌≡◌, ◌⊎◌, ⊤, ℕ, ◌+◌, ◌≤◌, ◌<◌, ◌^◌, List, [], ◌∷◌, ◌++◌, length, Bool, true, false, IsTrue, decimal, Option, Some, None, Result, Err}
use Rattle.std.specs.Io.KnownBytes.{Consumes, IsAtEnd}
use Rattle.base_types.specs.Counts.{HasRisen}
use Rattle.pktline_core.specs.LinkState.{LinkState}
use Rattle.script_frames.specs.Frames.{head_text, frame_text, largest_body, BeginsNoFrame, HasNoFeed}
use Rattle.script_frames.specs.declared.frames.FrameFault.{FrameFault}
use Rattle.script_frames.specs.declared.frames.FrameFault.TheVariants.{Bad, ReadFault, NoMemory}

-- these bytes were taken
pub record Takes (old new : LinkState) (taken : List ℕ) : Type 0 where
  pub consumed : Consumes old.left new.left taken
  pub counted : new.given ≡ old.given + length taken

-- a read failed after these bytes
pub record FailsAfter (old new : LinkState) (part : List ℕ) : Type 0 where
  pub takes : Takes old new part
  pub risen : HasRisen old.read_faults new.read_faults
  pub may_fail : IsTrue old.may_fail

-- what follows in an input that a source tells to be left; where it doesn't tell, the input is taken to end
-- here
abbrev pub IsRest : Option (List ℕ) → List ℕ → Type 0
IsRest None rest = rest ≡ []
IsRest (Some left) rest = rest ≡ left

-- one byte, or the end
abbrev pub TakesByte : LinkState → LinkState → Option ℕ → Type 0
TakesByte old new (Some byte) = Takes old new (byte ∷ [])
TakesByte old new None = Takes old new [] × IsAtEnd new.left

-- a byte fails to come by a fault of the source alone
abbrev pub StopsAtByte : LinkState → LinkState → FrameFault → Type 0
StopsAtByte old new Bad = ⊥
StopsAtByte old new ReadFault = FailsAfter old new []
StopsAtByte old new NoMemory = ⊥

-- the end, or one byte of what follows
abbrev pub TakesEnd : LinkState → LinkState → Bool → Type 0
TakesEnd old new true = TakesByte old new None
TakesEnd old new false = (byte : ℕ) × TakesByte old new (Some byte)

-- A line of at most as many bytes as a first line has, and its line feed; or the input was at its end.
abbrev pub TakesLine : LinkState → LinkState → Option (List ℕ) → Type 0
TakesLine old new (Some line) = Takes old new (line ++ 10 ∷ []) × HasNoFeed line × (length line ≤ 17)
TakesLine old new None = Takes old new [] × IsAtEnd new.left

-- Bytes without a line feed: one more than the first line of a frame has, or as many at most and all that are
-- left.
pub record TakesNoLine (old new : LinkState) : Type 0 where
  pub part : List ℕ
  pub takes : Takes old new part
  pub no_feed : HasNoFeed part
  pub ended : (length part ≡ 18) ⊎ ((0 < length part) × (length part ≤ 17) × IsAtEnd new.left)

-- a read failed inside a line, of which at most as many bytes were taken as a first line has
pub record FailsInLine (old new : LinkState) : Type 0 where
  pub part : List ℕ
  pub no_feed : HasNoFeed part
  pub short : length part ≤ 17
  pub fails : FailsAfter old new part

abbrev pub StopsInLine : LinkState → LinkState → FrameFault → Type 0
StopsInLine old new Bad = TakesNoLine old new
StopsInLine old new ReadFault = FailsInLine old new
StopsInLine old new NoMemory = ⊥

-- digits of no number below 2 ^ 32
abbrev pub IsNoNumber : List ℕ → Type 0
IsNoNumber digits = (n : ℕ) → n < 2 ^ 32 → digits ≡ decimal n → ⊥

-- the size that a first line gives
pub record IsSizeIn (word line : List ℕ) (size : ℕ) : Type 0 where
  pub head : line ≡ head_text word size
  pub small : size ≤ largest_body

-- a line that begins no frame
abbrev pub HasNoSize : List ℕ → List ℕ → Type 0
HasNoSize word line = (size : ℕ) → IsSizeIn word line size → ⊥

-- a body of so many bytes
pub record TakesBody (old new : LinkState) (size : ℕ) (body : List ℕ) : Type 0 where
  pub takes : Takes old new body
  pub sized : length body ≡ size

-- the input ended inside it
pub record TakesPart (old new : LinkState) (size : ℕ) : Type 0 where
  pub part : List ℕ
  pub takes : Takes old new part
  pub short : length part < size
  pub ended : IsAtEnd new.left

-- a read failed inside it
pub record FailsInBody (old new : LinkState) (size : ℕ) : Type 0 where
  pub part : List ℕ
  pub short : length part < size
  pub fails : FailsAfter old new part

-- memory lacked inside it, or behind its last byte
pub record LacksInBody (old new : LinkState) (size : ℕ) : Type 0 where
  pub part : List ℕ
  pub within : length part ≤ size
  pub takes : Takes old new part

abbrev pub StopsInBody : LinkState → LinkState → ℕ → FrameFault → Type 0
StopsInBody old new size Bad = TakesPart old new size
StopsInBody old new size ReadFault = FailsInBody old new size
StopsInBody old new size NoMemory = LacksInBody old new size

-- The next frame, and no byte behind it; or the input was at its end.
pub record TakesFrame (word : List ℕ) (old new : LinkState) (taken : ℕ) (body : List ℕ) : Type 0 where
  pub takes : Takes old new (frame_text word body)
  pub counted : taken ≡ length (frame_text word body)
  pub small : length body ≤ largest_body

-- this part is a good first line, behind which the body or the last line feed isn't whole
abbrev pub IsInBody : List ℕ → List ℕ → Type 0
IsInBody word part = (size : ℕ) × (body : List ℕ) × (size ≤ largest_body) × (part ≡ head_text word size ++ 10 ∷ body) × (length body ≤ size)

-- More is wanted behind this part, which ends inside a frame: it is a line without its line feed that isn't
-- too long for a first one, perhaps empty and perhaps none of a frame; or it ends behind a good first line.
abbrev pub WantsMore : List ℕ → List ℕ → Type 0
WantsMore word part = (HasNoFeed part × (length part ≤ 17)) ⊎ IsInBody word part

-- more is wanted behind this part, or behind all of it but its last byte
abbrev pub GoesNoFurther : List ℕ → List ℕ → Type 0
GoesNoFurther word part = WantsMore word part ⊎ ((front : List ℕ) × (last : ℕ) × (part ≡ front ++ last ∷ []) × WantsMore word front)

-- What was taken shows that no frame stands here, or the input ended before.
pub record TakesNoFrame (word : List ℕ) (old new : LinkState) : Type 0 where
  pub part : List ℕ
  pub takes : Takes old new part
  pub some : 0 < length part
  pub bad : (rest : List ℕ) → IsRest new.left rest → BeginsNoFrame word (part ++ rest)
  pub no_further : GoesNoFurther word part

-- a read failed before a whole frame was taken, where more is wanted
pub record FailsInFrame (word : List ℕ) (old new : LinkState) : Type 0 where
  pub part : List ℕ
  pub none : BeginsNoFrame word part
  pub wants : WantsMore word part
  pub fails : FailsAfter old new part

-- memory for the body lacked, before a whole frame was taken
pub record LacksInFrame (word : List ℕ) (old new : LinkState) : Type 0 where
  pub part : List ℕ
  pub none : BeginsNoFrame word part
  pub inside : IsInBody word part
  pub takes : Takes old new part

abbrev pub StopsInFrame : List ℕ → LinkState → LinkState → FrameFault → Type 0
StopsInFrame word old new Bad = TakesNoFrame word old new
StopsInFrame word old new ReadFault = FailsInFrame word old new
StopsInFrame word old new NoMemory = LacksInFrame word old new

-- no failed read is hidden
abbrev pub TellsRead : {V : Type 0} → LinkState → LinkState → Result V FrameFault → Type 0
TellsRead old new (Err ReadFault) = ⊤
TellsRead old new answer = new.read_faults ≡ old.read_faults
