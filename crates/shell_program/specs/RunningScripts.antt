-- What running a script does.
use Rattle.std.specs.Prelude.{◌≡◌, ◌⊎◌, ⊤, ℕ, ◌<◌, Option, List, [], ◌∷◌, ◌++◌, length, Bool, true, false, IsTrue, is_some, Result, Err}
use Rattle.std.specs.List.{flat_map}
use Rattle.std.specs.Io.KnownBytes.{Appends, IsAtEnd}
use Rattle.base_types.specs.Counts.{HasRisen}
use Rattle.pktline_core.specs.LinkState.{LinkState}
use Rattle.hub_history.specs.declared.entry.Entry.{Entry}
use Rattle.ref_store.specs.Refs.{Name}
use Rattle.hub.specs.Desk.{DeskView}
use Rattle.interaction_tree.specs.Traces.{Begins, FallsShort}
use Rattle.interaction_tree.specs.Endings.{IsInput}
use Rattle.session_core.specs.Recorded.{AsRecorded}
use Rattle.script_frames.specs.Frames.{AreBodies}
use Rattle.script_frames.specs.ReadingFrames.{Takes, IsRest}
use Rattle.shell_program.specs.SessionFrames.{frame_text, BeginsNoFrame, IsScript, TakesFrame, TakesNoFrame, IsInBody, GoesNoFurther, WantsMore, FailsInFrame, LacksInFrame}
use Rattle.shell_program.specs.Script.{stop_word, reply_text, fault_text, served_alone, sessions, bad_offset, script}
use Rattle.shell_program.specs.declared.script.ScriptFault.{ScriptFault}
use Rattle.shell_program.specs.declared.script.ScriptFault.TheVariants.{BadScript, InputFault, OutputFault, DiskFault, NoMemory}
use Rattle.shell_program.specs.declared.status.Status.{Status}
use Rattle.shell_program.specs.declared.status.Status.TheVariants as status

-- One session was served, and this is printed of it: what the session gives at a hub that answers as the log
-- afterwards records.
pub record Serves (old new : DeskView) (number : ℕ) (body text : List ℕ) : Type 0 where
  pub printed : AsRecorded old.admin new.seen (λ recorded. text ≡ reply_text number (stop_word (served_alone recorded old.admin body old.seen).stop) (served_alone recorded old.admin body old.seen).bytes)
  pub seen : AsRecorded old.admin new.seen (λ recorded. new.seen ≡ (served_alone recorded old.admin body old.seen).log)
  pub admin : new.admin ≡ old.admin
  pub alone : IsTrue new.alone

-- Frames with these bodies were read, and their sessions served and printed, of which the first has this
-- number, where the hub answers as the log afterwards records.
pub record Advances (source source' sink sink' : LinkState) (old new : DeskView) (number : ℕ) (bodies : List (List ℕ)) : Type 0 where
  pub small : AreBodies bodies
  pub takes : Takes source source' (flat_map frame_text bodies)
  pub written : AsRecorded old.admin new.seen (λ recorded. Appends sink.written sink'.written (sessions recorded old.admin number bodies old.seen).output)
  pub seen : AsRecorded old.admin new.seen (λ recorded. new.seen ≡ (sessions recorded old.admin number bodies old.seen).log)
  pub admin : new.admin ≡ old.admin
  pub alone : IsTrue new.alone

-- the next session, whose frame takes so many bytes
pub record AdvancesOne (source source' sink sink' : LinkState) (old new : DeskView) (number taken : ℕ) : Type 0 where
  pub body : List ℕ
  pub advances : Advances source source' sink sink' old new number (body ∷ [])
  pub counted : taken ≡ length (frame_text body)

-- the input was at its end, and nothing was done
pub record FindsEnd (source source' sink sink' : LinkState) (old new : DeskView) : Type 0 where
  pub takes : Takes source source' []
  pub ended : IsAtEnd source'.left
  pub sink_is : sink' ≡ sink
  pub desk_is : new ≡ old

-- a frame is bad, which was printed
pub record FindsBad (source source' sink sink' : LinkState) (old new : DeskView) (offset : ℕ) : Type 0 where
  pub read : TakesNoFrame source source'
  pub written : Appends sink.written sink'.written (fault_text offset)
  pub desk_is : new ≡ old

-- a beginning of a text was written, and not all of it
pub record WritesPart (sink sink' : LinkState) (text : List ℕ) : Type 0 where
  pub bytes : List ℕ
  pub short : FallsShort bytes text
  pub written : Appends sink.written sink'.written bytes

-- where memory lacked, none of a text was written, or its sink is one that may lack memory
abbrev pub MayLackAfter : LinkState → List ℕ → Type 0
MayLackAfter sink bytes = (bytes ≡ []) ⊎ IsTrue sink.may_lack

-- why a text was not written
abbrev pub StopsWriting : LinkState → LinkState → List ℕ → ScriptFault → Type 0
StopsWriting sink sink' text BadScript = ⊥
StopsWriting sink sink' text InputFault = ⊥
StopsWriting sink sink' text OutputFault = WritesPart sink sink' text × HasRisen sink.write_faults sink'.write_faults
StopsWriting sink sink' text DiskFault = ⊥
StopsWriting sink sink' text NoMemory = WritesPart sink sink' text × IsTrue sink.may_lack

-- a read failed before the next frame or inside it, and nothing else was done
pub record FailsAtRead (source source' sink sink' : LinkState) (old new : DeskView) : Type 0 where
  pub read : FailsInFrame source source'
  pub sink_is : sink' ≡ sink
  pub desk_is : new ≡ old

-- memory lacked for the next frame's body, and nothing else was done
pub record LacksAtRead (source source' sink sink' : LinkState) (old new : DeskView) : Type 0 where
  pub read : LacksInFrame source source'
  pub sink_is : sink' ≡ sink
  pub desk_is : new ≡ old

-- Memory lacked in a session, or where its reply was put together: of the entries that are due of it a
-- beginning was made.
pub record LacksSession (old new : DeskView) (body : List ℕ) : Type 0 where
  pub goes_on : Begins old.seen new.seen
  pub within : AsRecorded old.admin new.seen (λ recorded. Begins new.seen (served_alone recorded old.admin body old.seen).log)

-- why nothing is printed of a session: memory lacked; or it was served, and the desk broke
abbrev pub StopsSession : DeskView → DeskView → ℕ → List ℕ → ScriptFault → Type 0
StopsSession old new number body NoMemory = LacksSession old new body
StopsSession old new number body DiskFault = (text : List ℕ) × Serves old new number body text
StopsSession old new number body other = ⊥

-- the next frame was read, and memory lacked in its session, of which nothing was printed
pub record LacksServing (source source' sink sink' : LinkState) (old new : DeskView) : Type 0 where
  pub taken : ℕ
  pub body : List ℕ
  pub read : TakesFrame source source' taken body
  pub lacks : LacksSession old new body
  pub sink_is : sink' ≡ sink

-- the next session was served, and a part of what is printed of it was written
pub record ServesPart (source source' sink sink' : LinkState) (old new : DeskView) (number : ℕ) : Type 0 where
  pub taken : ℕ
  pub body : List ℕ
  pub text : List ℕ
  pub read : TakesFrame source source' taken body
  pub serves : Serves old new number body text
  pub part : WritesPart sink sink' text

-- a frame is bad, of which a part was printed
pub record TellsPart (source source' sink sink' : LinkState) (old new : DeskView) (offset : ℕ) : Type 0 where
  pub read : TakesNoFrame source source'
  pub part : WritesPart sink sink' (fault_text offset)
  pub desk_is : new ≡ old

-- the next session was served, in which the desk broke, and nothing was printed of it
pub record ServesUnkept (source source' sink sink' : LinkState) (old new : DeskView) (number : ℕ) : Type 0 where
  pub taken : ℕ
  pub body : List ℕ
  pub text : List ℕ
  pub read : TakesFrame source source' taken body
  pub serves : Serves old new number body text
  pub sink_is : sink' ≡ sink

-- why there is no next session: a bad frame, or a fault with its cause
abbrev pub StopsAdvancing : LinkState → LinkState → LinkState → LinkState → DeskView → DeskView → ℕ → ℕ → ScriptFault → Type 0
StopsAdvancing source source' sink sink' old new number offset BadScript = FindsBad source source' sink sink' old new offset
StopsAdvancing source source' sink sink' old new number offset InputFault = FailsAtRead source source' sink sink' old new
StopsAdvancing source source' sink sink' old new number offset OutputFault =
    (ServesPart source source' sink sink' old new number ⊎ TellsPart source source' sink sink' old new offset) × HasRisen sink.write_faults sink'.write_faults
StopsAdvancing source source' sink sink' old new number offset DiskFault = ServesUnkept source source' sink sink' old new number
StopsAdvancing source source' sink sink' old new number offset NoMemory =
    LacksAtRead source source' sink sink' old new
    ⊎ LacksServing source source' sink sink' old new
    ⊎ ((serves : ServesPart source source' sink sink' old new number) × MayLackAfter sink serves.part.bytes)
    ⊎ ((tells : TellsPart source source' sink sink' old new offset) × MayLackAfter sink tells.part.bytes)

-- Of what follows the frames this part was read: all of it, where the source doesn't tell what is left.
abbrev pub IsReadOf : Option (List ℕ) → List ℕ → List ℕ → Type 0
IsReadOf left part rest = (more : List ℕ) × IsRest left more × (rest ≡ part ++ more)

-- A script was run to its end, or to a bad frame: the input is a script, and what was printed, and the log
-- from one to another, are that script's at a hub that answers as the log afterwards records. Of what follows
-- the frames a part was read; where the script is bad, a byte at least, and none behind one at which it no
-- longer ends inside a frame.
pub record RunsScript (source source' sink sink' : LinkState) (admin : Name) (log log' : List Entry) (bad : Bool) : Type 0 where
  pub input : List ℕ
  pub bodies : List (List ℕ)
  pub rest : List ℕ
  pub part : List ℕ
  pub told : IsInput source.left input
  pub is_script : IsScript input bodies rest
  pub bad_is : is_some (bad_offset bodies rest) ≡ bad
  pub follows : IsReadOf source'.left part rest
  pub some : IsTrue bad → 0 < length part
  pub no_further : IsTrue bad → GoesNoFurther part
  pub takes : Takes source source' (flat_map frame_text bodies ++ part)
  pub written : AsRecorded admin log' (λ recorded. Appends sink.written sink'.written (script recorded admin bodies rest log).output)
  pub log_is : AsRecorded admin log' (λ recorded. log' ≡ (script recorded admin bodies rest log).log)

-- A read failed before a frame or inside it: the sessions of all frames that were read whole were served and
-- printed.
pub record StopsAtRead (source source' sink sink' : LinkState) (admin : Name) (log log' : List Entry) : Type 0 where
  pub bodies : List (List ℕ)
  pub part : List ℕ
  pub small : AreBodies bodies
  pub none : BeginsNoFrame part
  pub wants : WantsMore part
  pub takes : Takes source source' (flat_map frame_text bodies ++ part)
  pub written : AsRecorded admin log' (λ recorded. Appends sink.written sink'.written (sessions recorded admin 1 bodies log).output)
  pub log_is : AsRecorded admin log' (λ recorded. log' ≡ (sessions recorded admin 1 bodies log).log)
  pub risen : HasRisen source.read_faults source'.read_faults

-- The session of the next frame was served, and what was printed, which is what is printed of these and then
-- so much more, falls short of what is printed of these and of that one.
pub record StopsServing (source source' : LinkState) (admin : Name) (log log' : List Entry) (done : List (List ℕ)) (more : List ℕ) : Type 0 where
  pub body : List ℕ
  pub small : AreBodies (done ++ body ∷ [])
  pub takes : Takes source source' (flat_map frame_text (done ++ body ∷ []))
  pub short : AsRecorded admin log' (λ recorded. FallsShort ((sessions recorded admin 1 done log).output ++ more) (sessions recorded admin 1 (done ++ body ∷ []) log).output)
  pub log_is : AsRecorded admin log' (λ recorded. log' ≡ (sessions recorded admin 1 (done ++ body ∷ []) log).log)

-- no frame follows, and what was printed, so much more than of these, falls short of what is printed of these
-- and of the bad frame
pub record StopsTelling (source source' : LinkState) (admin : Name) (log log' : List Entry) (done : List (List ℕ)) (more : List ℕ) : Type 0 where
  pub rest : List ℕ
  pub part : List ℕ
  pub told : IsInput source.left (flat_map frame_text done ++ rest)
  pub small : AreBodies done
  pub none : BeginsNoFrame rest
  pub follows : IsReadOf source'.left part rest
  pub some : 0 < length part
  pub no_further : GoesNoFurther part
  pub takes : Takes source source' (flat_map frame_text done ++ part)
  pub short : AsRecorded admin log' (λ recorded. FallsShort ((sessions recorded admin 1 done log).output ++ more) (script recorded admin done rest log).output)
  pub log_is : AsRecorded admin log' (λ recorded. log' ≡ (sessions recorded admin 1 done log).log)

-- A write failed. The sessions of these frames were served and printed whole; then the next session was
-- served, or a frame was found to be bad, and a beginning of what is printed of that, not all of it.
pub record StopsAtWrite (source source' sink sink' : LinkState) (admin : Name) (log log' : List Entry) : Type 0 where
  pub done : List (List ℕ)
  pub more : List ℕ
  pub written : AsRecorded admin log' (λ recorded. Appends sink.written sink'.written ((sessions recorded admin 1 done log).output ++ more))
  pub stops : StopsServing source source' admin log log' done more ⊎ StopsTelling source source' admin log log' done more
  pub risen : HasRisen sink.write_faults sink'.write_faults

-- memory lacked before the next frame or for its body, and nothing more was printed than of these
pub record StopsReading (source source' : LinkState) (admin : Name) (log log' : List Entry) (done : List (List ℕ)) (more : List ℕ) : Type 0 where
  pub part : List ℕ
  pub small : AreBodies done
  pub none : BeginsNoFrame part
  pub inside : (part ≡ []) ⊎ IsInBody part
  pub takes : Takes source source' (flat_map frame_text done ++ part)
  pub nothing : more ≡ []
  pub log_is : AsRecorded admin log' (λ recorded. log' ≡ (sessions recorded admin 1 done log).log)

-- memory lacked in the session of the next frame: nothing more was printed than of these, and of that
-- session's entries a beginning was made
pub record StopsInSession (source source' : LinkState) (admin : Name) (log log' : List Entry) (done : List (List ℕ)) (more : List ℕ) : Type 0 where
  pub body : List ℕ
  pub small : AreBodies (done ++ body ∷ [])
  pub takes : Takes source source' (flat_map frame_text (done ++ body ∷ []))
  pub nothing : more ≡ []
  pub goes_on : AsRecorded admin log' (λ recorded. Begins (sessions recorded admin 1 done log).log log')
  pub within : AsRecorded admin log' (λ recorded. Begins log' (sessions recorded admin 1 (done ++ body ∷ []) log).log)

-- Memory lacked. The sessions of these frames were served and printed whole; then it lacked before the next
-- frame or inside it, or in its session, and nothing more was printed; or that session was served, or a frame
-- was found to be bad, and a beginning of what is printed of that, not all of it.
pub record StopsForMemory (source source' sink sink' : LinkState) (admin : Name) (log log' : List Entry) : Type 0 where
  pub done : List (List ℕ)
  pub more : List ℕ
  pub written : AsRecorded admin log' (λ recorded. Appends sink.written sink'.written ((sessions recorded admin 1 done log).output ++ more))
  pub may_lack : MayLackAfter sink more
  pub stops :
      StopsReading source source' admin log log' done more
      ⊎ StopsInSession source source' admin log log' done more
      ⊎ StopsServing source source' admin log log' done more
      ⊎ StopsTelling source source' admin log log' done more

-- The desk broke. The sessions of these frames were served and printed whole; then the next session was
-- served, in which it broke, and nothing was printed of it.
pub record StopsAtDisk (source source' sink sink' : LinkState) (admin : Name) (log log' : List Entry) : Type 0 where
  pub done : List (List ℕ)
  pub body : List ℕ
  pub small : AreBodies (done ++ body ∷ [])
  pub takes : Takes source source' (flat_map frame_text (done ++ body ∷ []))
  pub written : AsRecorded admin log' (λ recorded. Appends sink.written sink'.written (sessions recorded admin 1 done log).output)
  pub log_is : AsRecorded admin log' (λ recorded. log' ≡ (sessions recorded admin 1 (done ++ body ∷ []) log).log)

-- why a script ended before its input did
abbrev pub StopsScript : LinkState → LinkState → LinkState → LinkState → Name → List Entry → List Entry → ScriptFault → Type 0
StopsScript source source' sink sink' admin log log' BadScript = RunsScript source source' sink sink' admin log log' true
StopsScript source source' sink sink' admin log log' InputFault = StopsAtRead source source' sink sink' admin log log'
StopsScript source source' sink sink' admin log log' OutputFault = StopsAtWrite source source' sink sink' admin log log'
StopsScript source source' sink sink' admin log log' DiskFault = StopsAtDisk source source' sink sink' admin log log'
StopsScript source source' sink sink' admin log log' NoMemory = StopsForMemory source source' sink sink' admin log log'

-- What holds where a script behind this log ended with this status, at a desk that can't break; it ends with
-- no other. Memory may run out before anything is read.
abbrev pub EndsScript : Name → List Entry → LinkState → LinkState → LinkState → LinkState → List Entry → Status → Type 0
EndsScript admin before source source' sink sink' log status.Done = RunsScript source source' sink sink' admin before log false
EndsScript admin before source source' sink sink' log status.BadScript = RunsScript source source' sink sink' admin before log true
EndsScript admin before source source' sink sink' log status.InputFault = StopsAtRead source source' sink sink' admin before log
EndsScript admin before source source' sink sink' log status.OutputFault = StopsAtWrite source source' sink sink' admin before log
EndsScript admin before source source' sink sink' log status.NoMemory = StopsForMemory source source' sink sink' admin before log
EndsScript admin before source source' sink sink' log other = ⊥

-- no failed read of the input is hidden, and no failed write of the output
abbrev pub TellsInput : {V : Type 0} → LinkState → LinkState → Result V ScriptFault → Type 0
TellsInput old new (Err InputFault) = ⊤
TellsInput old new answer = new.read_faults ≡ old.read_faults

abbrev pub TellsOutput : {V : Type 0} → LinkState → LinkState → Result V ScriptFault → Type 0
TellsOutput old new (Err OutputFault) = ⊤
TellsOutput old new answer = new.write_faults ≡ old.write_faults

-- whether the desk is broken, by how a script went on: it is where that ended it, and where memory lacked it
-- may be
abbrev pub TellsBroken : {V : Type 0} → Bool → Result V ScriptFault → Type 0
TellsBroken broken (Err DiskFault) = IsTrue broken
TellsBroken broken (Err NoMemory) = ⊤
TellsBroken broken answer = broken ≡ false
