-- What calls on a link do.
use Rattle.std.specs.Prelude.{◌≡◌, ⊤, ℕ, ◌+◌, ◌≤◌, ◌<◌, List, [], ◌++◌, length, take, IsTrue, Result, Ok, Err}
use Rattle.std.specs.Io.KnownBytes.{Consumes, Appends, Keeps, IsAtEnd}
use Rattle.base_types.specs.Counts.{HasRisen}
use Rattle.pktline_core.specs.LinkState.{LinkState}
use Rattle.pktline_core.specs.declared.links.Taken.{Taken}
use Rattle.pktline_core.specs.declared.links.Taken.TheVariants as taken
use Rattle.pktline_core.specs.declared.links.Put.{Put}
use Rattle.pktline_core.specs.declared.links.Put.TheVariants as put
use Rattle.pktline_core.specs.declared.links.TakeFault.{TakeFault}
use Rattle.pktline_core.specs.declared.links.TakeFault.TheVariants as fault
use Rattle.pktline_core.specs.declared.links.WriteFault.{WriteFault}
use Rattle.pktline_core.specs.declared.links.WriteFault.TheVariants as write

-- `Got(n)` put the next n bytes into the front of the room, one at least; `End` comes only where none is
-- left; `Failed` comes only where the link may fail and its count rose, and took nothing.
abbrev pub Takes : LinkState → LinkState → List ℕ → Taken → Type 0
Takes old new room (taken.Got n) = (1 ≤ n) × (n ≤ length room) × Consumes old.left new.left (take n room) × (new.given ≡ old.given + n)
Takes old new room taken.End = IsAtEnd new.left × Keeps old.left new.left × (new.given ≡ old.given)
Takes old new room taken.Failed = HasRisen old.read_faults new.read_faults × IsTrue old.may_fail × Keeps old.left new.left × (new.given ≡ old.given)

-- `Took(n)` appended the first n bytes of the piece, one at least; `Failed` comes only where the link may
-- fail and its count rose, `NoMemory` only where it may lack memory, and both appended nothing.
abbrev pub Puts : LinkState → LinkState → List ℕ → Put → Type 0
Puts old new piece (put.Took n) = (1 ≤ n) × (n ≤ length piece) × Appends old.written new.written (take n piece)
Puts old new piece put.Failed = HasRisen old.write_faults new.write_faults × IsTrue old.may_fail × Keeps old.written new.written
Puts old new piece put.NoMemory = IsTrue old.may_lack × Keeps old.written new.written

-- No failure is hidden: with every other answer the count of failed reads, or of failed writes, is as it was.
abbrev pub TellsTake : LinkState → LinkState → Taken → Type 0
TellsTake old new taken.Failed = ⊤
TellsTake old new answer = new.read_faults ≡ old.read_faults

abbrev pub TellsPut : LinkState → LinkState → Put → Type 0
TellsPut old new put.Failed = ⊤
TellsPut old new answer = new.write_faults ≡ old.write_faults

-- What holds between a link and itself after any calls: no count falls; what it may do, whether it goes on
-- telling, and what it holds back are as they were.
pub record IsLater (old new : LinkState) : Type 0 where
  pub given : old.given ≤ new.given
  pub read_faults : old.read_faults ≤ new.read_faults
  pub write_faults : old.write_faults ≤ new.write_faults
  pub may_lack : new.may_lack ≡ old.may_lack
  pub may_fail : new.may_fail ≡ old.may_fail
  pub tells : new.tells ≡ old.tells
  pub limits : new.limits ≡ old.limits

-- The reading direction is as it was.
pub record KeepsReading (old new : LinkState) : Type 0 where
  pub left : new.left ≡ old.left
  pub given : new.given ≡ old.given
  pub read_faults : new.read_faults ≡ old.read_faults

-- The writing direction is as it was.
pub record KeepsWriting (old new : LinkState) : Type 0 where
  pub written : new.written ≡ old.written
  pub write_faults : new.write_faults ≡ old.write_faults

-- where the filling of so much room ended, after n bytes
abbrev pub EndsTaking : LinkState → LinkState → ℕ → ℕ → Result (Unit {0}) TakeFault → Type 0
EndsTaking old new n room (Ok unit) = n ≡ room
EndsTaking old new n room (Err fault.Ended) = (n < room) × IsAtEnd new.left
EndsTaking old new n room (Err fault.Failed) = (n < room) × HasRisen old.read_faults new.read_faults × IsTrue old.may_fail

-- The first n bytes of the room are the next ones: all of it, or fewer and the fault that stopped it.
pub record TakesAll (old new : LinkState) (room : List ℕ) (result : Result (Unit {0}) TakeFault) : Type 0 where
  pub n : ℕ
  pub within : n ≤ length room
  pub consumed : Consumes old.left new.left (take n room)
  pub counted : new.given ≡ old.given + n
  pub ended : EndsTaking old new n (length room) result

-- No failure is hidden, by several calls of `take`.
abbrev pub TellsReading : LinkState → LinkState → Result (Unit {0}) TakeFault → Type 0
TellsReading old new (Err fault.Failed) = ⊤
TellsReading old new answer = new.read_faults ≡ old.read_faults

-- On Ok nothing was left out. A fault has its cause, and comes before the last byte was written.
abbrev pub EndsWriting : LinkState → LinkState → List ℕ → Result (Unit {0}) WriteFault → Type 0
EndsWriting old new rest (Ok unit) = rest ≡ []
EndsWriting old new rest (Err write.Failed) = (0 < length rest) × HasRisen old.write_faults new.write_faults × IsTrue old.may_fail
EndsWriting old new rest (Err write.NoMemory) = (0 < length rest) × IsTrue old.may_lack

-- These bytes were appended, or a beginning of them.
pub record Writes (old new : LinkState) (bytes : List ℕ) (result : Result (Unit {0}) WriteFault) : Type 0 where
  pub done : List ℕ
  pub rest : List ℕ
  pub split : bytes ≡ done ++ rest
  pub appended : Appends old.written new.written done
  pub ended : EndsWriting old new rest result

-- No failure is hidden, by several calls of `put`.
abbrev pub TellsWriting : LinkState → LinkState → Result (Unit {0}) WriteFault → Type 0
TellsWriting old new (Err write.Failed) = ⊤
TellsWriting old new answer = new.write_faults ≡ old.write_faults
