-- What a stream is to contracts: the bytes of both directions, and the errors that its calls gave.
use Rattle.std.specs.Prelude.{◌≡◌, ◌≢◌, ℕ, Bool, true, false, List, [], ◌∷◌, ◌++◌, Result, Ok, Err}
use Rattle.std.specs.declared.option.Option.{Option}
use Rattle.std.specs.declared.option.Option.TheVariants.{None, Some}
use Rattle.std.specs.Io.KnownBytes.{ReadConsumes, WriteAppends}
use Rattle.std.specs.IoError.{error_kind}
use Rattle.std.specs.declared.io.Error.{Error}
use Rattle.std.specs.declared.io.ErrorKind.{ErrorKind}
use Rattle.std.specs.declared.io.ErrorKind.TheVariants.{Interrupted}

pub record StreamState : Type 0 where
  -- the bytes that are left to be received
  pub left : List ℕ
  -- the bytes that were sent
  pub sent : List ℕ
  -- the kinds of the errors that calls gave, in their order; those of signals are left out
  pub errors : List ErrorKind

-- what a stream that tells nothing is seen as
abbrev pub untold_stream : StreamState
untold_stream = record { left = []; sent = []; errors = [] }

-- bytes that a stream tells, or doesn't
abbrev pub told : Bool → List ℕ → Option (List ℕ)
told true bytes = Some bytes
told false bytes = None

-- An error is listed once; that a signal came isn't.
abbrev pub ListsError : {T : Type 0} → List ErrorKind → List ErrorKind → Result T Error → Type 0
ListsError old new (Ok value) = new ≡ old
ListsError old new (Err error) = (error_kind error ≡ Interrupted → new ≡ old) × (error_kind error ≢ Interrupted → new ≡ old ++ error_kind error ∷ [])

-- What one call of `receive` did: so many bytes of those left were put into the front of the room, none only
-- at the end or where there is no room; an error received nothing.
pub record Receives (old new : StreamState) (room : List ℕ) (result : Result ℕ Error) : Type 0 where
  pub left : ReadConsumes (Some old.left) (Some new.left) result room
  pub sent : new.sent ≡ old.sent
  pub errors : ListsError old.errors new.errors result

-- What one call of `transmit` did: so many bytes of the front of the piece were sent; an error sent nothing.
pub record Transmits (old new : StreamState) (piece : List ℕ) (result : Result ℕ Error) : Type 0 where
  pub left : new.left ≡ old.left
  pub sent : WriteAppends (Some old.sent) (Some new.sent) result piece
  pub errors : ListsError old.errors new.errors result

-- What one call of `flush` did.
pub record Flushes (old new : StreamState) (result : Result (Unit {0}) Error) : Type 0 where
  pub left : new.left ≡ old.left
  pub sent : new.sent ≡ old.sent
  pub errors : ListsError old.errors new.errors result
