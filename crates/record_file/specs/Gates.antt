-- What a gate and the length behind it say.
use Rattle.std.specs.Prelude.{◌≡◌, ◌≢◌, ⊤, ℕ, ◌+◌, ◌<◌, ◌^◌, List, ◌++◌, length, drop, slice_index}
use Rattle.std.specs.Int.{w64, to_be_bytes}
use Rattle.record_file.specs.Records.{IsFramed}
use Rattle.record_file.specs.declared.reading.Gate.{Gate}
use Rattle.record_file.specs.declared.reading.Gate.TheVariants.{Closed, Bad, Record}

-- A gate that isn't zero, and behind it the length of a body that is there, with a byte behind it.
pub record IsOpenGate (rest : List ℕ) (size : ℕ) : Type 0 where
  pub opened : slice_index rest 0 ≢ 0
  pub fits : size < 2 ^ 64
  pub digits : drop 1 rest ≡ to_be_bytes w64 size ++ drop 9 rest
  pub long : 9 + size < length rest

-- A gate that isn't zero, with no whole record and a byte behind it.
pub record IsNoGate (rest : List ℕ) : Type 0 where
  pub opened : slice_index rest 0 ≢ 0
  pub no_record : (body more : List ℕ) → IsFramed (drop 1 rest) body more → ⊥

-- what the front of these bytes says
abbrev pub IsGateOf : List ℕ → Gate → Type 0
IsGateOf rest Closed = slice_index rest 0 ≡ 0
IsGateOf rest Bad = IsNoGate rest
IsGateOf rest (Record size) = IsOpenGate rest size

-- The record is within so many bytes, with a byte behind it.
abbrev pub IsWithin : Gate → ℕ → Type 0
IsWithin (Record size) left = 9 + size < left
IsWithin gate left = ⊤
