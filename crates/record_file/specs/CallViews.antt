-- The calls that a disk over memory keeps, seen as what they did.
use Rattle.std.specs.Prelude.{ℕ, ◌+◌, ◌≤◌, ◌<◌, ◌^◌, List, map, take, drop}
use Rattle.record_file.specs.MemoryDisks.{Change, Nothing, Write, Cut, Sync}
use Rattle.record_file.specs.declared.history.Call.{Call}
use Rattle.record_file.specs.declared.history.Call.TheVariants as call

-- what a call did; its bytes are among all written bytes
abbrev pub change_of : List ℕ → Call → Change
change_of written call.Nothing = Nothing
change_of written (call.Write at from count) = Write at (take count (drop from written))
change_of written (call.Cut size) = Cut size
change_of written call.Sync = Sync

abbrev pub changes_of : List ℕ → List Call → List Change
changes_of written calls = map (change_of written) calls

-- The bytes of a write are among the first so many that were written, and end below 2^63.
abbrev pub bytes_end : Call → ℕ
bytes_end (call.Write at from count) = from + count
bytes_end other = 0

abbrev pub file_end : Call → ℕ
file_end (call.Write at from count) = at + count
file_end other = 0

pub record IsKept (written : ℕ) (call : Call) : Type 0 where
  pub bytes : bytes_end call ≤ written
  pub below : file_end call < 2 ^ 63
