-- A file of records that is open.
use Rattle.std.specs.Prelude.{◌≡◌, ℕ, ◌+◌, Bool, false, List, [], length}
use Rattle.record_file.specs.Crashes.{FileState, settled}
use Rattle.record_file.specs.Records.{Holds}

pub record WriterState : Type 0 where
  -- the offset of the zero gate
  pub end : ℕ
  -- whether a call of the disk has failed
  pub broken : Bool

-- The zero gate is the last byte of the disk's file, unless the writer is broken.
abbrev pub EndsAtGate : WriterState → ℕ → Type 0
EndsAtGate writer size = writer.broken ≡ false → size ≡ writer.end + 1

-- The file holds these records, its zero gate is its last byte, and nothing is pending.
pub record IsDurable (head : List ℕ) (bodies : List (List ℕ)) (end : ℕ) (file : FileState) : Type 0 where
  pub holds : Holds head bodies file.content
  pub nothing_free : holds.free ≡ []
  pub ends : length file.content ≡ end + 1
  pub settled : file.pending ≡ settled file.content
