-- A disk over memory, call by call.
use Rattle.std.specs.Prelude.{ℕ, ◌+◌, ◌^◌, ◌==◌, Bool, ◌||◌, if◌then◌else◌, nat_lt, nat_le, List, [], ◌∷◌, ◌++◌, length, take, fold}
use Rattle.std.specs.List.{list_any}
use Rattle.base_types.specs.Counts.{one_more}
use Rattle.record_file.specs.Crashes.{FileState, settled, with_write, with_cut}
use Rattle.record_file.specs.Disks.{DiskState, overwritten}

-- what a call did to the file
pub data Change : Type 0 where
  -- nothing: it read, or it failed
  Nothing : Change
  -- it wrote these bytes at this offset
  Write : ℕ → List ℕ → Change
  -- it cut the file to this length
  Cut : ℕ → Change
  Sync : Change

-- a file of which nothing is pending
abbrev pub new_file : List ℕ → FileState
new_file content = record { content = content; pending = settled content; past = [] }

-- the file after a call
abbrev pub changed : FileState → Change → FileState
changed f Nothing = f
changed f (Write at piece) = record { content = overwritten f.content at piece; pending = with_write f.pending at (length piece); past = f.pending ∷ f.past }
changed f (Cut size) = record { content = take size f.content; pending = with_cut f.pending size; past = f.pending ∷ f.past }
changed f Sync = record { content = f.content; pending = settled f.content; past = f.pending ∷ f.past }

-- the calls of a disk over memory, within its room
pub record HistoryState : Type 0 where
  -- the bytes that it was made with
  pub initial : List ℕ
  -- what each call did, the first one first
  pub changes : List Change
  -- how many bytes were written
  pub written : ℕ
  pub room : ℕ

-- the file after all of these calls
abbrev pub file_after : List ℕ → List Change → FileState
file_after initial changes = fold changed (new_file initial) changes

-- a disk over memory
pub record MemoryState : Type 0 where
  pub history : HistoryState
  -- the numbers of the calls that fail, from 0
  pub failing : List ℕ
  pub disk_faults : ℕ

abbrev pub new_memory : List ℕ → ℕ → List ℕ → MemoryState
new_memory bytes room failing = record { history = record { initial = bytes; changes = []; written = 0; room = room }; failing = failing; disk_faults = 0 }

abbrev pub file_of : MemoryState → FileState
file_of m = file_after m.history.initial m.history.changes

abbrev pub state_of : MemoryState → DiskState
state_of m = record { size = length (file_of m).content; disk_faults = m.disk_faults; file = file_of m }

-- whether the next call fails, whatever it is
abbrev pub refuses : MemoryState → Bool
refuses m = list_any (λ n. n == length m.history.changes) m.failing || nat_le m.history.room (length m.history.changes)

-- whether a write of so many bytes at this offset fails
abbrev pub refuses_write : MemoryState → ℕ → ℕ → Bool
refuses_write m at count = refuses m || (nat_lt m.history.room (m.history.written + count) || nat_le (2 ^ 63) (at + count))

-- the disk after a call that failed; it counts where it is within the room
abbrev pub after_fault : MemoryState → MemoryState
after_fault m = record {
  history = if nat_lt (length m.history.changes) m.history.room then record { initial = m.history.initial; changes = m.history.changes ++ Nothing ∷ []; written = m.history.written; room = m.history.room } else m.history;
  failing = m.failing;
  disk_faults = one_more m.disk_faults;
}

-- the disk after a call that did this, and wrote so many bytes
abbrev pub after_change : MemoryState → Change → ℕ → MemoryState
after_change m change count = record {
  history = record { initial = m.history.initial; changes = m.history.changes ++ change ∷ []; written = m.history.written + count; room = m.history.room };
  failing = m.failing;
  disk_faults = m.disk_faults;
}
