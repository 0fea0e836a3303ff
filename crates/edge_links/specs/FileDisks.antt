-- What a file of the system is to contracts: its length and its failed calls. Of its bytes it tells nothing.
use Rattle.std.specs.Prelude.{ℕ, []}
use Rattle.record_file.specs.Crashes.{settled}
use Rattle.record_file.specs.Disks.{DiskState}

-- a file of so many bytes whose calls have failed so often; the rest says nothing, since the disk isn't
-- modeled
abbrev pub untold_state : ℕ → ℕ → DiskState
untold_state size faults = record { size = size; disk_faults = faults; file = record { content = []; pending = settled []; past = [] } }
