-- A disk over memory, seen as its calls.
use Rattle.record_file.specs.MemoryDisks.{MemoryState}
use Rattle.record_file.specs.declared.memory_disk.MemoryDisk.{MemoryDisk}

abbrev pub memory_of : MemoryDisk → MemoryState
memory_of m = record { history = m.history; failing = m.failing.items; disk_faults = m.disk_faults }
