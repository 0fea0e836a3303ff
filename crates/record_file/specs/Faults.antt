-- The texts of faults of opening.
use Rattle.std.specs.Prelude.{ℕ, List, ◌++◌, codes}
use Rattle.std.specs.Fmt.{decimal}
use Rattle.record_file.specs.declared.open_fault.OpenFault.{OpenFault}
use Rattle.record_file.specs.declared.open_fault.OpenFault.TheVariants.{NotARecordFile, NameDiffers, BadRecord, DiskFault, NoMemory}

abbrev pub fault_text : OpenFault → List ℕ
fault_text NotARecordFile = codes "not a record file"
fault_text NameDiffers = codes "name differs"
fault_text (BadRecord offset) = codes "bad record at " ++ decimal offset
fault_text DiskFault = codes "disk failed"
fault_text NoMemory = codes "out of memory"
