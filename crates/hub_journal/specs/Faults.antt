-- The texts of faults of opening a journal.
use Rattle.std.specs.Prelude.{ℕ, List, ◌++◌, codes}
use Rattle.std.specs.Fmt.{decimal}
use Rattle.hub_journal.specs.declared.open_fault.OpenFault.{OpenFault}
use Rattle.hub_journal.specs.declared.open_fault.OpenFault.TheVariants.{NotAJournal, OtherAdmin, BadRecord, DiskFault, NoMemory}

abbrev pub fault_text : OpenFault → List ℕ
fault_text NotAJournal = codes "not a journal"
fault_text OtherAdmin = codes "other admin"
fault_text (BadRecord offset) = codes "bad record at " ++ decimal offset
fault_text DiskFault = codes "disk failed"
fault_text NoMemory = codes "out of memory"
