-- The texts of faults of a body.
use Rattle.std.specs.Prelude.{ℕ, List, ◌++◌, codes}
use Rattle.std.specs.Fmt.{decimal}
use Rattle.git_object.specs.declared.fault.ObjFault.{ObjFault}
use Rattle.git_object.specs.declared.fault.ObjFault.TheVariants.{BadCommit, BadTree, BadTag, NoMemory}

abbrev pub fault_text : ObjFault → List ℕ
fault_text (BadCommit at) = codes "bad commit at byte " ++ decimal at
fault_text (BadTree at) = codes "bad tree at byte " ++ decimal at
fault_text (BadTag at) = codes "bad tag at byte " ++ decimal at
fault_text NoMemory = codes "out of memory"
