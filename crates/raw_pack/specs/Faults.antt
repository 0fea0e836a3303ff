-- The texts of faults of a pack.
use Rattle.std.specs.Prelude.{ℕ, List, ◌++◌, codes}
use Rattle.std.specs.Fmt.{decimal}
use Rattle.raw_pack.specs.declared.fault.PackFault.{PackFault}
use Rattle.raw_pack.specs.declared.fault.PackFault.TheVariants.{NotAPack, Version, Delta, BadHead, BadObject, Truncated, TrailerDiffers, TooLarge, TooMany, ReadFault, NoMemory}

abbrev pub fault_text : PackFault → List ℕ
fault_text NotAPack = codes "not a pack"
fault_text (Version number) = codes "version " ++ decimal number
fault_text (Delta entry) = codes "delta at entry " ++ decimal entry
fault_text (BadHead entry) = codes "bad head at entry " ++ decimal entry
fault_text (BadObject entry) = codes "bad object at entry " ++ decimal entry
fault_text (Truncated entry) = codes "truncated at entry " ++ decimal entry
fault_text (TrailerDiffers read computed) = codes "trailer differs"
fault_text (TooLarge entry) = codes "too large at entry " ++ decimal entry
fault_text (TooMany count) = codes "too many entries"
fault_text ReadFault = codes "read failed"
fault_text NoMemory = codes "out of memory"
