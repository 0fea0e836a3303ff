-- The texts of faults.
use Rattle.std.specs.Prelude.{ℕ, List, ◌++◌, codes}
use Rattle.std.specs.Fmt.{decimal}
use Rattle.conf_lex.specs.Faults as lex
use Rattle.conf_groups.specs.declared.fault.ConfFault.{ConfFault}
use Rattle.conf_groups.specs.declared.fault.ConfKind.{ConfKind}
use Rattle.conf_groups.specs.declared.fault.ConfKind.TheVariants.{NoFile, Lex, TooLong, SubconfInSubconf, NoMemory}

abbrev pub kind_text : ConfKind → List ℕ
kind_text (NoFile name) = codes "no file " ++ name
kind_text (Lex fault) = lex.fault_text fault
kind_text TooLong = codes "too long"
kind_text SubconfInSubconf = codes "subconf in subconf"
kind_text NoMemory = codes "out of memory"

-- `FILE line N: KIND`
abbrev pub fault_text : ConfFault → List ℕ
fault_text fault = fault.file ++ (codes " line " ++ (decimal fault.line ++ (codes ": " ++ kind_text fault.kind)))
