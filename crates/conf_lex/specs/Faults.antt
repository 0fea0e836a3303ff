-- The texts of faults.
use Rattle.std.specs.Prelude.{ℕ, List, ◌++◌, codes}
use Rattle.std.specs.Fmt.{decimal}
use Rattle.conf_lex.specs.declared.fault.LexFault.{LexFault}
use Rattle.conf_lex.specs.declared.fault.LexFault.TheVariants.{NotAStatement, BadPermission, BadWord, NoMemory}

abbrev pub fault_text : LexFault → List ℕ
fault_text NotAStatement = codes "not a statement"
fault_text BadPermission = codes "bad permission"
fault_text (BadWord at) = codes "bad word at " ++ decimal at
fault_text NoMemory = codes "out of memory"
