-- The texts of faults of a script.
use Rattle.std.specs.Prelude.{ℕ, List, codes}
use Rattle.shell_program.specs.declared.script.ScriptFault.{ScriptFault}
use Rattle.shell_program.specs.declared.script.ScriptFault.TheVariants.{BadScript, InputFault, OutputFault, DiskFault, NoMemory}

abbrev pub script_fault_text : ScriptFault → List ℕ
script_fault_text BadScript = codes "bad script"
script_fault_text InputFault = codes "read failed"
script_fault_text OutputFault = codes "write failed"
script_fault_text DiskFault = codes "disk failed"
script_fault_text NoMemory = codes "out of memory"
