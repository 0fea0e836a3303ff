-- The numbers with which the program ends.
use Rattle.std.specs.Prelude.{ℕ, Bool, true, false, Result, Ok, Err}
use Rattle.shell_program.specs.declared.script.ScriptFault.{ScriptFault}
use Rattle.shell_program.specs.declared.script.ScriptFault.TheVariants as fault
use Rattle.shell_program.specs.declared.status.Status.{Status}
use Rattle.shell_program.specs.declared.status.Status.TheVariants.{Done, Usage, InputFault, OutputFault, NoMemory, DoorFault, ConfRefused, BadScript, DiskFault, BadJournal, BadQuestion}

-- the number with which the program ends
abbrev pub status_number : Status → ℕ
status_number Done = 0
status_number Usage = 1
status_number InputFault = 2
status_number OutputFault = 3
status_number NoMemory = 4
status_number DoorFault = 5
status_number ConfRefused = 6
status_number BadScript = 7
status_number DiskFault = 8
status_number BadJournal = 9
status_number BadQuestion = 10

-- how a script's end is told
abbrev pub status_of : Result (Unit {0}) ScriptFault → Status
status_of (Ok unit) = Done
status_of (Err fault.BadScript) = BadScript
status_of (Err fault.InputFault) = InputFault
status_of (Err fault.OutputFault) = OutputFault
status_of (Err fault.DiskFault) = DiskFault
status_of (Err fault.NoMemory) = NoMemory

-- how the end of `serve` is told: a door's failure comes before want of memory in a session
abbrev pub served_status : Result (Unit {0}) ScriptFault → Bool → Bool → Status
served_status (Err why) failed lacked = status_of (Err why)
served_status (Ok unit) true lacked = DoorFault
served_status (Ok unit) false true = NoMemory
served_status (Ok unit) false false = Done
