-- The ends of a session, as its interaction sees them.
use Rattle.std.specs.Prelude.{ℕ, ◌≡◌, ◌⊎◌, ⊤, IsTrue, List, ◌++◌, codes, decimal, Result, Ok, Err}
use Rattle.base_types.specs.Counts.{HasRisen}
use Rattle.raw_pack.specs.Faults.{fault_text}
use Rattle.pktline_core.specs.LinkState.{LinkState}
use Rattle.interaction_tree.specs.Traces.{Reading, Writing, Memory, Halt, Ended, Failed}
use Rattle.session_core.specs.declared.end.SessionEnd.{SessionEnd}
use Rattle.session_core.specs.declared.end.SessionEnd.TheVariants.{Served, Denied, NoRepo, BadCommand, BadUser, Malformed, TooLong, Truncated, ReadFault, WriteFault, NoMemory, BadPack, NotOurRef}

-- an end that the interaction gives, or what may stop it anywhere
abbrev pub halt_of : SessionEnd → Halt SessionEnd
halt_of Served = Ended Served
halt_of Denied = Ended Denied
halt_of NoRepo = Ended NoRepo
halt_of BadCommand = Ended BadCommand
halt_of BadUser = Ended BadUser
halt_of (Malformed offset) = Ended (Malformed offset)
halt_of (TooLong count) = Ended (TooLong count)
halt_of Truncated = Ended Truncated
halt_of (BadPack fault) = Ended (BadPack fault)
halt_of (NotOurRef id) = Ended (NotOurRef id)
halt_of ReadFault = Failed Reading
halt_of WriteFault = Failed Writing
halt_of NoMemory = Failed Memory

-- the number by which an end is known to other programs
abbrev pub end_number : SessionEnd → ℕ
end_number Served = 1
end_number Denied = 2
end_number NoRepo = 3
end_number BadCommand = 4
end_number BadUser = 5
end_number (NotOurRef id) = 6
end_number (Malformed offset) = 7
end_number (TooLong count) = 8
end_number Truncated = 9
end_number ReadFault = 10
end_number WriteFault = 11
end_number NoMemory = 12
end_number (BadPack fault) = 13

-- what is said of an end
abbrev pub end_text : SessionEnd → List ℕ
end_text Served = codes "served"
end_text Denied = codes "denied"
end_text NoRepo = codes "no such repository"
end_text BadCommand = codes "bad command"
end_text BadUser = codes "bad user"
end_text (NotOurRef id) = codes "not our ref"
end_text (Malformed offset) = codes "malformed packet at " ++ decimal offset
end_text (TooLong count) = codes "too many packets: " ++ decimal count
end_text Truncated = codes "the input ended"
end_text ReadFault = codes "read failed"
end_text WriteFault = codes "write failed"
end_text NoMemory = codes "out of memory"
end_text (BadPack fault) = codes "bad pack: " ++ fault_text fault

-- ---- whatever the ends of a protocol are: by how its interaction was left

-- what a function answers, as its interaction sees it
abbrev pub outcome_by : {E F A : Type 0} → (E → Halt F) → Result A E → Result A (Halt F)
outcome_by halt (Ok value) = Ok value
outcome_by halt (Err end) = Err (halt end)

-- a fault of the link comes only where its count rose, and the link may fail
abbrev pub HaltHasCause : {E : Type 0} → LinkState → LinkState → Halt E → Type 0
HaltHasCause old new (Failed Reading) = HasRisen old.read_faults new.read_faults × IsTrue old.may_fail
HaltHasCause old new (Failed Writing) = HasRisen old.write_faults new.write_faults × IsTrue old.may_fail
HaltHasCause old new (Failed Memory) = ⊤
HaltHasCause old new (Ended end) = ⊤

-- No failure of the link is hidden: where it wasn't left by a failing direction, no failure of that was
-- counted.
abbrev pub TellsHalt : {E : Type 0} → LinkState → LinkState → Halt E → Type 0
TellsHalt old new (Failed Reading) = new.write_faults ≡ old.write_faults
TellsHalt old new (Failed Writing) = new.read_faults ≡ old.read_faults
TellsHalt old new (Failed Memory) = (new.read_faults ≡ old.read_faults) × (new.write_faults ≡ old.write_faults)
TellsHalt old new (Ended end) = (new.read_faults ≡ old.read_faults) × (new.write_faults ≡ old.write_faults)

-- the same of a function
abbrev pub TellsOutcome : {E A : Type 0} → LinkState → LinkState → Result A (Halt E) → Type 0
TellsOutcome old new (Ok value) = (new.read_faults ≡ old.read_faults) × (new.write_faults ≡ old.write_faults)
TellsOutcome old new (Err halt) = TellsHalt old new halt

-- over a link whose counts didn't rise it was left by an end of its own, or memory lacked
abbrev pub HaltIsSure : {E : Type 0} → LinkState → LinkState → Halt E → Type 0
HaltIsSure {E} old new halt =
    (HasRisen old.read_faults new.read_faults → ⊥) → (HasRisen old.write_faults new.write_faults → ⊥) → ((end : E) × (halt ≡ Ended end)) ⊎ (halt ≡ Failed Memory)

-- ---- of a session

-- what a function of a session answers, as its interaction sees it
abbrev pub outcome_of : {A : Type 0} → Result A SessionEnd → Result A (Halt SessionEnd)
outcome_of result = outcome_by halt_of result

-- the same with the offset up to which the session has read
abbrev pub outcome_at : {A : Type 0} → Result A SessionEnd → ℕ → Result (A × ℕ) (Halt SessionEnd)
outcome_at (Ok value) offset = Ok (value, offset)
outcome_at (Err end) offset = Err (halt_of end)

-- its faults have their cause
abbrev pub HasCause : LinkState → LinkState → SessionEnd → Type 0
HasCause old new end = HaltHasCause old new (halt_of end)

-- none is hidden
abbrev pub TellsEnd : LinkState → LinkState → SessionEnd → Type 0
TellsEnd old new end = TellsHalt old new (halt_of end)

-- the same of a function of a session
abbrev pub TellsLink : {A : Type 0} → LinkState → LinkState → Result A SessionEnd → Type 0
TellsLink old new result = TellsOutcome old new (outcome_of result)

-- over a link whose counts didn't rise the end is the interaction's, or memory lacked
abbrev pub IsSure : LinkState → LinkState → SessionEnd → Type 0
IsSure old new end =
    (HasRisen old.read_faults new.read_faults → ⊥) → (HasRisen old.write_faults new.write_faults → ⊥) → (halt_of end ≡ Ended end) ⊎ (end ≡ NoMemory)
