-- Laws of the definitions.
use Rattle.std.specs.Prelude.{ℕ, ◌≤◌, List, ◌++◌, length}
use Rattle.std.specs.List.{AllByRecursion}
use Rattle.hub_history.specs.declared.entry.Entry.{Entry}
use Rattle.ref_store.specs.Refs.{Name}
use Rattle.hub.specs.Desk.{IsOfAnother}
use Rattle.session_core.specs.Protocol.{Meaning}
use Rattle.session_workers.specs.Served.{Served, ServedLink}

-- what a caller has served isn't changed by entries of others that are appended
abbrev pub ServedStays : {E : Type 0} → Meaning E → Type 0
ServedStays {E} protocol =
    (admin : Name) (caller start : ℕ) (log more : List Entry) (links : List (ServedLink E))
    → start ≤ length log → AllByRecursion (IsOfAnother caller) more → Served protocol admin caller start log links → Served protocol admin caller start (log ++ more) links
