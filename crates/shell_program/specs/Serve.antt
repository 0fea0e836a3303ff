-- What `serve` and `http` do at a new hub, and how they end.
use Rattle.std.specs.Prelude.{◌≡◌, ◌⊎◌, ℕ, ◌<◌, List, [], ◌++◌, length, Bool, true, false, codes, decimal, slice_index_or}
use Rattle.std.specs.Io.KnownBytes.{Appends}
use Rattle.base_types.specs.Counts.{HasRisen}
use Rattle.pktline_core.specs.LinkState.{LinkState}
use Rattle.edge_links.specs.Door.{DoorState}
use Rattle.hub_history.specs.declared.entry.Entry.{Entry}
use Rattle.ref_store.specs.Refs.{Name}
use Rattle.hub.specs.Hub.{HubView}
use Rattle.session_core.specs.Protocol.{Meaning}
use Rattle.session_workers.specs.declared.post.Post.{Post}
use Rattle.session_workers.specs.ServesAll.{ServesAll}
use Rattle.shell_program.specs.RunningScripts.{MayLackAfter, WritesPart}
use Rattle.shell_program.specs.declared.script.ScriptFault.{ScriptFault}
use Rattle.shell_program.specs.declared.script.ScriptFault.TheVariants as fault
use Rattle.shell_program.specs.declared.status.Status.{Status}
use Rattle.shell_program.specs.declared.status.Status.TheVariants.{Done, OutputFault, NoMemory, DoorFault}

-- the line that is printed behind so many sessions and entries
unfoldable pub served_line : ℕ → ℕ → List ℕ
served_line sessions events = codes "served " ++ decimal sessions ++ codes " sessions, " ++ decimal events ++ codes " events\n"

-- the hub of this admin before any session
abbrev pub new_hub : Name → HubView
new_hub admin = record { admin = admin; log = [] }

module _ {L D G P E : Type 0} (served : Meaning E) (state : L → LinkState) (door : D → DoorState L) (admin : Name) (each : ℕ) (old new : List (Post D G HubView P)) (sink sink' : LinkState) (log : List Entry) where
  -- All posts were served so at a new hub, which has this log afterwards.
  abbrev pub ServesPosts : ℕ → Bool → Bool → Type 0
  ServesPosts sessions failed lacked = ServesAll (λ (protocol : P). served) state door false (new_hub admin) (record { admin = admin; log = log }) old new each sessions failed lacked

  -- so it was, and the line was printed
  abbrev pub PrintsServed : ℕ → Bool → Bool → Type 0
  PrintsServed sessions failed lacked = ServesPosts sessions failed lacked × Appends sink.written sink'.written (served_line sessions (length log))

  -- so it was, and a part of the line was printed
  pub record PrintsPart : Type 0 where
    pub sessions : ℕ
    pub failed : Bool
    pub lacked : Bool
    pub serves : ServesPosts sessions failed lacked
    pub part : WritesPart sink sink' (served_line sessions (length log))

  -- there was no memory for a hub that is shared: no door was asked, and nothing printed
  pub record ServesNone : Type 0 where
    pub unasked : (k : ℕ) (d : Post D G HubView P) → (slice_index_or new k d).door ≡ (slice_index_or old k d).door
    pub unprinted : sink' ≡ sink
    pub no_log : log ≡ []

  -- What holds where `serve` ended with this status; it ends with no other. A door's failure comes before
  -- want of memory in a session.
  abbrev pub EndsServe : Status → Type 0
  EndsServe Done = (sessions : ℕ) × PrintsServed sessions false false
  EndsServe DoorFault = (sessions : ℕ) × (lacked : Bool) × PrintsServed sessions true lacked
  EndsServe OutputFault = PrintsPart × HasRisen sink.write_faults sink'.write_faults
  EndsServe NoMemory = ServesNone ⊎ ((sessions : ℕ) × PrintsServed sessions false true) ⊎ ((printed : PrintsPart) × MayLackAfter sink printed.part.bytes)
  EndsServe other = ⊥

-- Why the line was not printed whole. Where memory lacked, nothing of it was printed, or the sink is one that
-- may lack memory.
abbrev pub StopsPrinting : LinkState → LinkState → List ℕ → ScriptFault → Type 0
StopsPrinting sink sink' text fault.OutputFault = WritesPart sink sink' text × HasRisen sink.write_faults sink'.write_faults
StopsPrinting sink sink' text fault.NoMemory = (part : WritesPart sink sink' text) × MayLackAfter sink part.bytes
StopsPrinting sink sink' text other = ⊥

-- A door failed in between: its count rose.
abbrev pub ADoorFailed : {L D G H P : Type 0} → (D → DoorState L) → List (Post D G H P) → List (Post D G H P) → Type 0
ADoorFailed {L} {D} {G} {H} {P} door old new =
    (k : ℕ) × (k < length old) × ((d : Post D G H P) → HasRisen (door (slice_index_or old k d).door).faults (door (slice_index_or new k d).door).faults)
