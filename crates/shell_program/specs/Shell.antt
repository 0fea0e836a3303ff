-- How a run of the program ends that may serve at posts.
use Rattle.std.specs.Prelude.{◌≡◌, ℕ, List, drop, take, Option, Some}
use Rattle.base_types.specs.Counts.{HasRisen}
use Rattle.pktline_core.specs.LinkState.{LinkState}
use Rattle.edge_links.specs.Door.{DoorState}
use Rattle.hub_history.specs.declared.entry.Entry.{Entry}
use Rattle.shell_words.specs.declared.commands.Asked.{Asked}
use Rattle.shell_words.specs.declared.commands.Asked.TheVariants.{Serve}
use Rattle.hub.specs.Hub.{HubView}
use Rattle.session_workers.specs.declared.post.Post.{Post}
use Rattle.shell_program.specs.Keep.{DiskRun}
use Rattle.shell_program.specs.Lone.{AUsedDiskFailed, EndsBy, IsDue}
use Rattle.shell_program.specs.Protocols.{meaning_of, protocol_of}
use Rattle.shell_program.specs.Serve.{ADoorFailed, EndsServe}
use Rattle.shell_program.specs.Status.{status_number}
use Rattle.shell_program.specs.declared.status.Status.{Status}

module _ {L D G P : Type 0} (state : L → LinkState) (door : D → DoorState L) (old new : List (Post D G HubView P)) where
  -- The command decides: `serve` takes its sessions, and `http` its requests, through the first posts, reads
  -- nothing else, and leaves the other posts and the disk as they were. Each other command leaves all posts so,
  -- and ends as with one caller.
  abbrev pub EndsShellBy : Option Asked → DiskRun → LinkState → LinkState → LinkState → LinkState → List Entry → Status → Type 0
  EndsShellBy (Some (Serve transport admin workers each)) disk source source' sink sink' log status =
      EndsServe (meaning_of (protocol_of transport)) state door admin each (take workers old) (take workers new) sink sink' log status × (drop workers new ≡ drop workers old) × (source' ≡ source) × (disk.new ≡ disk.old)
  EndsShellBy other disk source source' sink sink' log status = EndsBy other disk source source' sink sink' log status × (new ≡ old)

  -- A run of this command ended with this number and this log.
  pub record EndsShell (found : Option Asked) (disk : DiskRun) (source source' sink sink' : LinkState) (number : ℕ) (log : List Entry) : Type 0 where
    pub status : Status
    pub number_is : number ≡ status_number status
    pub ends : EndsShellBy found disk source source' sink sink' log status

  -- a door failed at which the command serves
  abbrev pub AUsedDoorFailed : Option Asked → Type 0
  AUsedDoorFailed (Some (Serve transport admin workers each)) = ADoorFailed door (take workers old) (take workers new)
  AUsedDoorFailed other = ⊥

  -- with what the program ends where no fault is counted
  abbrev pub EndsShellSurely : Option Asked → DiskRun → LinkState → LinkState → LinkState → LinkState → ℕ → Type 0
  EndsShellSurely found disk source source' sink sink' number =
      (HasRisen source.read_faults source'.read_faults → ⊥) → (HasRisen sink.write_faults sink'.write_faults → ⊥) → (AUsedDiskFailed found disk → ⊥) → (AUsedDoorFailed found → ⊥)
      → IsDue found number
