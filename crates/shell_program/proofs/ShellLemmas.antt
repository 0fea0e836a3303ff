-- How a run ends that may serve at posts.
use Rattle.std.proofs.Common.{◌≡◌, ◌≤◌, ◌<◌, ◌⊎◌, ℕ, zero, suc, nat_le, Bool, true, false, Option, List, [], ◌++◌, length, take, drop, refl, sym, ◌∙◌, subst, inl, inr, arith}
use Rattle.std.specs.Prelude.{Some, None, Err, if◌then◌else◌, option_and_then}
use Rattle.std.proofs.lemmas.Bool.Decides.{nat_tests}
use Rattle.std.proofs.Math.Seq.{take-append_seam, drop-append_seam}
use Rattle.base_types.specs.Counts.{HasRisen}
use Rattle.pktline_core.specs.LinkState.{LinkState}
use Rattle.edge_links.specs.Door.{DoorState}
use Rattle.hub_history.specs.declared.entry.Entry.{Entry}
use Rattle.ref_store.specs.Refs.{Name}
use Rattle.shell_words.specs.declared.commands.WordsFault.{WordsFault}
use Rattle.shell_words.specs.declared.commands.WordsFault.TheVariants as words
use Rattle.shell_words.specs.Commands.{Reads}
use Rattle.shell_words.specs.declared.commands.Transport.{Transport}
use Rattle.shell_words.specs.declared.commands.Asked.{Asked}
use Rattle.shell_words.specs.declared.commands.Asked.TheVariants.{Script, Serve, Check, Load, Keep, Access}
use Rattle.hub.specs.Hub.{HubView}
use Rattle.session_workers.specs.declared.post.Post.{Post}
use Rattle.shell_program.specs.Command.{built, served_at}
use Rattle.record_file.specs.Disks.{DiskState}
use Rattle.shell_program.specs.Keep.{DiskRun}
use Rattle.shell_program.specs.Lone.{EndsRun, EndsUnread, EndsUsage, IsDue}
use Rattle.shell_program.specs.Protocols.{meaning_of, protocol_of}
use Rattle.shell_program.specs.Serve.{ADoorFailed, EndsServe, ServesNone}
use Rattle.shell_program.specs.Shell.{EndsShell, EndsShellBy, EndsShellSurely}
use Rattle.shell_program.specs.Status.{status_number}
use Rattle.shell_program.specs.declared.status.Status.{Status}
use Rattle.shell_program.specs.declared.status.Status.TheVariants.{Done, Usage, InputFault, OutputFault, NoMemory, DoorFault, ConfRefused, BadScript, DiskFault, BadJournal, BadQuestion}
use Rattle.shell_program.proofs.LoneLemmas.{nothing_done, refused_run, surely, unused}

-- `serve` where there are posts enough, and where there are not
pub served_there : (posts : ℕ) (transport : Transport) (admin : Name) (workers each : ℕ) → 1 ≤ workers → workers ≤ posts → served_at posts transport admin workers each ≡ Some (Serve transport admin workers each)
served_there zero transport admin workers each some enough = absurd (omega (arith, some, enough))
served_there (suc posts) transport admin workers each some enough = go (nat_le workers (suc posts)) refl where
  go : (b : Bool) → nat_le workers (suc posts) ≡ b → (if b then Some (Serve transport admin workers each) else None) ≡ Some (Serve transport admin workers each)
  go true is = refl
  go false is = absurd (grind (arith, nat_tests))

pub refused_there : (posts : ℕ) (transport : Transport) (admin : Name) (workers each : ℕ) → posts < workers → served_at posts transport admin workers each ≡ None
refused_there zero transport admin workers each few = refl
refused_there (suc posts) transport admin workers each few = go (nat_le workers (suc posts)) refl where
  go : (b : Bool) → nat_le workers (suc posts) ≡ b → (if b then Some (Serve transport admin workers each) else None) ≡ None
  go true is = absurd (grind (arith, nat_tests))
  go false is = refl

module _ {L D G P : Type 0} (state : L → LinkState) (door : D → DoorState L) (disk : DiskRun) (source source' sink sink' : LinkState) (log : List Entry) (number : ℕ) where
  -- a command that leaves the posts alone
  pub shell_checks : (posts : List (Post D G HubView P)) → EndsRun (Some Check) disk source source' sink sink' number log → EndsShell state door posts posts (Some Check) disk source source' sink sink' number log
  shell_checks posts run = record { status = run.status; number_is = run.number_is; ends = (run.ends, refl) }

  pub shell_runs : (posts : List (Post D G HubView P)) (admin : Name) → EndsRun (Some (Script admin)) disk source source' sink sink' number log → EndsShell state door posts posts (Some (Script admin)) disk source source' sink sink' number log
  shell_runs posts admin run = record { status = run.status; number_is = run.number_is; ends = (run.ends, refl) }

  pub shell_loads : (posts : List (Post D G HubView P)) (count start : ℕ) → EndsRun (Some (Load count start)) disk source source' sink sink' number log → EndsShell state door posts posts (Some (Load count start)) disk source source' sink sink' number log
  shell_loads posts count start run = record { status = run.status; number_is = run.number_is; ends = (run.ends, refl) }

  pub shell_keeps : (posts : List (Post D G HubView P)) (admin : Name) → EndsRun (Some (Keep admin)) disk source source' sink sink' number log → EndsShell state door posts posts (Some (Keep admin)) disk source source' sink sink' number log
  shell_keeps posts admin run = record { status = run.status; number_is = run.number_is; ends = (run.ends, refl) }

  pub shell_asks : (posts : List (Post D G HubView P)) → EndsRun (Some Access) disk source source' sink sink' number log → EndsShell state door posts posts (Some Access) disk source source' sink sink' number log
  shell_asks posts run = record { status = run.status; number_is = run.number_is; ends = (run.ends, refl) }

  pub shell_refuses : (posts : List (Post D G HubView P)) → EndsRun None disk source source' sink sink' number log → EndsShell state door posts posts None disk source source' sink sink' number log
  shell_refuses posts run = record { status = run.status; number_is = run.number_is; ends = (run.ends, refl) }

  -- and with what it ends where no fault is counted
  pub shell_surely : (posts : List (Post D G HubView P)) (found : Option Asked) → EndsRun found disk source source' sink sink' number log → EndsShellSurely state door posts posts found disk source source' sink sink' number
  shell_surely posts found run = λ reads writes disks doors. surely disk source source' sink sink' log found number run reads writes disks

-- `serve`, over the first posts
module _ {L D G P : Type 0} (state : L → LinkState) (door : D → DoorState L) (modeled : Bool) (disk : DiskState) (source sink sink' : LinkState) (log : List Entry) (number : ℕ) (old used rest : List (Post D G HubView P)) (transport : Transport) (admin : Name) (workers each : ℕ) (enough : length used ≡ workers) (rest_is : rest ≡ drop workers old) where
  first_is : take workers (used ++ rest) ≡ used
  first_is = subst (λ (n : ℕ). take n (used ++ rest) ≡ used) enough (take-append_seam used rest)

  others_are : drop workers (used ++ rest) ≡ drop workers old
  others_are = subst (λ (n : ℕ). drop n (used ++ rest) ≡ rest) enough (drop-append_seam used rest) ∙ rest_is

  pub shell_serves : ((status : Status) × (number ≡ status_number status) × EndsServe (meaning_of (protocol_of transport)) state door admin each (take workers old) used sink sink' log status)
      → EndsShell state door old (used ++ rest) (Some (Serve transport admin workers each)) (unused modeled disk) source source sink sink' number log
  shell_serves served = record {
    status = served.0;
    number_is = served.1;
    ends = (
      subst (λ (xs : List (Post D G HubView P)). EndsServe (meaning_of (protocol_of transport)) state door admin each (take workers old) xs sink sink' log served.0) (sym first_is) served.2,
      others_are,
      refl,
      refl,
    );
  }

  pub shell_serves_surely : ((ADoorFailed door (take workers old) used → ⊥) → (HasRisen sink.write_faults sink'.write_faults → ⊥) → (number ≡ 0) ⊎ (number ≡ 4))
      → EndsShellSurely state door old (used ++ rest) (Some (Serve transport admin workers each)) (unused modeled disk) source source sink sink' number
  shell_serves_surely sure = λ reads writes disks doors. sure (λ failed. doors (subst (λ (xs : List (Post D G HubView P)). ADoorFailed door (take workers old) xs) (sym first_is) failed)) writes

-- memory ran out before the words were read
pub shell_does_nothing : {L D G P : Type 0} (state : L → LinkState) (door : D → DoorState L) (posts : List (Post D G HubView P)) (modeled : Bool) (disk : DiskState) (source sink : LinkState) (asked : Option Asked)
    → EndsShellBy state door posts posts (option_and_then (built (length posts)) asked) (unused modeled disk) source source sink sink [] NoMemory
shell_does_nothing {L} {D} {G} {P} state door posts modeled disk source sink None = (nothing_done modeled disk source sink None, refl)
shell_does_nothing {L} {D} {G} {P} state door posts modeled disk source sink (Some (Script admin)) = (nothing_done modeled disk source sink (Some (Script admin)), refl)
shell_does_nothing {L} {D} {G} {P} state door posts modeled disk source sink (Some Check) = (nothing_done modeled disk source sink (Some Check), refl)
shell_does_nothing {L} {D} {G} {P} state door posts modeled disk source sink (Some (Load count start)) = (nothing_done modeled disk source sink (Some (Load count start)), refl)
shell_does_nothing {L} {D} {G} {P} state door posts modeled disk source sink (Some (Keep admin)) = (nothing_done modeled disk source sink (Some (Keep admin)), refl)
shell_does_nothing {L} {D} {G} {P} state door posts modeled disk source sink (Some Access) = (nothing_done modeled disk source sink (Some Access), refl)
shell_does_nothing {L} {D} {G} {P} state door posts modeled disk source sink (Some (Serve transport admin workers each)) = go (length posts) where
  none : (xs : List (Post D G HubView P)) → ServesNone (meaning_of (protocol_of transport)) state door admin each xs xs sink sink []
  none xs = record { unasked = λ k d. refl; unprinted = refl; no_log = refl }

  go : (k : ℕ) → EndsShellBy state door posts posts (served_at k transport admin workers each) (unused modeled disk) source source sink sink [] NoMemory
  go zero = (nothing_done modeled disk source sink None, refl)
  go (suc k) = by (nat_le workers (suc k)) where
    by : (b : Bool) → EndsShellBy state door posts posts (if b then Some (Serve transport admin workers each) else None) (unused modeled disk) source source sink sink [] NoMemory
    by true = (inl (none (take workers posts)), refl, refl, refl)
    by false = (nothing_done modeled disk source sink None, refl)

-- the words weren't read as a command
pub shell_unread : {L D G P : Type 0} (state : L → LinkState) (door : D → DoorState L) (posts : List (Post D G HubView P)) (modeled : Bool) (disk : DiskState) (source sink sink' : LinkState) (number : ℕ) (log : List Entry) (asked : Option Asked) (why : WordsFault) → Reads asked (Err why) → EndsUnread why sink sink' number → log ≡ []
    → EndsShell state door posts posts (option_and_then (built (length posts)) asked) (unused modeled disk) source source sink sink' number log
shell_unread state door posts modeled disk source sink sink' number log asked words.Usage none ends empty =
    subst (λ (o : Option Asked). EndsShell state door posts posts (option_and_then (built (length posts)) o) (unused modeled disk) source source sink sink' number log) (sym none)
    (shell_refuses state door (unused modeled disk) source source sink sink' log number posts (refused_run (unused modeled disk) source source sink sink' log number ends refl empty refl))
shell_unread state door posts modeled disk source sink sink' number log asked words.NoMemory some ends empty = record {
  status = NoMemory;
  number_is = ends.0;
  ends = subst (λ (s : LinkState). EndsShellBy state door posts posts (option_and_then (built (length posts)) asked) (unused modeled disk) source source sink s log NoMemory) (sym ends.1)
      (subst (λ (l : List Entry). EndsShellBy state door posts posts (option_and_then (built (length posts)) asked) (unused modeled disk) source source sink sink l NoMemory) (sym empty) (shell_does_nothing state door posts modeled disk source sink asked));
}

four : (posts : ℕ) (asked : Option Asked) (number : ℕ) → number ≡ 4 → IsDue (option_and_then (built posts) asked) number
four posts None number is = inr is
four posts (Some (Script admin)) number is = inr (inr is)
four posts (Some Check) number is = inr (inr is)
four posts (Some (Load count start)) number is = inr is
four posts (Some (Keep admin)) number is = inr (inr (inr is))
four posts (Some Access) number is = inr (inr (inr (inr is)))
four zero (Some (Serve transport admin workers each)) number is = inr is
four (suc posts) (Some (Serve transport admin workers each)) number is = by (nat_le workers (suc posts)) where
  by : (b : Bool) → IsDue (if b then Some (Serve transport admin workers each) else None) number
  by true = inr is
  by false = inr is

refused_due : (sink sink' : LinkState) (number : ℕ) (why : Status) → number ≡ status_number why → EndsUsage sink sink' why → (HasRisen sink.write_faults sink'.write_faults → ⊥) → (number ≡ 1) ⊎ (number ≡ 4)
refused_due sink sink' number Usage is ends writes = inl is
refused_due sink sink' number NoMemory is ends writes = inr is
refused_due sink sink' number OutputFault is ends writes = absurd (writes ends.1)
refused_due sink sink' number Done is ends writes = absurd ends
refused_due sink sink' number InputFault is ends writes = absurd ends
refused_due sink sink' number DoorFault is ends writes = absurd ends
refused_due sink sink' number ConfRefused is ends writes = absurd ends
refused_due sink sink' number BadScript is ends writes = absurd ends
refused_due sink sink' number DiskFault is ends writes = absurd ends
refused_due sink sink' number BadJournal is ends writes = absurd ends
refused_due sink sink' number BadQuestion is ends writes = absurd ends

pub shell_unread_surely : {L D G P : Type 0} (state : L → LinkState) (door : D → DoorState L) (posts : List (Post D G HubView P)) (modeled : Bool) (disk : DiskState) (source sink sink' : LinkState) (number : ℕ) (asked : Option Asked) (why : WordsFault) → Reads asked (Err why) → EndsUnread why sink sink' number
    → EndsShellSurely state door posts posts (option_and_then (built (length posts)) asked) (unused modeled disk) source source sink sink' number
shell_unread_surely state door posts modeled disk source sink sink' number asked words.Usage none ends = λ reads writes disks doors.
    subst (λ (o : Option Asked). IsDue (option_and_then (built (length posts)) o) number) (sym none) (refused_due sink sink' number ends.0 ends.1 ends.2 writes)
shell_unread_surely state door posts modeled disk source sink sink' number asked words.NoMemory some ends = λ reads writes disks doors. four (length posts) asked number ends.0
