-- How a command that was run ends the program.
use Rattle.std.proofs.Common.{◌≡◌, List, ℕ, zero, suc, nat_le, Bool, Option, [], refl, sym, ◌∙◌, ap, subst, true, false, inl, inr, arith}
use Rattle.std.specs.Prelude.{IsTrue, Result, Ok, Err, Some, None, OnOk, IfErr, IfSome, if◌then◌else◌, option_and_then}
use Rattle.std.proofs.KnownBytes.{Appends-nil, Consumes-nil}
use Rattle.base_types.specs.Counts.{HasRisen}
use Rattle.pktline_core.specs.LinkState.{LinkState}
use Rattle.hub_history.specs.declared.entry.Entry.{Entry}
use Rattle.hub.specs.Desk.{DeskView, IsSound}
use Rattle.hub_history.specs.History.{IsLegal}
use Rattle.ref_store.specs.Refs.{Name}
use Rattle.conf_lex.specs.Names.{is_user_name}
use Rattle.session_core.specs.Recorded.{IsRecorded, LegalLogsAreRecorded, Recorded}
use Rattle.shell_words.specs.declared.commands.Asked.{Asked}
use Rattle.shell_words.specs.declared.commands.Transport.{Transport}
use Rattle.shell_words.specs.declared.commands.Asked.TheVariants.{Script, Serve, Check, Load, Keep, Access}
use Rattle.shell_words.specs.Commands.{Reads, asked}
use Rattle.shell_words.specs.declared.commands.WordsFault.{WordsFault}
use Rattle.shell_words.specs.declared.commands.WordsFault.TheVariants as words
use Rattle.shell_words.specs.Spelling.{ReadIsSpelled}
use Rattle.shell_program.specs.Command.{admin_of, built, command, served_at, usage_line}
use Rattle.shell_program.specs.Script.{sessions}
use Rattle.shell_program.specs.Load.{EndsLoad, log_behind}
use Rattle.shell_program.specs.RunningScripts.{EndsScript, RunsScript, StopsScript, TellsBroken}
use Rattle.shell_program.specs.Access.{EndsAccess}
use Rattle.shell_program.specs.Check.{EndsCheck}
use Rattle.shell_program.specs.Keep.{DiskRun, EndsKeep}
use Rattle.record_file.specs.Disks.{DiskState}
use Rattle.shell_program.proofs.KeepLemmas.{keep_due, unkept}
use Rattle.shell_program.specs.Lone.{AUsedDiskFailed, EndsBy, EndsRun, EndsSurely, EndsUnread, EndsUsage, IsDue, RefusesSurely, new_desk}
use Rattle.shell_program.specs.Status.{status_number, status_of}
use Rattle.shell_program.specs.declared.script.ScriptFault.{ScriptFault}
use Rattle.shell_program.specs.declared.script.ScriptFault.TheVariants as fault
use Rattle.shell_program.specs.declared.status.Status.{Status}
use Rattle.shell_program.specs.declared.status.Status.TheVariants.{Done, Usage, InputFault, OutputFault, NoMemory, DoorFault, ConfRefused, BadScript, DiskFault, BadJournal, BadQuestion}
use Rattle.script_frames.proofs.FrameLemmas.{begins_none}
use Rattle.shell_program.specs.SessionFrames.{session_word}
use Rattle.shell_program.proofs.ScriptLemmas.{session_is_word}

module _ (source source' sink sink' : LinkState) (admin : Name) (log : List Entry) where
  -- at a desk that can't break
  ended : (result : Result (Unit {0}) ScriptFault) → OnOk result (RunsScript source source' sink sink' admin [] log false) → IfErr result (StopsScript source source' sink sink' admin [] log)
      → TellsBroken false result → EndsScript admin [] source source' sink sink' log (status_of result)
  ended (Ok unit) ok err told = ok
  ended (Err fault.BadScript) ok err told = err
  ended (Err fault.InputFault) ok err told = err
  ended (Err fault.OutputFault) ok err told = err
  ended (Err fault.DiskFault) ok err told = absurd (let broke : false ≡ true = told in cc)
  ended (Err fault.NoMemory) ok err told = err

  -- a script at the desk of a new hub
  pub ended_new : (desk : DeskView) → desk ≡ new_desk admin → (result : Result (Unit {0}) ScriptFault)
      → OnOk result (RunsScript source source' sink sink' desk.admin desk.seen log false) → IfErr result (StopsScript source source' sink sink' desk.admin desk.seen log) → TellsBroken false result
      → EndsScript admin [] source source' sink sink' log (status_of result)
  ended_new desk new result ok err told = ended result
      (subst (λ (d : DeskView). OnOk result (RunsScript source source' sink sink' d.admin d.seen log false)) new ok)
      (subst (λ (d : DeskView). IfErr result (StopsScript source source' sink sink' d.admin d.seen log)) new err)
      told

-- memory ran out before anything was done
pub undone : (source sink : LinkState) (admin : Name) → EndsScript admin [] source source sink sink [] NoMemory
unfolding sessions
undone source sink admin = record {
  done = [];
  more = [];
  written = λ recorded of. Appends-nil sink.written;
  may_lack = inl refl;
  stops = inl (record { part = []; small = tt; none = begins_none session_word session_is_word; inside = inl refl; takes = record { consumed = Consumes-nil source.left; counted = omega arith }; nothing = refl; log_is = λ recorded of. refl });
}

module _ (disk : DiskRun) (source source' sink sink' : LinkState) (log : List Entry) where
  -- where no fault is counted
  due_by : (found : Option Asked) (status : Status) → EndsBy found disk source source' sink sink' log status
      → (HasRisen source.read_faults source'.read_faults → ⊥) → (HasRisen sink.write_faults sink'.write_faults → ⊥) → (AUsedDiskFailed found disk → ⊥) → IsDue found (status_number status)
  due_by (Some Check) Done ends reads writes disks = inl refl
  due_by (Some Check) ConfRefused ends reads writes disks = inr (inl refl)
  due_by (Some Check) NoMemory ends reads writes disks = inr (inr refl)
  due_by (Some Check) InputFault ends reads writes disks = absurd (reads ends.0.0.fails.risen)
  due_by (Some Check) OutputFault ends reads writes disks = absurd (writes ends.0.1)
  due_by (Some Check) Usage ends reads writes disks = absurd ends.0
  due_by (Some Check) BadScript ends reads writes disks = absurd ends.0
  due_by (Some Check) DoorFault ends reads writes disks = absurd ends.0
  due_by (Some Check) DiskFault ends reads writes disks = absurd ends.0
  due_by (Some Check) BadJournal ends reads writes disks = absurd ends.0
  due_by (Some Check) BadQuestion ends reads writes disks = absurd ends.0
  due_by (Some (Script admin)) Done ends reads writes disks = inl refl
  due_by (Some (Script admin)) BadScript ends reads writes disks = inr (inl refl)
  due_by (Some (Script admin)) NoMemory ends reads writes disks = inr (inr refl)
  due_by (Some (Script admin)) InputFault ends reads writes disks = absurd (reads ends.0.risen)
  due_by (Some (Script admin)) OutputFault ends reads writes disks = absurd (writes ends.0.risen)
  due_by (Some (Script admin)) Usage ends reads writes disks = absurd ends.0
  due_by (Some (Script admin)) ConfRefused ends reads writes disks = absurd ends.0
  due_by (Some (Script admin)) DoorFault ends reads writes disks = absurd ends.0
  due_by (Some (Script admin)) DiskFault ends reads writes disks = absurd ends.0
  due_by (Some (Script admin)) BadJournal ends reads writes disks = absurd ends.0
  due_by (Some (Script admin)) BadQuestion ends reads writes disks = absurd ends.0
  due_by (Some (Serve transport admin workers sessions)) status ends reads writes disks = absurd ends
  due_by (Some (Load count start)) Done ends reads writes disks = inl refl
  due_by (Some (Load count start)) NoMemory ends reads writes disks = inr refl
  due_by (Some (Load count start)) OutputFault ends reads writes disks = absurd (writes ends.0.2)
  due_by (Some (Load count start)) Usage ends reads writes disks = absurd ends.0
  due_by (Some (Load count start)) InputFault ends reads writes disks = absurd ends.0
  due_by (Some (Load count start)) ConfRefused ends reads writes disks = absurd ends.0
  due_by (Some (Load count start)) BadScript ends reads writes disks = absurd ends.0
  due_by (Some (Load count start)) DoorFault ends reads writes disks = absurd ends.0
  due_by (Some (Load count start)) DiskFault ends reads writes disks = absurd ends.0
  due_by (Some (Load count start)) BadJournal ends reads writes disks = absurd ends.0
  due_by (Some (Load count start)) BadQuestion ends reads writes disks = absurd ends.0
  due_by (Some (Keep admin)) status ends reads writes disks = keep_due admin disk source source' sink sink' log status ends reads writes disks
  due_by (Some Access) Done ends reads writes disks = inl refl
  due_by (Some Access) ConfRefused ends reads writes disks = inr (inl refl)
  due_by (Some Access) BadScript ends reads writes disks = inr (inr (inl refl))
  due_by (Some Access) BadQuestion ends reads writes disks = inr (inr (inr (inl refl)))
  due_by (Some Access) NoMemory ends reads writes disks = inr (inr (inr (inr refl)))
  due_by (Some Access) InputFault ends reads writes disks = absurd (reads ends.0.0.fails.risen)
  due_by (Some Access) OutputFault ends reads writes disks = absurd (writes ends.0.1)
  due_by (Some Access) Usage ends reads writes disks = absurd ends.0
  due_by (Some Access) DoorFault ends reads writes disks = absurd ends.0
  due_by (Some Access) DiskFault ends reads writes disks = absurd ends.0
  due_by (Some Access) BadJournal ends reads writes disks = absurd ends.0
  due_by None Usage ends reads writes disks = inl refl
  due_by None NoMemory ends reads writes disks = inr refl
  due_by None OutputFault ends reads writes disks = absurd (writes ends.0.1)
  due_by None Done ends reads writes disks = absurd ends.0
  due_by None InputFault ends reads writes disks = absurd ends.0
  due_by None ConfRefused ends reads writes disks = absurd ends.0
  due_by None BadScript ends reads writes disks = absurd ends.0
  due_by None DoorFault ends reads writes disks = absurd ends.0
  due_by None DiskFault ends reads writes disks = absurd ends.0
  due_by None BadJournal ends reads writes disks = absurd ends.0
  due_by None BadQuestion ends reads writes disks = absurd ends.0

  pub surely : (found : Option Asked) (number : ℕ) → EndsRun found disk source source' sink sink' number log → EndsSurely found disk source source' sink sink' number
  surely found number run = λ reads writes disks. subst (λ (n : ℕ). IsDue found n) (sym run.number_is) (due_by found run.status run.ends reads writes disks)

  -- refused words
  pub refused_run : (number : ℕ) → ((why : Status) × (number ≡ status_number why) × EndsUsage sink sink' why) → source' ≡ source → log ≡ [] → disk.new ≡ disk.old → EndsRun None disk source source' sink sink' number log
  refused_run number ends read none same = record { status = ends.0; number_is = ends.1; ends = (ends.2, read, none, same) }

  -- a conf
  pub checked_run : (number : ℕ) → ((status : Status) × (number ≡ status_number status) × EndsCheck source source' sink sink' status) → log ≡ [] → disk.new ≡ disk.old → EndsRun (Some Check) disk source source' sink sink' number log
  checked_run number ends none same = record { status = ends.0; number_is = ends.1; ends = (ends.2, none, same) }

  -- questions
  pub asked_run : (number : ℕ) → ((status : Status) × (number ≡ status_number status) × EndsAccess source source' sink sink' status) → log ≡ [] → disk.new ≡ disk.old → EndsRun (Some Access) disk source source' sink sink' number log
  asked_run number ends none same = record { status = ends.0; number_is = ends.1; ends = (ends.2, none, same) }

  -- a script at a new hub
  pub script_run : (number : ℕ) (admin : Name) → ((status : Status) × (number ≡ status_number status) × EndsScript admin [] source source' sink sink' log status) → disk.new ≡ disk.old → EndsRun (Some (Script admin)) disk source source' sink sink' number log
  script_run number admin ends same = record { status = ends.0; number_is = ends.1; ends = (ends.2, same) }

  -- a script at the hub of a journal
  pub kept_run : (number : ℕ) (admin : Name) → ((status : Status) × (number ≡ status_number status) × EndsKeep admin disk source source' sink sink' log status) → EndsRun (Some (Keep admin)) disk source source' sink sink' number log
  kept_run number admin ends = record { status = ends.0; number_is = ends.1; ends = ends.2 }

-- a disk that isn't used
abbrev pub unused : Bool → DiskState → DiskRun
unused modeled disk = record { modeled = modeled; old = disk; new = disk }

-- the sessions of a generated installation
pub loaded_run : (modeled : Bool) (disk : DiskState) (source sink sink' : LinkState) (log : List Entry) (number count start : ℕ) → ((why : Status) × (number ≡ status_number why) × EndsLoad count start sink sink' log why)
    → EndsRun (Some (Load count start)) (unused modeled disk) source source sink sink' number log
loaded_run modeled disk source sink sink' log number count start ends = record { status = ends.0; number_is = ends.1; ends = (ends.2, refl, refl) }

-- memory ran out before the words were read
no_usage : (modeled : Bool) (disk : DiskState) (source sink : LinkState) → EndsBy None (unused modeled disk) source source sink sink [] NoMemory
no_usage modeled disk source sink = ((record { bytes = []; short = (usage_line, refl, omega arith); written = Appends-nil sink.written }, inl refl), refl, refl, refl)

pub nothing_done : (modeled : Bool) (disk : DiskState) (source sink : LinkState) (asked : Option Asked) → EndsBy (option_and_then (built 0) asked) (unused modeled disk) source source sink sink [] NoMemory
nothing_done modeled disk source sink None = no_usage modeled disk source sink
nothing_done modeled disk source sink (Some (Script admin)) = (undone source sink admin, refl)
nothing_done modeled disk source sink (Some (Serve transport admin workers sessions)) = no_usage modeled disk source sink
nothing_done modeled disk source sink (Some Check) = (inl (record { part = []; takes = record { consumed = Consumes-nil source.left; counted = omega arith } }, refl), refl, refl)
nothing_done modeled disk source sink (Some (Load count start)) = (inl (λ recorded of. (log_behind recorded count start count, refl), refl), refl, refl)
nothing_done modeled disk source sink (Some (Keep admin)) = unkept modeled disk source sink admin
nothing_done modeled disk source sink (Some Access) = (inl (record { part = []; takes = record { consumed = Consumes-nil source.left; counted = omega arith } }, refl), refl, refl)

-- the words weren't read as a command
pub unread_run : (modeled : Bool) (disk : DiskState) (source sink sink' : LinkState) (number : ℕ) (log : List Entry) (asked : Option Asked) (why : WordsFault) → Reads asked (Err why) → EndsUnread why sink sink' number → log ≡ []
    → EndsRun (option_and_then (built 0) asked) (unused modeled disk) source source sink sink' number log
unread_run modeled disk source sink sink' number log asked words.Usage none ends empty =
    subst (λ (o : Option Asked). EndsRun (option_and_then (built 0) o) (unused modeled disk) source source sink sink' number log) (sym none) (refused_run (unused modeled disk) source source sink sink' log number ends refl empty refl)
unread_run modeled disk source sink sink' number log asked words.NoMemory some ends empty = record {
  status = NoMemory;
  number_is = ends.0;
  ends = subst (λ (s : LinkState). EndsBy (option_and_then (built 0) asked) (unused modeled disk) source source sink s log NoMemory) (sym ends.1)
      (subst (λ (l : List Entry). EndsBy (option_and_then (built 0) asked) (unused modeled disk) source source sink sink l NoMemory) (sym empty) (nothing_done modeled disk source sink asked));
}

-- an empty log is legal
pub legal_none : (admin : Option Name) (log : List Entry) → log ≡ [] → IfSome admin (λ a. IsLegal a log)
legal_none None log none = tt
legal_none (Some admin) log none = subst (IsLegal admin) (sym none) (λ patterns ok. tt)

-- what the desk of a new hub saw afterwards is legal
pub legal_script : (admin : Name) (desk desk' : DeskView) (log : List Entry) → desk ≡ new_desk admin → desk'.admin ≡ desk.admin → IsSound desk' → log ≡ desk'.seen → IsLegal admin log
legal_script admin desk desk' log new same sound seen =
    subst (λ (a : Name). IsLegal a log) (same ∙ ap (λ (d : DeskView). d.admin) new) (subst (IsLegal desk'.admin) (sym seen) sound.legal)

-- the admin of a command's hub has a user's name
pub admin_named : ReadIsSpelled → (posts : ℕ) (words : List (List ℕ)) → IfSome (admin_of (command posts words)) (λ a. is_user_name a ≡ true)
admin_named read posts words = go (asked words) refl where
  served : (k : ℕ) (transport : Transport) (admin : Name) (workers sessions : ℕ) → is_user_name admin ≡ true → IfSome (admin_of (served_at k transport admin workers sessions)) (λ a. is_user_name a ≡ true)
  served zero transport admin workers sessions named = tt
  served (suc k) transport admin workers sessions named = by (nat_le workers (suc k)) where
    by : (b : Bool) → IfSome (admin_of (if b then Some (Serve transport admin workers sessions) else None)) (λ a. is_user_name a ≡ true)
    by true = named
    by false = tt

  go : (o : Option Asked) → asked words ≡ o → IfSome (admin_of (option_and_then (built posts) o)) (λ a. is_user_name a ≡ true)
  go None is = tt
  go (Some (Script admin)) is = (read (Script admin) words is).0
  go (Some (Serve transport admin workers sessions)) is = served posts transport admin workers sessions (read (Serve transport admin workers sessions) words is).0.0
  go (Some Check) is = tt
  go (Some (Load count start)) is = refl
  go (Some (Keep admin)) is = (read (Keep admin) words is).0
  go (Some Access) is = tt

-- what is recorded by a legal log
pub recorded_script : LegalLogsAreRecorded → (found : Option Name) → IfSome found (λ a. is_user_name a ≡ true) → (log : List Entry) → IfSome found (λ a. IsLegal a log) → IfSome found (λ a. (recorded : Recorded) × IsRecorded a log recorded)
recorded_script laws None name log legal = tt
recorded_script laws (Some admin) name log legal = laws admin log name legal

-- words that aren't read and are no command at all
pub refuses_unread : (sink : LinkState) (number : ℕ) (asked : Option Asked) (why : WordsFault) → Reads asked (Err why) → (why ≡ words.Usage → number ≡ 4 → IsTrue sink.may_lack) → RefusesSurely asked sink number
refuses_unread sink number None words.Usage none lacks = lacks refl
refuses_unread sink number (Some command) words.Usage none lacks = tt
refuses_unread sink number None words.NoMemory some lacks = absurd (let gone : false ≡ true = some in cc)
refuses_unread sink number (Some command) words.NoMemory some lacks = tt
