-- How `keep` ends.
use Rattle.std.proofs.Common.{◌≡◌, ◌⊎◌, ℕ, ◌<◌, List, Bool, [], ◌∷◌, length, refl, sym, ◌∙◌, subst, true, false, inl, inr, arith, length-append}
use Rattle.std.specs.Prelude.{IsTrue, Result, Ok, Err, Some, OnOk, IfErr}
use Rattle.std.proofs.KnownBytes.{Appends-nil}
use Rattle.base_types.specs.Counts.{HasRisen}
use Rattle.pktline_core.specs.LinkState.{LinkState}
use Rattle.ref_store.specs.Refs.{Name}
use Rattle.hub_history.specs.declared.entry.Entry.{Entry}
use Rattle.hub_history.specs.History.{IsLegal}
use Rattle.hub.specs.Hub.{HubView}
use Rattle.record_file.specs.Crashes.{Leaves, LeavesOnly}
use Rattle.record_file.specs.Disks.{DiskState}
use Rattle.record_file.specs.Files.{IsDurable, WriterState}
use Rattle.record_file.specs.Records.{Holds}
use Rattle.hub_journal.specs.Events.{HoldsSome, bodies_in, head_for}
use Rattle.hub_journal.specs.Journal.{GoesOn, IsRunning, JournalView}
use Rattle.hub_journal.specs.Faults.{fault_text}
use Rattle.hub_journal.specs.Recovery.{AreEventsOf, IsNoJournal, ReportsFaults}
use Rattle.hub_journal.specs.declared.open_fault.OpenFault.{OpenFault}
use Rattle.hub_journal.specs.declared.open_fault.OpenFault.TheVariants as refusal
use Rattle.hub_journal.proofs.JournalLemmas.{durable_leaves, starts}
use Rattle.shell_words.specs.declared.commands.Asked.TheVariants.{Keep}
use Rattle.shell_program.specs.RunningScripts.{RunsScript, StopsScript, StopsWriting, TellsBroken}
use Rattle.shell_program.specs.Keep.{DiskRun, EndsKeep, EndsKept, EndsUnopened, Keeps, RunsOpen, StoresAll, TellsRefusal, refusal_line}
use Rattle.shell_program.specs.Lone.{IsDue}
use Rattle.shell_program.specs.Status.{status_number, status_of}
use Rattle.shell_program.specs.declared.script.ScriptFault.{ScriptFault}
use Rattle.shell_program.specs.declared.script.ScriptFault.TheVariants as fault
use Rattle.shell_program.specs.declared.status.Status.{Status}
use Rattle.shell_program.specs.declared.status.Status.TheVariants.{Done, Usage, InputFault, OutputFault, NoMemory, DoorFault, ConfRefused, BadScript, DiskFault, BadJournal, BadQuestion}

-- I. A file that is refused

module _ (sink sink' : LinkState) (line : List ℕ) where
  -- the line wasn't printed whole
  pub refusal_stopped : (f : ScriptFault) → StopsWriting sink sink' line f → TellsRefusal line sink sink' (status_of (Err f))
  refusal_stopped fault.BadScript stops = absurd stops
  refusal_stopped fault.InputFault stops = absurd stops
  refusal_stopped fault.DiskFault stops = absurd stops
  refusal_stopped fault.OutputFault stops = stops
  refusal_stopped fault.NoMemory stops = (stops.0, inr stops.1)

some_line : (f : OpenFault) → 0 < length (refusal_line f)
unfolding refusal_line
some_line f = omega (arith, length-append (fault_text f) (10 ∷ []))

-- there was no memory for the line
pub refusal_unmade : (sink : LinkState) (f : OpenFault) → TellsRefusal (refusal_line f) sink sink NoMemory
refusal_unmade sink f = (record { bytes = []; short = (refusal_line f, refl, some_line f); written = Appends-nil sink.written }, inl refl)

-- the fault, without the answer that it was in
pub reported : (T : Type 0) (f : OpenFault) (old new : DiskState) → ReportsFaults {T = T} (Err f) old new → ReportsFaults {T = Unit {0}} (Err f) old new
reported T refusal.NotAJournal old new told = told
reported T refusal.OtherAdmin old new told = told
reported T (refusal.BadRecord offset) old new told = told
reported T refusal.DiskFault old new told = told
reported T refusal.NoMemory old new told = told

-- memory ran out before anything was done
pub unkept : (modeled : Bool) (disk : DiskState) (source sink : LinkState) (admin : Name) → EndsKeep admin (record { modeled = modeled; old = disk; new = disk }) source source sink sink [] NoMemory
unkept modeled disk source sink admin = inl (record {
  fault = refusal.NoMemory;
  why = λ t. tt;
  faults = refl;
  any_moment = λ t bodies leaves. starts (Holds (head_for admin) bodies) disk.file leaves;
  ends = (refl, refl);
  unread = refl;
  no_log = refl;
})

-- II. The script

-- the journal over the hub that was recovered
abbrev pub first_view : Name → List Entry → ℕ → DiskState → JournalView
first_view admin before end disk = record { hub = record { admin = admin; log = before }; start = length before; store = record { stored = length before; writer = record { end = end; broken = false }; disk = disk } }

module _ (modeled : Bool) (admin : Name) (before : List Entry) (end : ℕ) (opened : DiskState) (last : JournalView) (on : GoesOn modeled (first_view admin before end opened) last)
    (durable : IsTrue modeled → IsDurable (head_for admin) (bodies_in before) end opened.file) where
  kept_disk : DiskRun
  kept_disk = record { modeled = modeled; old = opened; new = last.store.disk }

  running : IsTrue modeled → IsRunning (first_view admin before end opened)
  running t = record { durable = λ unbroken. durable t; leaves = durable_leaves admin before end opened.file (durable t) }

  -- the desk is whole, and so everything is stored
  stores_all : last.store.writer.broken ≡ false → StoresAll admin kept_disk last.hub.log
  unfolding kept_disk
  stores_all unbroken = record {
    no_fault = on.no_fault unbroken;
    stored = λ t. record {
      end = last.store.writer.end;
      durable = subst (λ (a : Name). IsDurable (head_for a) (bodies_in last.hub.log) last.store.writer.end last.store.disk.file) on.admin ((on.runs t (running t)).durable unbroken);
    };
  }

  has_risen : last.store.writer.broken ≡ true → HasRisen opened.disk_faults last.store.disk.disk_faults
  has_risen broken = elim (on.fault broken) [
    | inl first ↦ let clash : false ≡ true = first in absurd cc
    | inr risen ↦ risen
  ]

  either : (b : Bool) → last.store.writer.broken ≡ b → StoresAll admin kept_disk last.hub.log ⊎ HasRisen opened.disk_faults last.store.disk.disk_faults
  either true is = inr (has_risen is)
  either false is = inl (stores_all is)

  keeps : (result : Result (Unit {0}) ScriptFault) → TellsBroken last.store.writer.broken result → Keeps admin kept_disk last.hub.log (status_of result)
  unfolding kept_disk
  keeps (Ok unit) told = stores_all told
  keeps (Err fault.BadScript) told = stores_all told
  keeps (Err fault.InputFault) told = stores_all told
  keeps (Err fault.OutputFault) told = stores_all told
  keeps (Err fault.DiskFault) told = has_risen told
  keeps (Err fault.NoMemory) told = either last.store.writer.broken refl

  moments : IsTrue modeled → LeavesOnly (HoldsSome admin last.hub.log (length before)) opened.file last.store.disk.file
  moments t = subst (λ (a : Name). LeavesOnly (HoldsSome a last.hub.log (length before)) opened.file last.store.disk.file) on.admin (on.any_moment t (running t))

  module _ (source source' sink sink' : LinkState) where
    script_ended : (result : Result (Unit {0}) ScriptFault) → OnOk result (RunsScript source source' sink sink' admin before last.hub.log false) → IfErr result (StopsScript source source' sink sink' admin before last.hub.log)
        → EndsKept admin before source source' sink sink' last.hub.log (status_of result)
    script_ended (Ok unit) ok err = ok
    script_ended (Err fault.BadScript) ok err = err
    script_ended (Err fault.InputFault) ok err = err
    script_ended (Err fault.OutputFault) ok err = err
    script_ended (Err fault.DiskFault) ok err = err
    script_ended (Err fault.NoMemory) ok err = err

    pub runs_open : (result : Result (Unit {0}) ScriptFault) → OnOk result (RunsScript source source' sink sink' admin before last.hub.log false) → IfErr result (StopsScript source source' sink sink' admin before last.hub.log)
        → TellsBroken last.store.writer.broken result → RunsOpen admin before (record { modeled = modeled; old = opened; new = last.store.disk }) source source' sink sink' last.hub.log (status_of result)
    unfolding kept_disk
    runs_open result ok err told = record { more = on.more; grows = on.grows; ends = script_ended result ok err; keeps = keeps result told; any_moment = moments }

-- a journal that was opened
is_first : (j : JournalView) (hub : HubView) (writer : WriterState) (disk : DiskState) → j.hub ≡ hub → j.start ≡ length hub.log → j.store.stored ≡ length hub.log → j.store.writer ≡ writer → writer.broken ≡ false → j.store.disk ≡ disk
    → j ≡ first_view hub.admin hub.log writer.end disk
is_first j hub writer disk hub_is start stored writer_is unbroken disk_is =
    let whole : j.store.writer ≡ record { end = writer.end; broken = false } = writer_is ∙ (λ i. record { end = writer.end; broken = unbroken i }) in
    λ i. record { hub = hub_is i; start = start i; store = record { stored = stored i; writer = whole i; disk = disk_is i } }

pub kept_open : (modeled : Bool) (hub : HubView) (writer : WriterState) (disk : DiskState) (first last : JournalView) → first.hub ≡ hub → first.start ≡ length hub.log → first.store.stored ≡ length hub.log → first.store.writer ≡ writer
    → writer.broken ≡ false → first.store.disk ≡ disk → GoesOn modeled first last → (IsTrue modeled → IsDurable (head_for hub.admin) (bodies_in hub.log) writer.end disk.file)
    → (source source' sink sink' : LinkState) (result : Result (Unit {0}) ScriptFault) → OnOk result (RunsScript source source' sink sink' first.hub.admin first.hub.log last.hub.log false)
    → IfErr result (StopsScript source source' sink sink' first.hub.admin first.hub.log last.hub.log) → TellsBroken last.store.writer.broken result
    → RunsOpen hub.admin hub.log (record { modeled = modeled; old = disk; new = last.store.disk }) source source' sink sink' last.hub.log (status_of result)
kept_open modeled hub writer disk first last hub_is start stored writer_is unbroken disk_is on durable source source' sink sink' result ok err told =
    runs_open modeled hub.admin hub.log writer.end disk last
    (subst (λ (j : JournalView). GoesOn modeled j last) (is_first first hub writer disk hub_is start stored writer_is unbroken disk_is) on)
    durable source source' sink sink' result
    (subst (λ (h : HubView). OnOk result (RunsScript source source' sink sink' h.admin h.log last.hub.log false)) hub_is ok)
    (subst (λ (h : HubView). IfErr result (StopsScript source source' sink sink' h.admin h.log last.hub.log)) hub_is err) told

-- III. The end

pub ends_open : (admin : Name) (hub : HubView) (end : ℕ) (modeled : Bool) (old opened new : DiskState) (source source' sink sink' : LinkState) (log : List Entry) (number : ℕ) → hub.admin ≡ admin → IsLegal hub.admin hub.log
    → (IsTrue modeled → AreEventsOf admin hub.log old.file.content) → opened.disk_faults ≡ old.disk_faults → (IsTrue modeled → IsDurable (head_for hub.admin) (bodies_in hub.log) end opened.file)
    → (IsTrue modeled → (bodies : List (List ℕ)) → Leaves (Holds (head_for admin) bodies) old.file.pending → LeavesOnly (Holds (head_for admin) bodies) old.file opened.file)
    → ((status : Status) × (number ≡ status_number status) × RunsOpen hub.admin hub.log (record { modeled = modeled; old = opened; new = new }) source source' sink sink' log status)
    → (status : Status) × (number ≡ status_number status) × EndsKeep admin (record { modeled = modeled; old = old; new = new }) source source' sink sink' log status
ends_open admin hub end modeled old opened new source source' sink sink' log number same legal events faults durable opening runs = (
  runs.0,
  runs.1,
  inr (record {
    before = hub.log;
    legal = subst (λ (a : Name). IsLegal a hub.log) same legal;
    events = events;
    opened = opened;
    no_fault = faults;
    stored = λ t. record { end = end; durable = subst (λ (a : Name). IsDurable (head_for a) (bodies_in hub.log) end opened.file) same (durable t) };
    opening = opening;
    runs = subst (λ (a : Name). RunsOpen a hub.log (record { modeled = modeled; old = opened; new = new }) source source' sink sink' log runs.0) same runs.2;
  }),
)

pub ends_unopened : (T : Type 0) (admin : Name) (modeled : Bool) (old new : DiskState) (source sink sink' : LinkState) (log : List Entry) (f : OpenFault) (status : Status) (number : ℕ) → number ≡ status_number status → log ≡ []
    → ReportsFaults {T = T} (Err f) old new → (IsTrue modeled → IsNoJournal admin old.file.content f)
    → (IsTrue modeled → (bodies : List (List ℕ)) → Leaves (Holds (head_for admin) bodies) old.file.pending → LeavesOnly (Holds (head_for admin) bodies) old.file new.file) → EndsUnopened f sink sink' status
    → (status : Status) × (number ≡ status_number status) × EndsKeep admin (record { modeled = modeled; old = old; new = new }) source source sink sink' log status
ends_unopened T admin modeled old new source sink sink' log f status number number_is none faults why opening ends =
    (status, number_is, inl (record { fault = f; why = why; faults = reported T f old new faults; any_moment = opening; ends = ends; unread = refl; no_log = none }))

module _ (admin : Name) (disk : DiskRun) (source source' sink sink' : LinkState) (log : List Entry) where
  refused_file : (line : List ℕ) (status : Status) → TellsRefusal line sink sink' status → (HasRisen sink.write_faults sink'.write_faults → ⊥) → IsDue (Some (Keep admin)) (status_number status)
  refused_file line BadJournal tells writes = inr (inr (inl refl))
  refused_file line NoMemory tells writes = inr (inr (inr refl))
  refused_file line OutputFault tells writes = absurd (writes tells.1)
  refused_file line Done tells writes = absurd tells
  refused_file line Usage tells writes = absurd tells
  refused_file line InputFault tells writes = absurd tells
  refused_file line DoorFault tells writes = absurd tells
  refused_file line ConfRefused tells writes = absurd tells
  refused_file line BadScript tells writes = absurd tells
  refused_file line DiskFault tells writes = absurd tells
  refused_file line BadQuestion tells writes = absurd tells

  unopened_due : (f : OpenFault) (status : Status) → EndsUnopened f sink sink' status → ReportsFaults {T = Unit {0}} (Err f) disk.old disk.new → (HasRisen sink.write_faults sink'.write_faults → ⊥)
      → (HasRisen disk.old.disk_faults disk.new.disk_faults → ⊥) → IsDue (Some (Keep admin)) (status_number status)
  unopened_due refusal.NotAJournal status ends faults writes disks = refused_file (refusal_line refusal.NotAJournal) status ends writes
  unopened_due refusal.OtherAdmin status ends faults writes disks = refused_file (refusal_line refusal.OtherAdmin) status ends writes
  unopened_due (refusal.BadRecord offset) status ends faults writes disks = refused_file (refusal_line (refusal.BadRecord offset)) status ends writes
  unopened_due refusal.DiskFault status ends faults writes disks = absurd (disks faults.0)
  unopened_due refusal.NoMemory status ends faults writes disks = subst (λ (s : Status). IsDue (Some (Keep admin)) (status_number s)) (sym ends.0) (inr (inr (inr refl)))

  open_due : (before : List Entry) (opened : DiskState) (status : Status) → opened.disk_faults ≡ disk.old.disk_faults → RunsOpen admin before (record { modeled = disk.modeled; old = opened; new = disk.new }) source source' sink sink' log status
      → (HasRisen source.read_faults source'.read_faults → ⊥) → (HasRisen sink.write_faults sink'.write_faults → ⊥) → (HasRisen disk.old.disk_faults disk.new.disk_faults → ⊥) → IsDue (Some (Keep admin)) (status_number status)
  open_due before opened Done same runs reads writes disks = inl refl
  open_due before opened BadScript same runs reads writes disks = inr (inl refl)
  open_due before opened NoMemory same runs reads writes disks = inr (inr (inr refl))
  open_due before opened InputFault same runs reads writes disks = absurd (reads runs.ends.risen)
  open_due before opened OutputFault same runs reads writes disks = absurd (writes runs.ends.risen)
  open_due before opened DiskFault same runs reads writes disks = absurd (disks (subst (λ (n : ℕ). HasRisen n disk.new.disk_faults) same runs.keeps))
  open_due before opened Usage same runs reads writes disks = absurd runs.ends
  open_due before opened DoorFault same runs reads writes disks = absurd runs.ends
  open_due before opened ConfRefused same runs reads writes disks = absurd runs.ends
  open_due before opened BadJournal same runs reads writes disks = absurd runs.ends
  open_due before opened BadQuestion same runs reads writes disks = absurd runs.ends

  -- where no fault is counted
  pub keep_due : (status : Status) → EndsKeep admin disk source source' sink sink' log status
      → (HasRisen source.read_faults source'.read_faults → ⊥) → (HasRisen sink.write_faults sink'.write_faults → ⊥) → (HasRisen disk.old.disk_faults disk.new.disk_faults → ⊥) → IsDue (Some (Keep admin)) (status_number status)
  keep_due status (inl unopened) reads writes disks = unopened_due unopened.fault status unopened.ends unopened.faults writes disks
  keep_due status (inr kept) reads writes disks = open_due kept.before kept.opened status kept.no_fault kept.runs reads writes disks
