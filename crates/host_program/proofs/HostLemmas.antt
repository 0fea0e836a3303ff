-- How `host` ends.
use Rattle.std.proofs.Common.{◌≡◌, ◌⊎◌, ℕ, ◌≤◌, List, Bool, [], ◌++◌, length, sym, ◌∙◌, ap, subst, true, false, inl, inr, arith}
use Rattle.std.specs.Prelude.{IsTrue, Option, Some, Result, Ok, Err, OnOk, IfErr, drop, take}
use Rattle.std.specs.Io.KnownBytes.{Appends}
use Rattle.std.proofs.lemmas.Bool.{cases_Bool}
use Rattle.std.proofs.lemmas.List.{take_all}
use Rattle.base_types.specs.Counts.{HasRisen}
use Rattle.pktline_core.specs.LinkState.{LinkState}
use Rattle.edge_links.specs.Door.{DoorState}
use Rattle.ref_store.specs.Refs.{Name}
use Rattle.hub_history.specs.declared.entry.Entry.{Entry}
use Rattle.hub_history.specs.History.{IsLegal}
use Rattle.hub.specs.Hub.{HubView}
use Rattle.record_file.specs.Crashes.{Leaves, LeavesOnly}
use Rattle.record_file.specs.Disks.{DiskState}
use Rattle.record_file.specs.Files.{IsDurable, WriterState}
use Rattle.record_file.specs.Records.{Holds}
use Rattle.hub_journal.specs.Events.{bodies_in, head_for}
use Rattle.hub_journal.specs.Recovery.{AreEventsOf, IsNoJournal, ReportsFaults}
use Rattle.hub_journal.specs.declared.open_fault.OpenFault.{OpenFault}
use Rattle.hub_journal.specs.declared.open_fault.OpenFault.TheVariants as refusal
use Rattle.hub_journal.proofs.JournalLemmas.{weaker}
use Rattle.lasting_events.specs.Lasting.{lasting}
use Rattle.lasting_events.proofs.LastingLemmas.{lasting_first}
use Rattle.session_workers.specs.declared.post.Post.{Post}
use Rattle.session_workers.specs.ServesAll.{ServesAll}
use Rattle.shell_program.specs.Protocols.{meaning_of}
use Rattle.shell_program.specs.declared.protocols.ServerProtocol.{ServerProtocol}
use Rattle.shell_program.specs.Keep.{EndsUnopened, IsStored}
use Rattle.shell_program.specs.Serve.{StopsPrinting, served_line}
use Rattle.shell_program.specs.declared.script.ScriptFault.{ScriptFault}
use Rattle.shell_program.specs.declared.status.Status.{Status}
use Rattle.stored_hub.specs.Stored.{ChangeNothing, ContinuesStored, GoesOnLasting, GoesOnStored, HasStored, HoldsLasting, KeepsLasting, StoredView, answered}
use Rattle.stored_hub.proofs.StoredLemmas as stored
use Rattle.stored_hub.proofs.StoredLemmas.{durable_leaves, none_behind_all, some_more}
use Rattle.host_program.specs.Host.{AsksNone, EndsHost, HostRun, Hosts, IsStoredSince, Prints, SharesNone, StoresChanges, StoresEvents, TellsFault, host_status, hub_of}

-- the journal over the hub that was recovered
abbrev pub first_view : HubView → ℕ → DiskState → StoredView
first_view hub end disk = record { hub = hub; start = length hub.log; written = length hub.log; store = record { stored = length hub.log; writer = record { end = end; broken = false }; disk = disk } }

grown : (modeled : Bool) (b last : StoredView) (after : GoesOnLasting modeled b last) → last.hub ≡ record { admin = b.hub.admin; log = b.hub.log ++ after.more }
grown modeled b last after = λ i. record { admin = after.admin i; log = after.grows i }

module _ (modeled : Bool) (hub : HubView) (end : ℕ) (opened : DiskState) (last : StoredView) (has : HasStored last) (on : GoesOnStored modeled (first_view hub end opened) last)
    (durable : IsTrue modeled → IsDurable (head_for hub.admin) (bodies_in hub.log) end opened.file) where
  abbrev first : ℕ
  first = length hub.log

  -- what was in the file at first is as it was
  first_is : lasting first (take first hub.log) ≡ hub.log
  first_is = ap (lasting first) (take_all first hub.log (omega arith)) ∙ lasting_first first hub.log (omega arith)

  whole : IsTrue modeled → IsDurable (head_for hub.admin) (bodies_in (lasting first (take first hub.log))) end opened.file
  whole t = subst (λ (l : List Entry). IsDurable (head_for hub.admin) (bodies_in l) end opened.file) (sym first_is) (durable t)

  running : IsTrue modeled → KeepsLasting (first_view hub end opened)
  running t = record {
    within = omega arith;
    durable = λ unbroken. whole t;
    leaves = durable_leaves hub.admin first first hub.log first end opened.file (omega arith) (omega arith) (none_behind_all hub.log first first (omega arith)) (whole t);
  }

  has_risen : last.store.writer.broken ≡ true → HasRisen opened.disk_faults last.store.disk.disk_faults
  has_risen broken = elim (on.on.fault broken) [
    | inl first ↦ let clash : false ≡ true = first in absurd cc
    | inr risen ↦ risen
  ]

  pub tells_fault : (b : Bool) → b ≡ last.store.writer.broken → TellsFault b opened last.store.disk
  tells_fault true is = has_risen (sym is)
  tells_fault false is = on.on.no_fault (sym is)

  all_stored : last.store.writer.broken ≡ false → (last.store.stored ≡ length last.hub.log) × (IsTrue modeled → StoresChanges hub.admin first last.hub.log last.store.disk.file)
  all_stored unbroken = (
    has.whole unbroken,
    λ t. record {
      count = last.written;
      least = subst (λ (n : ℕ). n ≤ last.written) on.on.start has.first;
      there = omega (arith, has.written, has.answered);
      unchanged = subst (λ (l : List Entry). ChangeNothing (drop last.written l)) (take_all last.store.stored last.hub.log (omega (arith, has.whole unbroken))) has.unchanged;
      stored = record {
        end = last.store.writer.end;
        durable =
            subst (λ (n : ℕ). IsDurable (head_for hub.admin) (bodies_in (lasting n (take last.written last.hub.log))) last.store.writer.end last.store.disk.file) on.on.start
            (subst (λ (a : Name). IsDurable (head_for a) (bodies_in (lasting last.start (take last.written last.hub.log))) last.store.writer.end last.store.disk.file) on.on.admin ((on.on.runs t (running t)).durable unbroken));
      };
    },
  )

  all : (HasRisen opened.disk_faults last.store.disk.disk_faults → ⊥) → (last.store.stored ≡ length last.hub.log) × (IsTrue modeled → StoresChanges hub.admin first last.hub.log last.store.disk.file)
  all none = elim (cases_Bool last.store.writer.broken) [
    | inl broken ↦ absurd (none (has_risen broken))
    | inr unbroken ↦ all_stored unbroken
  ]

  in_last : (b : StoredView) → GoesOnLasting modeled b last → (least : ℕ) (file : List ℕ) → least ≤ length b.hub.log → HoldsLasting b.hub.admin b.start b.hub.log least file → HoldsLasting hub.admin first last.hub.log least file
  in_last b after least file within some =
      subst (λ (n : ℕ). HoldsLasting hub.admin n last.hub.log least file) (sym after.start ∙ on.on.start)
      (subst (λ (a : Name). HoldsLasting a b.start last.hub.log least file) on.on.admin
      (subst (λ (h : HubView). HoldsLasting h.admin b.start h.log least file) (sym (grown modeled b last after)) (some_more b.hub.admin b.start b.hub.log after.more least least file (omega arith) within some)))

  moment : IsTrue modeled → (count : ℕ) → first ≤ count → count ≤ last.store.stored → IsStoredSince hub.admin last.hub.log first count opened.file last.store.disk.file
  moment t count least most =
      let by = on.moments count least most in
      record {
        moment = by.between.store.disk.file;
        until =
            weaker (HoldsLasting by.between.hub.admin by.between.start by.between.hub.log first) (HoldsLasting hub.admin first last.hub.log first) opened.file by.between.store.disk.file
            (λ file some. in_last by.between by.after first file (omega (arith, by.before.stored, (by.before.runs t (running t)).within)) some) (by.before.any_moment t (running t));
        since =
            subst (λ (n : ℕ). LeavesOnly (HoldsLasting hub.admin first last.hub.log n) by.between.store.disk.file last.store.disk.file) by.stored
            (subst (λ (n : ℕ). LeavesOnly (HoldsLasting hub.admin n last.hub.log by.between.store.stored) by.between.store.disk.file last.store.disk.file) on.on.start
            (subst (λ (a : Name). LeavesOnly (HoldsLasting a last.start last.hub.log by.between.store.stored) by.between.store.disk.file last.store.disk.file) on.on.admin (by.after.any_moment t (by.before.runs t (running t)))));
      }

  pub stores_events : StoresEvents hub.admin modeled opened last.store.disk hub.log last.hub.log last.store.stored
  stores_events = record { least = on.on.stored; within = has.answered; most = has.last; all = all; moments = moment }

-- a hub over a journal that was opened
pub is_first : (hub : HubView) (writer : WriterState) (disk : DiskState) (first : StoredView) → first.hub ≡ hub → first.start ≡ length hub.log → first.written ≡ length hub.log → first.store.stored ≡ length hub.log → first.store.writer ≡ writer → writer.broken ≡ false → first.store.disk ≡ disk
    → first ≡ first_view hub writer.end disk
is_first hub writer disk first hub_is start written stored writer_is unbroken disk_is =
    let whole : first.store.writer ≡ record { end = writer.end; broken = false } = writer_is ∙ (λ i. record { end = writer.end; broken = unbroken i }) in
    λ i. record { hub = hub_is i; start = start i; written = written i; store = record { stored = stored i; writer = whole i; disk = disk_is i } }

first_answered : (hub : HubView) (end : ℕ) (disk : DiskState) → answered (first_view hub end disk) ≡ hub_of hub.admin hub.log
first_answered hub end disk = ap (λ (l : List Entry). hub_of hub.admin l) (take_all (length hub.log) hub.log (omega arith))

pub line_printed : (sink sink' : LinkState) (line : List ℕ) (printed : Result (Unit {0}) ScriptFault) → OnOk printed (Appends sink.written sink'.written line) → IfErr printed (StopsPrinting sink sink' line) → Prints sink sink' line printed
line_printed sink sink' line (Ok unit) ok err = ok
line_printed sink sink' line (Err why) ok err = err

-- the posts were served
pub hosted : {L D G H : Type 0} (state : L → LinkState) (door : D → DoorState L) (each : ℕ) (old new : List (Post D G H ServerProtocol)) (modeled : Bool) (hub : HubView) (writer : WriterState) (opened : DiskState) (first last : StoredView)
    (disk' : Option DiskState) (sink sink' : LinkState) (log : List Entry) (count : ℕ) (status : Status) (sessions : ℕ) (failed lacked broken : Bool) (printed : Result (Unit {0}) ScriptFault)
    → first.hub ≡ hub → first.start ≡ length hub.log → first.written ≡ length hub.log → first.store.stored ≡ length hub.log → first.store.writer ≡ writer → writer.broken ≡ false → first.store.disk ≡ opened
    → (IsTrue modeled → IsDurable (head_for hub.admin) (bodies_in hub.log) writer.end opened.file) → HasStored last → ContinuesStored modeled first last
    → ServesAll meaning_of state door true (answered first) (answered last) old new each sessions failed lacked
    → log ≡ last.hub.log → count ≡ last.store.stored → disk' ≡ Some last.store.disk → broken ≡ last.store.writer.broken
    → Prints sink sink' (served_line sessions count) printed → status ≡ host_status broken printed failed lacked
    → Hosts state door hub.admin each old new (record { modeled = modeled; disk = opened; disk' = disk'; sink = sink; sink' = sink'; log = log; stored = count; status = status }) opened hub.log
hosted state door each old new modeled hub writer opened first last disk' sink sink' log count status sessions failed lacked broken printed first_is start written_is stored_is writer_is unbroken disk_is durable has goes serves log_is count_is back broken_is prints status_is =
    let same = is_first hub writer opened first first_is start written_is stored_is writer_is unbroken disk_is in
    let on : GoesOnStored modeled (first_view hub writer.end opened) last = subst (λ (j : StoredView). GoesOnStored modeled j last) same (goes first (stored.stays modeled first)) in
    record {
      sessions = sessions;
      failed = failed;
      lacked = lacked;
      serves =
          subst (λ (h : HubView). ServesAll meaning_of state door true (hub_of hub.admin hub.log) h old new each sessions failed lacked) (λ i. record { admin = on.on.admin i; log = take (sym count_is i) (sym log_is i) })
          (subst (λ (h : HubView). ServesAll meaning_of state door true h (answered last) old new each sessions failed lacked) (ap answered same ∙ first_answered hub writer.end opened) serves);
      disk' = last.store.disk;
      back = back;
      stores =
          subst (λ (n : ℕ). StoresEvents hub.admin modeled opened last.store.disk hub.log log n) (sym count_is)
          (subst (λ (l : List Entry). StoresEvents hub.admin modeled opened last.store.disk hub.log l last.store.stored) (sym log_is) (stores_events modeled hub writer.end opened last has on durable));
      broken = broken;
      faults = tells_fault modeled hub writer.end opened last has on durable broken broken_is;
      printed = printed;
      prints = prints;
      status = status_is;
    }

-- the fault, without the answer that it was in
reported : (T : Type 0) (f : OpenFault) (old new : DiskState) → ReportsFaults {T = T} (Err f) old new → ReportsFaults {T = Unit {0}} (Err f) old new
reported T refusal.NotAJournal old new told = told
reported T refusal.OtherAdmin old new told = told
reported T (refusal.BadRecord offset) old new told = told
reported T refusal.DiskFault old new told = told
reported T refusal.NoMemory old new told = told

module _ {L D G H : Type 0} (state : L → LinkState) (door : D → DoorState L) (admin : Name) (each : ℕ) (old new : List (Post D G H ServerProtocol)) (run : HostRun) where
  -- what is said of the end says nothing of the disk before it was opened
  none_behind : (opened : DiskState) → SharesNone state door admin each old new (record run { disk = opened }) → SharesNone state door admin each old new run
  none_behind opened none = record { gone = none.gone; status = none.status; unprinted = none.unprinted; unasked = none.unasked; no_log = none.no_log }

  hosts_behind : (opened : DiskState) (before : List Entry) → Hosts state door admin each old new (record run { disk = opened }) opened before → Hosts state door admin each old new run opened before
  hosts_behind opened before hosts = record {
    sessions = hosts.sessions;
    failed = hosts.failed;
    lacked = hosts.lacked;
    serves = hosts.serves;
    disk' = hosts.disk';
    back = hosts.back;
    stores = hosts.stores;
    broken = hosts.broken;
    faults = hosts.faults;
    printed = hosts.printed;
    prints = hosts.prints;
    status = hosts.status;
  }

  ends_behind : (opened : DiskState) (before : List Entry) → SharesNone state door admin each old new (record run { disk = opened }) ⊎ Hosts state door admin each old new (record run { disk = opened }) opened before
      → SharesNone state door admin each old new run ⊎ Hosts state door admin each old new run opened before
  ends_behind opened before (inl none) = inl (none_behind opened none)
  ends_behind opened before (inr hosts) = inr (hosts_behind opened before hosts)

  pub refused : (T : Type 0) (f : OpenFault) (disk' : DiskState) → run.disk' ≡ Some disk' → (IsTrue run.modeled → IsNoJournal admin run.disk.file.content f) → ReportsFaults {T = T} (Err f) run.disk disk'
      → (IsTrue run.modeled → (bodies : List (List ℕ)) → Leaves (Holds (head_for admin) bodies) run.disk.file.pending → LeavesOnly (Holds (head_for admin) bodies) run.disk.file disk'.file) → EndsUnopened f run.sink run.sink' run.status
      → AsksNone state door admin each old new run → run.log ≡ [] → EndsHost state door admin each old new run
  refused T f disk' back why faults any_moment ends unasked no_log =
      inl (record { fault = f; disk' = disk'; back = back; why = why; faults = reported T f run.disk disk' faults; any_moment = any_moment; ends = ends; unasked = unasked; no_log = no_log })

  -- behind the journal of a hub that was recovered
  pub ran : (hub : HubView) (end : ℕ) (opened : DiskState) → hub.admin ≡ admin → IsLegal hub.admin hub.log → (IsTrue run.modeled → AreEventsOf admin hub.log run.disk.file.content) → opened.disk_faults ≡ run.disk.disk_faults
      → (IsTrue run.modeled → IsDurable (head_for hub.admin) (bodies_in hub.log) end opened.file)
      → (IsTrue run.modeled → (bodies : List (List ℕ)) → Leaves (Holds (head_for admin) bodies) run.disk.file.pending → LeavesOnly (Holds (head_for admin) bodies) run.disk.file opened.file)
      → SharesNone state door hub.admin each old new (record run { disk = opened }) ⊎ Hosts state door hub.admin each old new (record run { disk = opened }) opened hub.log → EndsHost state door admin each old new run
  ran hub end opened same legal events faults durable opening ends = inr (record {
    before = hub.log;
    opened = opened;
    opens = record {
      legal = subst (λ (a : Name). IsLegal a hub.log) same legal;
      events = events;
      no_fault = faults;
      stored = λ t. record { end = end; durable = subst (λ (a : Name). IsDurable (head_for a) (bodies_in hub.log) end opened.file) same (durable t) };
      opening = opening;
    };
    ends =
        ends_behind opened hub.log
        (subst (λ (a : Name). SharesNone state door a each old new (record run { disk = opened }) ⊎ Hosts state door a each old new (record run { disk = opened }) opened hub.log) same ends);
  })
