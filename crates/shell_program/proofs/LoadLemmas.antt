-- The sessions of a generated installation, one more, and the end.
use Rattle.std.proofs.Common.{◌≡◌, ◌⊎◌, inl, inr, ℕ, zero, suc, ◌+◌, ◌≤◌, ◌<◌, IsTrue, Bool, true, false, List, [], ◌++◌, length, Option, Some, None, Result, Ok, Err, ◌-◌, refl, sym, ◌∙◌, ap, subst, arith, add-zero}
use Rattle.std.specs.Prelude.{OnErr, OnOk, IfErr}
use Rattle.std.specs.Result.{is_err}
use Rattle.std.proofs.lemmas.List.{append-nil}
use Rattle.std.proofs.KnownBytes.{Appends-nil}
use Rattle.std.specs.Io.KnownBytes.{Appends}
use Rattle.base_types.specs.Counts.{HasRisen}
use Rattle.pktline_core.specs.LinkState.{LinkState}
use Rattle.std.specs.Option.{option_map}
use Rattle.std.specs.FinMap.{get, get-empty}
use Rattle.hub_history.specs.declared.entry.Entry.{Entry}
use Rattle.hub_history.specs.History.{replay}
use Rattle.hub_history.specs.State.{Repository, store_of}
use Rattle.ref_store.specs.Refs.{Name, zero_id}
use Rattle.hub.specs.Desk.{DeskView, known, known_alone}
use Rattle.hub.specs.Hub.{HubView, state_of}
use Rattle.interaction_tree.specs.Traces.{Begins, Failure, Failed}
use Rattle.interaction_tree.specs.Endings.{EndsAsDue, LacksMemory}
use Rattle.interaction_tree.specs.Growth.{GrowsBy, own_since}
use Rattle.session_core.specs.declared.end.SessionEnd.{SessionEnd}
use Rattle.session_core.specs.Recorded.{AsRecorded, Recorded}
use Rattle.session_core.specs.Rulebook.{ByRulebook}
use Rattle.session_core.proofs.RulebookLemmas.{recorded_before}
use Rattle.git_session.specs.Session.{session}
use Rattle.installation.specs.Conf.{repo_name}
use Rattle.installation.specs.Sessions.{first_input, visit_at, visit_input}
use Rattle.installation.specs.declared.sessions.Visit.{Visit}
use Rattle.shell_program.specs.Load.{BeginsLoad, EndsLoad, IsLoaded, load_line, loader, log_behind, value_behind}
use Rattle.shell_program.specs.RunningLoads.{HasLoaded, LacksInput, ServesInput, StopsLoading}
use Rattle.shell_program.specs.RunningScripts.{Serves}
use Rattle.shell_program.specs.Script.{end_word, reply_text, served_alone}
use Rattle.shell_program.specs.Serve.{StopsPrinting, new_hub}
use Rattle.shell_program.specs.Status.{status_number, status_of}
use Rattle.shell_program.specs.declared.script.ScriptFault.{ScriptFault}
use Rattle.shell_program.specs.declared.script.ScriptFault.TheVariants as fault
use Rattle.shell_program.specs.declared.status.Status.{Status}
use Rattle.shell_program.specs.declared.status.Status.TheVariants.{Done, OutputFault, NoMemory}
use Rattle.shell_program.proofs.ScriptLemmas.{before_served, grows_more, grows_on, served_grows, serves, session_lacks}

-- I. One session

pub input_served : (a b : LinkState) (old new : DeskView) (input out word : List ℕ) (end : SessionEnd) → a.left ≡ Some input → a.written ≡ Some [] → b.written ≡ Some out → IsTrue old.alone
    → GrowsBy old new (own_since old new) → ByRulebook old.admin new.seen (λ book. EndsAsDue a b (own_since old new) (session book old.admin) end) → word ≡ end_word end → ServesInput (known old) (known new) input
input_served a b old new input out word end left empty written alone grows ends word_is =
    let served = serves a b old new 0 input out word (reply_text 0 word out) end left empty written alone grows ends word_is refl in
    record { admin = served.admin; log = served.seen }

pub input_lacks : (a b : LinkState) (old new : DeskView) (input : List ℕ) → a.left ≡ Some input → IsTrue old.alone → GrowsBy old new (own_since old new)
    → ByRulebook old.admin new.seen (λ book. LacksMemory a b (own_since old new) (session book old.admin)) → LacksInput (known old) (known new) input
input_lacks a b old new input left alone grows lacks =
    let lack = session_lacks a b old new input left alone grows lacks in
    record { admin = ap (λ (d : DeskView). d.admin) grows.new_is; goes_on = lack.goes_on; within = lack.within }

-- a desk that was made of a hub, and given back
pub at_hub : (P : HubView → HubView → Type 0) (hub hub' : HubView) (old new : DeskView) → old ≡ known_alone (length hub.log) hub → hub' ≡ known new → P (known old) (known new) → P hub hub'
at_hub P hub hub' old new old_is new_is p = subst (λ (h : HubView). P hub h) (sym new_is) (subst (λ (d : DeskView). P (known d) (known new)) old_is p)

-- what a call's answer says, by whether it is a fault
pub when_ok : {E P : Type 0} (answer : Result (Unit {0}) E) (failed : Bool) → failed ≡ is_err answer → failed ≡ false → OnOk answer P → P
when_ok (Ok unit) failed told is on = on
when_ok (Err e) failed told is on = absurd (let gone : true ≡ false = sym told ∙ is in cc)

pub when_err : {E P : Type 0} (answer : Result (Unit {0}) E) (failed : Bool) → failed ≡ is_err answer → failed ≡ true → OnErr answer P → P
when_err (Ok unit) failed told is on = absurd (let gone : false ≡ true = sym told ∙ is in cc)
when_err (Err e) failed told is on = on

-- II. A ref's value

none_there : (found : Option Repository) → option_map store_of found ≡ None → found ≡ None
none_there None none = refl
none_there (Some repository) none = absurd cc

-- in a repository that isn't there a ref has no value
pub value_nowhere : (hub : HubView) (visit : Visit) (name : List ℕ) → hub.admin ≡ loader → name ≡ repo_name visit.repo → None ≡ option_map store_of (get (state_of hub).repositories name) → zero_id ≡ value_behind hub.log visit
value_nowhere hub visit name admin name_is none =
    let there : get (replay loader hub.log).repositories (repo_name visit.repo) ≡ None = subst (λ a. get (replay a hub.log).repositories (repo_name visit.repo) ≡ None) admin (subst (λ n. get (state_of hub).repositories n ≡ None) name_is (none_there _ (sym none))) in
    rw (there, get-empty) refl

-- III. One more

module _ (count start : ℕ) where
  -- each visit's log goes on from the one before it
  next_begins : (recorded : Recorded) (number : ℕ) → Begins (log_behind recorded count start number) (log_behind recorded count start (suc number))
  unfolding log_behind
  next_begins recorded number =
      let log : List Entry = log_behind recorded count start number in
      let visit : Visit = visit_at count start number in
      served_grows recorded loader (visit_input number visit (value_behind log visit)) log

  log_begins : (recorded : Recorded) (number more : ℕ) → Begins (log_behind recorded count start number) (log_behind recorded count start (more + number))
  log_begins recorded number zero = ([], subst (λ (n : ℕ). log_behind recorded count start n ≡ log_behind recorded count start number ++ []) (omega arith) (sym (append-nil _)))
  log_begins recorded number (suc more) =
      subst (λ (n : ℕ). Begins (log_behind recorded count start number) (log_behind recorded count start n)) (omega arith)
      (grows_more _ _ _ (log_begins recorded number more) (next_begins recorded (more + number)))

  pub loaded_begins : (number : ℕ) → number ≤ count → (hub : HubView) → HasLoaded count start number hub → StopsLoading count start hub
  loaded_begins number within hub loaded = record {
    admin = loaded.admin;
    within = λ recorded of.
        subst (λ (n : ℕ). Begins hub.log (log_behind recorded count start n)) (omega arith)
        (subst (λ (l : List Entry). Begins l (log_behind recorded count start (count - number + number))) (sym (loaded.log recorded of)) (log_begins recorded number (count - number)));
  }

  pub new_begins : (hub : HubView) → hub ≡ new_hub loader → StopsLoading count start hub
  new_begins hub new = rw new (record { admin = refl; within = λ recorded of. (log_behind recorded count start count, refl) })

  pub loaded_first : (hub hub' : HubView) (input : List ℕ) → hub ≡ new_hub loader → input ≡ first_input count start → ServesInput hub hub' input → HasLoaded count start 0 hub'
  unfolding log_behind
  loaded_first hub hub' input new input_is served =
      let there : ServesInput (new_hub loader) hub' (first_input count start) = subst (λ (i : List ℕ). ServesInput (new_hub loader) hub' i) input_is (subst (λ (h : HubView). ServesInput h hub' input) new served) in
      record { admin = there.admin; log = there.log }

  -- what a session with a visit's input leads to
  behind_visit : Recorded → ℕ → Visit → List Entry → List Entry
  behind_visit recorded number visit log = (served_alone recorded loader (visit_input number visit (value_behind log visit)) log).log

  -- the log that a visit's session is due to leave, where the log before it is the one behind so many visits
  visit_due : (recorded : Recorded) (number : ℕ) (visit : Visit) (log : List Entry) (input : List ℕ) → visit ≡ visit_at count start number → input ≡ visit_input number visit (value_behind log visit)
      → log ≡ log_behind recorded count start number → (served_alone recorded loader input log).log ≡ log_behind recorded count start (suc number)
  unfolding log_behind behind_visit
  visit_due recorded number visit log input visit_is input_is log_is =
      ap (λ (i : List ℕ). (served_alone recorded loader i log).log) input_is
      ∙ ap (λ (l : List Entry). behind_visit recorded number visit l) log_is
      ∙ ap (λ (v : Visit). behind_visit recorded number v (log_behind recorded count start number)) visit_is

  pub loaded_next : (number : ℕ) (visit : Visit) (hub hub' : HubView) (input : List ℕ) → visit ≡ visit_at count start number → input ≡ visit_input number visit (value_behind hub.log visit)
      → HasLoaded count start number hub → ServesInput hub hub' input → HasLoaded count start (number + 1) hub'
  loaded_next number visit hub hub' input visit_is input_is loaded served =
      let due = subst (λ (a : Name). AsRecorded a hub'.log (λ recorded. hub'.log ≡ (served_alone recorded a input hub.log).log)) loaded.admin served.log in
      let one : suc number ≡ number + 1 = omega arith in
      record {
        admin = served.admin ∙ loaded.admin;
        log = λ recorded of.
            let next = due recorded of in
            let before = loaded.log recorded (before_served recorded loader input hub.log hub'.log next of) in
            subst (λ (n : ℕ). hub'.log ≡ log_behind recorded count start n) one (next ∙ visit_due recorded number visit hub.log input visit_is input_is before);
      }

  -- memory ran out in a session
  pub lacks_first : (hub hub' : HubView) (input : List ℕ) → hub ≡ new_hub loader → input ≡ first_input count start → LacksInput hub hub' input → StopsLoading count start hub'
  unfolding log_behind
  lacks_first hub hub' input new input_is lacks =
      let there : LacksInput (new_hub loader) hub' (first_input count start) = subst (λ (i : List ℕ). LacksInput (new_hub loader) hub' i) input_is (subst (λ (h : HubView). LacksInput h hub' input) new lacks) in
      record {
        admin = there.admin;
        within = λ recorded of.
            subst (λ (n : ℕ). Begins hub'.log (log_behind recorded count start n)) (add-zero count) (grows_more _ _ _ (there.within recorded of) (log_begins recorded zero count));
      }

  pub lacks_next : (number : ℕ) (visit : Visit) (hub hub' : HubView) (input : List ℕ) → number < count → visit ≡ visit_at count start number → input ≡ visit_input number visit (value_behind hub.log visit)
      → HasLoaded count start number hub → LacksInput hub hub' input → StopsLoading count start hub'
  lacks_next number visit hub hub' input less visit_is input_is loaded lacks =
      let due = subst (λ (a : Name). AsRecorded a hub'.log (λ recorded. Begins hub'.log (served_alone recorded a input hub.log).log)) loaded.admin lacks.within in
      let all : count - suc number + suc number ≡ count = omega arith in
      record {
        admin = lacks.admin ∙ loaded.admin;
        within = λ recorded of.
            let before = loaded.log recorded (recorded_before loader hub.log hub'.log recorded lacks.goes_on of) in
            let next : Begins hub'.log (log_behind recorded count start (suc number)) = subst (Begins hub'.log) (visit_due recorded number visit hub.log input visit_is input_is before) (due recorded of) in
            subst (λ (n : ℕ). Begins hub'.log (log_behind recorded count start n)) all (grows_more _ _ _ next (log_begins recorded (suc number) (count - suc number)));
      }

-- IV. The end

-- nothing of the line was printed, since there is no memory for it
pub line_unprinted : (sink : LinkState) (count start : ℕ) (log : List Entry) → StopsPrinting sink sink (load_line count start log) fault.NoMemory
unfolding load_line
line_unprinted sink count start log = (record { bytes = []; short = (load_line count start log, refl, omega arith); written = Appends-nil sink.written }, inl refl)

module _ (count start : ℕ) (sink sink' : LinkState) (log : List Entry) where
  ends_loaded : (printed : Result (Unit {0}) ScriptFault) → IsLoaded count start log
      → OnOk printed (Appends sink.written sink'.written (load_line count start log)) → IfErr printed (StopsPrinting sink sink' (load_line count start log))
      → EndsLoad count start sink sink' log (status_of printed)
  ends_loaded (Ok unit) loaded ok err = (loaded, ok)
  ends_loaded (Err fault.BadScript) loaded ok err = absurd err
  ends_loaded (Err fault.InputFault) loaded ok err = absurd err
  ends_loaded (Err fault.DiskFault) loaded ok err = absurd err
  ends_loaded (Err fault.OutputFault) loaded ok err = (loaded, err.0, err.1)
  ends_loaded (Err fault.NoMemory) loaded ok err = inr (loaded, err)

  pub load_ends : (hub : HubView) (printed : Result (Unit {0}) ScriptFault) (number : ℕ) → HasLoaded count start count hub → log ≡ hub.log → number ≡ status_number (status_of printed)
      → OnOk printed (Appends sink.written sink'.written (load_line count start hub.log)) → IfErr printed (StopsPrinting sink sink' (load_line count start hub.log))
      → (status : Status) × (number ≡ status_number status) × EndsLoad count start sink sink' log status
  load_ends hub printed number loaded log_is number_is ok err =
      let all : IsLoaded count start log = subst (IsLoaded count start) (sym log_is) loaded.log in
      (status_of printed, number_is, ends_loaded printed all (subst (λ (l : List Entry). OnOk printed (Appends sink.written sink'.written (load_line count start l))) (sym log_is) ok) (subst (λ (l : List Entry). IfErr printed (StopsPrinting sink sink' (load_line count start l))) (sym log_is) err))

-- memory ran out before the line
pub load_stops : (count start : ℕ) (sink : LinkState) (hub : HubView) (log : List Entry) (number : ℕ) → StopsLoading count start hub → log ≡ hub.log → number ≡ 4 → (status : Status) × (number ≡ status_number status) × EndsLoad count start sink sink log status
load_stops count start sink hub log number stops log_is four = (NoMemory, four, inl (subst (BeginsLoad count start) (sym log_is) stops.within, refl))
