-- `load`: a generated installation, whose sessions are run one after the other at a new hub, and the line
-- that is printed of them.
use Rattle.std.specs.Prelude.{◌≡◌, ◌⊎◌, ℕ, zero, suc, ◌+◌, ◌-◌, ◌^◌, min, Bool, true, false, not, ◌||◌, List, [], ◌++◌, count_by, codes, decimal}
use Rattle.std.specs.List.{sum_by}
use Rattle.std.specs.Io.KnownBytes.{Appends}
use Rattle.base_types.specs.Counts.{HasRisen}
use Rattle.pktline_core.specs.LinkState.{LinkState}
use Rattle.git_object.specs.declared.object_id.ObjectId.{ObjectId}
use Rattle.ref_store.specs.Refs.{Name, value}
use Rattle.hub_history.specs.declared.entry.EnterKept.{EnterKept}
use Rattle.hub_history.specs.declared.entry.EnterKept.TheVariants as kept
use Rattle.hub_history.specs.declared.entry.Entry.{Entry}
use Rattle.hub_history.specs.declared.entry.Event.{Event}
use Rattle.hub_history.specs.declared.entry.Event.TheVariants.{Entered, Pushed, Permitted, Looked}
use Rattle.hub_history.specs.declared.outcome.Outcome.{Outcome}
use Rattle.hub_history.specs.declared.outcome.Outcome.TheVariants as outcome
use Rattle.hub_history.specs.History.{replay}
use Rattle.hub_history.specs.Push.{is_done}
use Rattle.hub_history.specs.State.{ref_count, repository_at}
use Rattle.interaction_tree.specs.Traces.{Begins}
use Rattle.session_core.specs.Recorded.{AsRecorded, Recorded}
use Rattle.installation.specs.Conf.{repo_name}
use Rattle.installation.specs.Sessions.{first_input, ref_of, visit_at, visit_input}
use Rattle.installation.specs.declared.sessions.Visit.{Visit}
use Rattle.shell_program.specs.Script.{served_alone}
use Rattle.shell_program.specs.RunningScripts.{MayLackAfter, WritesPart}
use Rattle.shell_program.specs.declared.status.Status.{Status}
use Rattle.shell_program.specs.declared.status.Status.TheVariants.{Done, OutputFault, NoMemory}

-- I. The sessions

-- the admin of the hub
abbrev pub loader : Name
loader = codes "admin"

-- the value of a visit's ref behind a log; a visit pushes from it
abbrev pub value_behind : List Entry → Visit → ObjectId
value_behind log visit = value (repository_at (replay loader log) (repo_name visit.repo)).refs (ref_of visit.on_master)

-- The log behind the first session and so many visits, each at the log that the one before it left.
unfoldable pub log_behind : Recorded → ℕ → ℕ → ℕ → List Entry
log_behind recorded count start zero = (served_alone recorded loader (first_input count start) []).log
log_behind recorded count start (suc number) =
    let log = log_behind recorded count start number in
    let visit = visit_at count start number in
    (served_alone recorded loader (visit_input number visit (value_behind log visit)) log).log

-- this is the log behind all sessions, as many visits as there are repositories, where the hub answers as it
-- records
abbrev pub IsLoaded : ℕ → ℕ → List Entry → Type 0
IsLoaded count start log = AsRecorded loader log (λ recorded. log ≡ log_behind recorded count start count)

-- it is a beginning of that
abbrev pub BeginsLoad : ℕ → ℕ → List Entry → Type 0
BeginsLoad count start log = AsRecorded loader log (λ recorded. Begins log (log_behind recorded count start count))

-- II. The line

-- the outcomes that an entry records
abbrev pub outcomes_of : Event → List Outcome
outcomes_of (Entered user repo want answer) = []
outcomes_of (Pushed place pack commands atomic outcomes made) = outcomes
outcomes_of (Permitted user repo change answer) = []
outcomes_of (Looked user) = []

-- a command was denied by the rules
abbrev pub is_denied : Outcome → Bool
is_denied (outcome.Denied verdict letter name) = true
is_denied (outcome.DeniedNow verdict letter name) = true
is_denied other = false

-- it was refused otherwise
abbrev pub is_refused : Outcome → Bool
is_refused o = not (is_done o || is_denied o)

-- an opening that was denied counts as one
abbrev pub kept_denied : EnterKept → ℕ
kept_denied (kept.Denied verdict) = 1
kept_denied other = 0

abbrev pub openings_denied : Event → ℕ
openings_denied (Entered user repo want answer) = kept_denied answer
openings_denied (Pushed place pack commands atomic outcomes made) = 0
openings_denied (Permitted user repo change answer) = 0
openings_denied (Looked user) = 0

abbrev pub done_in : List Entry → ℕ
done_in log = sum_by (λ (e : Entry). count_by is_done (outcomes_of e.event)) log

abbrev pub denied_in : List Entry → ℕ
denied_in log = sum_by (λ (e : Entry). openings_denied e.event + count_by is_denied (outcomes_of e.event)) log

abbrev pub refused_in : List Entry → ℕ
refused_in log = sum_by (λ (e : Entry). count_by is_refused (outcomes_of e.event)) log

-- a count in decimal; 2^64 - 1 stands for more
abbrev pub counted : ℕ → List ℕ
counted n = decimal (min n (2 ^ 64 - 1))

-- sessions, outcomes by kind, and the refs of all repositories
unfoldable pub load_line : ℕ → ℕ → List Entry → List ℕ
load_line count start log =
    (codes "load " ++ decimal count)
    ++ (codes " " ++ decimal start)
    ++ (codes ": sessions " ++ decimal (count + 1))
    ++ (codes ", done " ++ counted (done_in log))
    ++ (codes ", denied " ++ counted (denied_in log))
    ++ (codes ", refused " ++ counted (refused_in log))
    ++ (codes ", refs " ++ counted (ref_count (replay loader log)))
    ++ codes "\n"

-- III. The end

-- What holds where `load` ended with this status; it ends with no other. Where memory ran out before the
-- line, a beginning of the log was made and nothing was printed; else all sessions were run, and the line was
-- printed, or a beginning of it, not all.
abbrev pub EndsLoad : ℕ → ℕ → LinkState → LinkState → List Entry → Status → Type 0
EndsLoad count start sink sink' log Done = IsLoaded count start log × Appends sink.written sink'.written (load_line count start log)
EndsLoad count start sink sink' log OutputFault = IsLoaded count start log × WritesPart sink sink' (load_line count start log) × HasRisen sink.write_faults sink'.write_faults
EndsLoad count start sink sink' log NoMemory =
    (BeginsLoad count start log × (sink' ≡ sink)) ⊎ (IsLoaded count start log × ((part : WritesPart sink sink' (load_line count start log)) × MayLackAfter sink part.bytes))
EndsLoad count start sink sink' log other = ⊥
