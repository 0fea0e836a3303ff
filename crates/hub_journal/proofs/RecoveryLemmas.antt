-- Making a hub again of the records of a file.
use Rattle.std.proofs.Common.{◌≡◌, ◌⊎◌, inl, inr, ℕ, zero, suc, ◌+◌, ◌<◌, ◌≤◌, Bool, true, false, cond, ltb, eqb, List, [], ◌∷◌, ◌++◌, length, take, Option, None, Some, Ok, Err, refl, sym, ◌∙◌, ap, subst, arith, length-append}
use Rattle.std.specs.List.{slice_get}
use Rattle.std.specs.Ordering.{nat_cmp, is_eq}
use Rattle.std.proofs.lemmas.Bool.{eq-eqb, le-ltb}
use Rattle.std.proofs.lemmas.List.{length-map, map-append}
use Rattle.std.proofs.lemmas.Option.{slice_get_within}
use Rattle.git_object.specs.Content.{Content}
use Rattle.ref_store.specs.Refs.{Name}
use Rattle.ref_store.specs.declared.command.Command.{Command}
use Rattle.hub_history.specs.declared.entry.Entry.{Entry}
use Rattle.hub_history.specs.History.{IsLegal}
use Rattle.hub_history.specs.Requests.{Request, Enter, Push, Permit, Look}
use Rattle.hub.specs.Hub.{HubView}
use Rattle.record_file.specs.Crashes.{FileState, LeavesOnly, settled}
use Rattle.record_file.specs.Disks.{DiskState}
use Rattle.record_file.specs.Files.{IsDurable}
use Rattle.record_file.specs.Opening.{ChecksHead, IsStarted, ReportsFaults as Reports}
use Rattle.record_file.specs.Reading.{HasNoRecord, IsBadGate, IsClosedAt, IsFrontAt, IsReadTo, IsRecordAt, ReadsFront, ReadsNext}
use Rattle.record_file.specs.Records.{Holds, HoldsAllOrNone}
use Rattle.record_file.specs.declared.open_fault.OpenFault as records
use Rattle.record_file.specs.declared.open_fault.OpenFault.TheVariants as records_fault
use Rattle.record_file.specs.declared.stored_record.StoredRecord.{StoredRecord}
use Rattle.record_file.proofs.FoundLemmas.{holds_none}
use Rattle.record_file.proofs.OneReading.{goes_on, not_both, one_reading, read_whole}
use Rattle.record_file.proofs.OpenLemmas.{ends_at, opens, opens_group, read_from}
use Rattle.record_file.proofs.ReadLemmas.{reads_bad, reads_more}
use Rattle.event_record.specs.Bodies.{body_of, IsStorable}
use Rattle.event_record.specs.Fronts.{place_at}
use Rattle.hub_journal.specs.Events.{AreStorableEntries, bodies_in, body_in, head_for, magic}
use Rattle.hub_journal.specs.LastPushes.{FindsFront, TellsPushes, noted}
use Rattle.hub_journal.specs.Recovery.{AreEventsOf, HasBadEventAt, IsBadBody, IsBadRecordAt, IsForeseenBody, IsNoJournal, RefusesEvents, RefusesRecord, ReportsFaults, journal_fault}
use Rattle.hub_journal.specs.Replay.{IsAwaited, IsForeseen, IsImpossible, ReplayView, Replays, last_push}
use Rattle.hub_journal.specs.declared.open_fault.OpenFault.{OpenFault}
use Rattle.hub_journal.specs.declared.open_fault.OpenFault.TheVariants as fault
use Rattle.hub_journal.proofs.ReplayLemmas.{is_equal, key_is, last_or_before, some_is}

-- ---- one record

pub same_admin : (old new : HubView) (caller : ℕ) (request : Request) → Replays old new caller request → new.admin ≡ old.admin
same_admin old new caller request replays = ap (λ (h : HubView). h.admin) replays.grows

pub one_body_more : (old new : HubView) (caller : ℕ) (request : Request) (body : List ℕ) → Replays old new caller request → body ≡ body_of caller request → bodies_in new.log ≡ bodies_in old.log ++ body ∷ []
one_body_more old new caller request body replays is =
    let e : Entry = record { caller = caller; event = replays.event } in
    ap (λ (h : HubView). bodies_in h.log) replays.grows ∙ map-append body_in old.log (e ∷ [])
    ∙ ap (λ (b : List ℕ). bodies_in old.log ++ b ∷ []) (ap (λ (r : Request). body_of caller r) replays.asks ∙ sym is)

pub bad_bytes : (replay : ReplayView) (its : StoredRecord) (bytes : List ℕ) → bytes ≡ its.body → ((caller : ℕ) (request : Request) → IsStorable caller request → bytes ≡ body_of caller request → ⊥) → RefusesRecord replay its (fault.BadRecord its.offset)
bad_bytes replay its bytes is none = (refl, λ foreseen. inl (λ caller request storable spells. none caller request storable (is ∙ spells)))

-- the front of a push's body says after which opening it is
abbrev pub FrontTells : Type 0
FrontTells = (caller place : ℕ) (pack : List Content) (commands : List Command) (atomic : Bool) → IsStorable caller (Push place pack commands atomic) → place_at (take 17 (body_of caller (Push place pack commands atomic))) ≡ Some place

is_foreseen : FrontTells → (replay : ReplayView) (caller : ℕ) (request : Request) (body : List ℕ) → IsStorable caller request → body ≡ body_of caller request → IsForeseenBody replay body → IsForeseen replay request
is_foreseen tells replay caller (Push place pack commands atomic) body storable is foreseen = foreseen place (ap (λ (l : List ℕ). place_at (take 17 l)) is ∙ tells caller place pack commands atomic storable)
is_foreseen tells replay caller (Enter user repo want) body storable is foreseen = tt
is_foreseen tells replay caller (Permit user repo change) body storable is foreseen = tt
is_foreseen tells replay caller (Look user) body storable is foreseen = tt

pub bad_event : FrontTells → (replay : ReplayView) (its : StoredRecord) (bytes : List ℕ) (caller : ℕ) (request : Request) → bytes ≡ its.body → IsStorable caller request → bytes ≡ body_of caller request → (IsForeseen replay request → IsImpossible replay.hub request)
    → RefusesRecord replay its (fault.BadRecord its.offset)
bad_event tells replay its bytes caller request is storable spells impossible = (
  refl,
  λ foreseen. inr (record {
    caller = caller;
    request = request;
    storable = storable;
    spells = sym is ∙ spells;
    impossible = impossible (is_foreseen tells replay caller request its.body storable (sym is ∙ spells) foreseen);
  }),
)

-- ---- after which openings there are pushes

-- each push among these bodies is foreseen
abbrev pub AreForeseen : (ℕ → Option ℕ) → List (List ℕ) → Type 0
AreForeseen uses bodies = (i : ℕ) (body : List ℕ) (opening : ℕ) → slice_get bodies i ≡ Some body → place_at (take 17 body) ≡ Some opening → IsAwaited uses i opening

-- so many records were read, and their pushes are foreseen
pub record HasSeen (head file : List ℕ) (place offset : ℕ) (uses : ℕ → Option ℕ) : Type 0 where
  pub bodies : List (List ℕ)
  pub count : length bodies ≡ place
  pub read : IsReadTo head bodies file offset
  pub foreseen : AreForeseen uses bodies

pub seen_none : (head file : List ℕ) (offset : ℕ) (uses : ℕ → Option ℕ) → IsReadTo head [] file offset → HasSeen head file 0 offset uses
seen_none head file offset uses r = record { bodies = []; count = refl; read = r; foreseen = λ i body opening there is. absurd cc }

equal_self : (a : ℕ) → is_eq (nat_cmp a a) ≡ true
equal_self a = is_equal (ltb a a) (eqb a a) (le-ltb a a (omega arith)) (eq-eqb a a refl)

-- one more record was met
module _ (place : ℕ) (old new : ℕ → Option ℕ) (front : Option ℕ) (notes : (q : ℕ) → new q ≡ noted front place old q) where
  -- what was awaited still is
  awaited_by : (o : Option ℕ) → front ≡ o → (i opening : ℕ) → i ≤ place → IsAwaited old i opening → IsAwaited new i opening
  awaited_by None is i opening le was = record { last = was.last; known = notes opening ∙ ap (λ (p : Option ℕ). noted p place old opening) is ∙ was.known; later = was.later }
  awaited_by (Some here) is i opening le was = by (is_eq (nat_cmp here opening)) refl where
    noted_is : new opening ≡ cond (is_eq (nat_cmp here opening)) (Some place) (old opening)
    noted_is = notes opening ∙ ap (λ (p : Option ℕ). noted p place old opening) is

    by : (b : Bool) → is_eq (nat_cmp here opening) ≡ b → IsAwaited new i opening
    by true same = record { last = place; known = noted_is ∙ ap (λ (b : Bool). cond b (Some place) (old opening)) same; later = le }
    by false other = record { last = was.last; known = noted_is ∙ ap (λ (b : Bool). cond b (Some place) (old opening)) other ∙ was.known; later = was.later }

  awaited_here : (opening : ℕ) → front ≡ Some opening → IsAwaited new place opening
  awaited_here opening is = record {
    last = place;
    known = notes opening ∙ ap (λ (p : Option ℕ). noted p place old opening) is ∙ ap (λ (b : Bool). cond b (Some place) (old opening)) (equal_self opening);
    later = omega arith;
  }

  pub foreseen_more : (bodies : List (List ℕ)) (body : List ℕ) → length bodies ≡ place → front ≡ place_at (take 17 body) → AreForeseen old bodies → AreForeseen new (bodies ++ body ∷ [])
  foreseen_more bodies body count its foreseen i found opening there is =
      elim (last_or_before bodies body found i there) [
        | inl before ↦ awaited_by front refl i opening (omega (arith, slice_get_within bodies i found before, count)) (foreseen i found opening before is)
        | inr last ↦ subst (λ (n : ℕ). IsAwaited new n opening) (sym (last.0 ∙ count)) (awaited_here opening (its ∙ ap (λ (l : List ℕ). place_at (take 17 l)) last.1 ∙ is))
      ]

pub seen_more : (head file : List ℕ) (place offset next : ℕ) (old new : ℕ → Option ℕ) (front : List ℕ) → IsFrontAt 17 file offset front next → ((q : ℕ) → new q ≡ noted (place_at front) place old q) → HasSeen head file place offset old → HasSeen head file (place + 1) next new
seen_more head file place offset next old new front at notes seen = record {
  bodies = seen.bodies ++ at.body ∷ [];
  count = length-append seen.bodies (at.body ∷ []) ∙ omega (arith, seen.count);
  read = reads_more head seen.bodies file at.body offset next seen.read at.there;
  foreseen = foreseen_more place old new (place_at front) notes seen.bodies at.body seen.count (ap place_at at.front_is) seen.foreseen;
}

there_at : (xs : List (List ℕ)) (x : List ℕ) (ys : List (List ℕ)) → slice_get (xs ++ x ∷ ys) (length xs) ≡ Some x
there_at [] x ys = refl
there_at (y ∷ xs) x ys = there_at xs x ys

-- where all records were met, all pushes are foreseen
pub tells_pushes : (head file : List ℕ) (place end : ℕ) (uses : ℕ → Option ℕ) → HasSeen head file place end uses → HasNoRecord file end → TellsPushes head file uses
tells_pushes head file place end uses seen none bodies body offset next opening r at is =
    let on = goes_on head file seen.bodies bodies end offset next body seen.read none r at in
    seen.foreseen (length bodies) body opening (ap (λ (l : List (List ℕ)). slice_get l (length bodies)) on.all_is ∙ there_at bodies body on.more) is

-- ---- all records

pub nothing_legal : (admin : Name) → IsLegal admin []
nothing_legal admin = λ patterns true. tt

-- no next record is read
pub next_bad : (admin : Name) (log : List Entry) (file : List ℕ) (offset next : ℕ) (f : records.OpenFault) → IsLegal admin log → AreStorableEntries log → IsReadTo (head_for admin) (bodies_in log) file offset → ReadsNext file offset next (Err f) → RefusesEvents admin file (journal_fault f)
next_bad admin log file offset next records_fault.NotARecordFile legal able r never = absurd never
next_bad admin log file offset next records_fault.NameDiffers legal able r never = absurd never
next_bad admin log file offset next (records_fault.BadRecord place) legal able r bad = subst (HasBadEventAt admin file) (sym bad.0) (record { log = log; legal = legal; storable = able; read = r; bad = inl bad.1 })
next_bad admin log file offset next records_fault.DiskFault legal able r done = tt
next_bad admin log file offset next records_fault.NoMemory legal able r done = tt

-- the next record isn't replayed
pub event_bad : (replay : ReplayView) (uses : List (ℕ × ℕ)) (file : List ℕ) (offset next : ℕ) (its : StoredRecord) (f : OpenFault) → replay.last_pushes ≡ uses → IsLegal replay.hub.admin replay.hub.log → AreStorableEntries replay.hub.log
    → IsReadTo (head_for replay.hub.admin) (bodies_in replay.hub.log) file offset → IsRecordAt file offset its.body next → its.offset ≡ offset → TellsPushes (head_for replay.hub.admin) file (last_push uses) → RefusesRecord replay its f → RefusesEvents replay.hub.admin file f
event_bad replay uses file offset next its (fault.BadRecord place) same legal able r at here tells refused =
    let foreseen : IsForeseenBody replay its.body = λ opening is.
    subst (λ (u : List (ℕ × ℕ)). IsAwaited (last_push u) (length replay.hub.log) opening) (sym same)
    (subst (λ (n : ℕ). IsAwaited (last_push uses) n opening) (length-map replay.hub.log body_in) (tells (bodies_in replay.hub.log) its.body offset next opening r at is)) in
    subst (HasBadEventAt replay.hub.admin file) (sym here ∙ refused.0)
    (record { log = replay.hub.log; legal = legal; storable = able; read = r; bad = inr (record { body = its.body; next = next; there = at; bad = refused.1 foreseen }) })
event_bad replay uses file offset next its fault.NoMemory same legal able r at here tells refused = tt
event_bad replay uses file offset next its fault.NotAJournal same legal able r at here tells refused = absurd refused
event_bad replay uses file offset next its fault.OtherAdmin same legal able r at here tells refused = absurd refused
event_bad replay uses file offset next its fault.DiskFault same legal able r at here tells refused = absurd refused

pub faults_of_record : (T : Type 0) (replay : ReplayView) (its : StoredRecord) (f : OpenFault) (a b : DiskState) → RefusesRecord replay its f → b.disk_faults ≡ a.disk_faults → ReportsFaults {T = T} (Err f) a b
faults_of_record T replay its (fault.BadRecord offset) a b refused same = same
faults_of_record T replay its fault.NoMemory a b refused same = same
faults_of_record T replay its fault.NotAJournal a b refused same = absurd refused
faults_of_record T replay its fault.OtherAdmin a b refused same = absurd refused
faults_of_record T replay its fault.DiskFault a b refused same = absurd refused

-- ---- the file

no_events : (log : List Entry) → bodies_in log ≡ [] → log ≡ []
no_events [] is = refl
no_events (e ∷ log) is = absurd cc

-- the file before, and the file once it was begun to be read
module _ (admin : Name) (old new : List ℕ) (same : 0 < length old → new ≡ old) (begun : length old ≡ 0 → new ≡ head_for admin ++ 0 ∷ []) where
  none_held : length old ≡ 0 → Holds (head_for admin) [] new
  none_held none = holds_none (head_for admin) new (begun none)

  pub events_found : (log : List Entry) → Holds (head_for admin) (bodies_in log) new → AreEventsOf admin log old
  events_found log holds = (
    λ none. no_events log (one_reading (head_for admin) (bodies_in log) [] new holds (none_held none)),
    λ some. subst (λ (l : List ℕ). Holds (head_for admin) (bodies_in log) l) (same some) holds,
  )

  -- in a file without records nothing is bad
  no_more : (some : List (List ℕ)) (body : List ℕ) (more : List (List ℕ)) → [] ≡ some ++ body ∷ more → ⊥
  no_more some body more is = omega (arith, ap length is, length-append some (body ∷ more))

  none_bad : (offset : ℕ) → length old ≡ 0 → HasBadEventAt admin new offset → ⊥
  none_bad offset none has =
      let holds : Holds (head_for admin) [] new = none_held none in
      let whole = read_whole (head_for admin) [] new holds in
      elim has.bad [
        | inl gate ↦ not_both (head_for admin) [] new offset holds (reads_bad (head_for admin) (bodies_in has.log) new offset has.read gate)
        | inr its ↦
            let on = goes_on (head_for admin) new [] (bodies_in has.log) whole.end offset its.next its.body whole.read (inl whole.closed) has.read its.there in
            no_more (bodies_in has.log) its.body on.more on.all_is
      ]

  bad_before : (offset n : ℕ) → length old ≡ n → HasBadEventAt admin new offset → HasBadEventAt admin old offset
  bad_before offset zero long has = absurd (none_bad offset long has)
  bad_before offset (suc n) long has = subst (λ (l : List ℕ). HasBadEventAt admin l offset) (same (omega (arith, long))) has

  pub refused_events : (f : OpenFault) → RefusesEvents admin new f → IsNoJournal admin old f
  refused_events (fault.BadRecord offset) has = bad_before offset (length old) refl has
  refused_events fault.DiskFault done = tt
  refused_events fault.NoMemory done = tt
  refused_events fault.NotAJournal never = absurd never
  refused_events fault.OtherAdmin never = absurd never

pub refused_head : (admin : Name) (file : List ℕ) (f : records.OpenFault) → ChecksHead magic admin file (Err f) → IsNoJournal admin file (journal_fault f)
refused_head admin file records_fault.NotARecordFile is = is
refused_head admin file records_fault.NameDiffers is = is
refused_head admin file (records_fault.BadRecord offset) never = absurd never
refused_head admin file records_fault.DiskFault done = tt
refused_head admin file records_fault.NoMemory done = tt

pub faults_of_file : (T U : Type 0) (f : records.OpenFault) (a b : DiskState) → Reports {T = T} (Err f) a b → ReportsFaults {T = U} (Err (journal_fault f)) a b
faults_of_file T U records_fault.NotARecordFile a b is = is
faults_of_file T U records_fault.NameDiffers a b is = is
faults_of_file T U (records_fault.BadRecord offset) a b is = is
faults_of_file T U records_fault.DiskFault a b is = is
faults_of_file T U records_fault.NoMemory a b is = is

-- begun to be read, read whole, and closed
module _ (head : List ℕ) (found : List (List ℕ)) (a b c d : FileState) (end : ℕ) (started : IsStarted head b) (read : IsReadTo head found b.content end) (shut : IsClosedAt b.content end) (same : c ≡ b) where
  read_there : IsReadTo head found c.content end
  read_there = subst (λ (f : FileState). IsReadTo head found f.content end) (sym same) read

  shut_there : IsClosedAt c.content end
  shut_there = subst (λ (f : FileState). IsClosedAt f.content end) (sym same) shut

  still_there : c.pending ≡ settled c.content
  still_there = subst (λ (f : FileState). f.pending ≡ settled f.content) (sym same) started.settled

  pub durable_there : ((h : List ℕ) (bs : List (List ℕ)) → IsReadTo h bs c.content end → IsClosedAt c.content end → c.pending ≡ settled c.content → IsDurable h bs end d) → IsDurable head found end d
  durable_there finishes = finishes head found read_there shut_there still_there

  module _ (finishes : (h : List ℕ) (bs : List (List ℕ)) → IsReadTo h bs c.content end → IsClosedAt c.content end → c.pending ≡ settled c.content → LeavesOnly (Holds h bs) c d) where
    finished : LeavesOnly (Holds head found) b d
    finished = subst (λ (f : FileState). LeavesOnly (Holds head found) f d) same (finishes head found read_there shut_there still_there)

    pub any_moment : (bodies : List (List ℕ)) → LeavesOnly (Holds head bodies) a b → LeavesOnly (Holds head bodies) a d
    any_moment bodies first = opens head found a b d started.settled (ends_at head found b.content end read shut).holds finished bodies first

    pub any_moment_group : (bodies more : List (List ℕ)) → LeavesOnly (HoldsAllOrNone head bodies more) a b → LeavesOnly (HoldsAllOrNone head bodies more) a d
    any_moment_group bodies more first = opens_group head found a b d started.settled (ends_at head found b.content end read shut).holds finished bodies more first

-- what was read behind a first reading of the file
module _ (head : List ℕ) (bodies : List (List ℕ)) (s f : FileState) (offset end : ℕ) (started : IsStarted head s) (at : offset ≡ length head) (same : f ≡ s) where
  pub begun_at : IsReadTo head [] f.content offset
  begun_at = subst (λ (k : FileState). IsReadTo head [] k.content offset) (sym same) (read_from head s offset started at)

  pub read_at : ((h : List ℕ) → IsReadTo h [] f.content offset → IsReadTo h bodies f.content end) → IsReadTo head bodies s.content end
  read_at reads = subst (λ (k : FileState). IsReadTo head bodies k.content end) same (reads head begun_at)

  pub shut_at : IsClosedAt f.content end → IsClosedAt s.content end
  shut_at shut = subst (λ (k : FileState). IsClosedAt k.content end) same shut

-- what holds under the name that was read holds under the admin's
pub under_admin : (n admin : Name) (Before After : Name → Type 0) → n ≡ admin → (Before n → After n) → Before admin → After admin
under_admin n admin Before After same goes = subst (λ (m : Name). Before m → After m) same goes

pub still_moment : (P : List ℕ → Type 0) (a b c : FileState) → c ≡ b → LeavesOnly P a b → LeavesOnly P a c
still_moment P a b c same only = subst (λ (f : FileState). LeavesOnly P a f) (sym same) only
