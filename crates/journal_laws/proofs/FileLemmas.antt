-- What is found in a file of records that a log's events were written to.
use Rattle.std.proofs.Common.{◌≡◌, inl, inr, ℕ, zero, suc, ◌<◌, ◌≤◌, List, [], ◌∷◌, ◌++◌, length, map, take, drop, refl, sym, ◌∙◌, ap, subst, arith, append_assoc, length-append}
use Rattle.std.specs.Prelude.{Option, Some, None}
use Rattle.std.specs.List.{flat_map, slice_get}
use Rattle.std.proofs.lemmas.List.{length-map, length-take-le, take_all, take_at, take-append-drop}
use Rattle.ref_store.specs.Refs.{Name}
use Rattle.ref_store.specs.declared.command.Command.{Command}
use Rattle.rule_compile.specs.Patterns.{AreTrue, Patterns}
use Rattle.hub_history.specs.declared.entry.Entry.{Entry}
use Rattle.hub_history.specs.declared.entry.Event.{Event}
use Rattle.hub_history.specs.declared.entry.Event.TheVariants.{Entered, Pushed, Permitted, Looked}
use Rattle.hub_history.specs.History.{IsDue, IsDueAfter, IsLegal, history, opening_at, replay}
use Rattle.hub_history.specs.Opening.{Pinned}
use Rattle.hub_history.specs.Requests.{Request, request_of}
use Rattle.hub_history.proofs.HistoryLemmas.{beginning_legal, due_behind}
use Rattle.history_laws.specs.StateLaws.{OneLog, asked_in}
use Rattle.record_file.specs.Records.{HasAnotherName, Holds, IsBadAt, IsNoRecordFile, record_bytes}
use Rattle.record_file.proofs.OneReading.{goes_on, read_whole}
use Rattle.record_file.proofs.ReadLemmas.{reads_bad}
use Rattle.event_record.specs.Bodies.{IsStorable, body_of}
use Rattle.hub_journal.specs.Events.{AreStorableEntries, HoldsEvents, HoldsSome, IsStorableEntry, bodies_in, body_in, head_for, magic}
use Rattle.hub_journal.specs.Recovery.{AreEventsOf, HasBadEventAt, IsBadBody}
use Rattle.hub_journal.specs.Replay.{IsImpossible}
use Rattle.hub_journal.specs.declared.open_fault.OpenFault.TheVariants as fault
use Rattle.lasting_events.specs.Lasting.{lasting}
use Rattle.lasting_events.specs.Laws.{BeginningLasts, LastingIsEnough}
use Rattle.journal_laws.specs.Laws.{BodiesTellTheLog, FoundIsBeginning, HoldsThoseThatLast, IsJournalLog, OwnIsNotRefused}

-- ---- lists

first_same : {X : Type 0} (x y : X) (xs ys : List X) → x ∷ xs ≡ y ∷ ys → x ≡ y
first_same x y xs ys is = cc

rest_same : {X : Type 0} (x y : X) (xs ys : List X) → x ∷ xs ≡ y ∷ ys → xs ≡ ys
rest_same x y xs ys is = cc

behind_same : (front xs ys : List ℕ) → front ++ xs ≡ front ++ ys → xs ≡ ys
behind_same [] xs ys is = is
behind_same (x ∷ front) xs ys is = behind_same front xs ys (rest_same x x (front ++ xs) (front ++ ys) is)

front_same : (xs ys behind after : List ℕ) → length xs ≡ length ys → xs ++ behind ≡ ys ++ after → xs ≡ ys
front_same [] [] behind after long is = refl
front_same [] (y ∷ ys) behind after long is = absurd (omega (arith, long))
front_same (x ∷ xs) [] behind after long is = absurd (omega (arith, long))
front_same (x ∷ xs) (y ∷ ys) behind after long is =
    let first : x ≡ y = first_same x y (xs ++ behind) (ys ++ after) is in
    let rest : xs ≡ ys = front_same xs ys behind after (omega (arith, long)) (rest_same x y (xs ++ behind) (ys ++ after) is) in
    λ i. first i ∷ rest i

events_taken : (count : ℕ) (log : List Entry) → bodies_in (take count log) ≡ take count (bodies_in log)
events_taken zero log = refl
events_taken (suc n) [] = refl
events_taken (suc n) (e ∷ log) = ap (λ (l : List (List ℕ)). body_in e ∷ l) (events_taken n log)

there_at : (xs : List (List ℕ)) (x : List ℕ) (ys : List (List ℕ)) → slice_get (xs ++ x ∷ ys) (length xs) ≡ Some x
there_at [] x ys = refl
there_at (y ∷ xs) x ys = there_at xs x ys

event_there : (log : List Entry) (index : ℕ) (body : List ℕ) → slice_get (bodies_in log) index ≡ Some body → (e : Entry) × (slice_get log index ≡ Some e) × (body ≡ body_in e)
event_there [] index body is = absurd cc
event_there (e ∷ log) zero body is = let same : body_in e ≡ body = cc in (e, refl, sym same)
event_there (e ∷ log) (suc n) body is = event_there log n body is

storable_there : (log : List Entry) (index : ℕ) (e : Entry) → AreStorableEntries log → slice_get log index ≡ Some e → IsStorableEntry e
storable_there [] index e all is = absurd cc
storable_there (x ∷ log) zero e all is = let same : x ≡ e = cc in subst IsStorableEntry same all.0
storable_there (x ∷ log) (suc n) e all is = storable_there log n e all.1 is

storable_taken : (count : ℕ) (log : List Entry) → AreStorableEntries log → AreStorableEntries (take count log)
storable_taken zero log all = tt
storable_taken (suc n) [] all = tt
storable_taken (suc n) (e ∷ log) all = (all.0, storable_taken n log all.1)

storable_front : (one two : List Entry) → AreStorableEntries (one ++ two) → AreStorableEntries one
storable_front [] two all = tt
storable_front (e ∷ one) two all = (all.0, storable_front one two all.1)

beginning_kept : (admin : Name) (log : List Entry) (count : ℕ) → IsJournalLog admin log → IsJournalLog admin (take count log)
beginning_kept admin log count kept = (
  beginning_legal admin (take count log) (drop count log) (subst (IsLegal admin) (sym (take-append-drop count log)) kept.0),
  storable_taken count log kept.1,
)

-- ---- the front of a file

-- what follows the head
behind_head : (head : List ℕ) (bodies : List (List ℕ)) (file : List ℕ) → Holds head bodies file → (rest : List ℕ) × (file ≡ head ++ rest) × (0 < length rest)
behind_head head bodies file holds =
    let records : List ℕ = flat_map record_bytes holds.begins.gated in
    (records ++ 0 ∷ holds.free, holds.begins.spells ∙ append_assoc head records (0 ∷ holds.free), omega (arith, length-append records (0 ∷ holds.free)))

holds_some : (head : List ℕ) (bodies : List (List ℕ)) (file : List ℕ) → Holds head bodies file → 0 < length file
holds_some head bodies file holds =
    let front = behind_head head bodies file holds in
    omega (arith, ap length front.1, length-append head front.0, front.2)

no_record_file : (admin : Name) (bodies : List (List ℕ)) (file : List ℕ) → Holds (head_for admin) bodies file → IsNoRecordFile magic file → ⊥
no_record_file admin bodies file holds none =
    let front = behind_head (head_for admin) bodies file holds in
    none.no_head admin front.0 front.1 front.2

another_name : (admin : Name) (bodies : List (List ℕ)) (file : List ℕ) → Holds (head_for admin) bodies file → HasAnotherName magic admin file → ⊥
another_name admin bodies file holds named =
    let front = behind_head (head_for admin) bodies file holds in
    let its : List ℕ = named.its in
    let both : magic ++ (length its ∷ (its ++ named.rest)) ≡ magic ++ (length admin ∷ (admin ++ front.0)) =
    sym (append_assoc magic (length its ∷ its) named.rest) ∙ sym named.begins ∙ front.1 ∙ append_assoc magic (length admin ∷ admin) front.0 in
    let behind : length its ∷ (its ++ named.rest) ≡ length admin ∷ (admin ++ front.0) = behind_same magic _ _ both in
    named.other (front_same its admin named.rest front.0 (first_same (length its) (length admin) _ _ behind) (rest_same (length its) (length admin) _ _ behind))

-- ---- what can be asked

some_commands : (commands : List Command) → length commands ≡ 0 → 0 < length commands → ⊥
some_commands commands none some = omega (arith, none, some)

-- what was asked of a hub can be asked of it
was_possible : (patterns : Patterns) (admin : Name) (log : List Entry) (event : Event) → IsDue patterns (history admin log) event → IsImpossible (record { admin = admin; log = log }) (request_of event) → ⊥
was_possible patterns admin log (Entered user repo want answer) due impossible = impossible
was_possible patterns admin log (Permitted user repo change answer) due impossible = impossible
was_possible patterns admin log (Looked user) due impossible = impossible
was_possible patterns admin log (Pushed place pack commands atomic outcomes made) due impossible = pushed (opening_at (history admin log) place) refl due where
  pushed : (found : Option Pinned) → opening_at (history admin log) place ≡ found → IsDueAfter patterns (history admin log).state found pack commands atomic outcomes made → ⊥
  pushed None is none = none
  pushed (Some pinned) is told =
      elim impossible [
        | inl not ↦ not (record { pinned = pinned; opened = is; writes = told.for_writing })
        | inr none ↦ some_commands commands none told.within.some
      ]

-- ---- the laws

abbrev pub OneBody : Type 0
OneBody = (caller other : ℕ) (request another : Request) → IsStorable caller request → IsStorable other another → body_of caller request ≡ body_of other another → (caller ≡ other) × (request ≡ another)

abbrev pub OneReading : Type 0
OneReading = (head file : List ℕ) (bodies others : List (List ℕ)) → Holds head bodies file → Holds head others file → bodies ≡ others

abbrev pub NeverBad : Type 0
NeverBad = (head file : List ℕ) (bodies : List (List ℕ)) (offset : ℕ) → Holds head bodies file → IsBadAt head file offset → ⊥

module _ (one_log : OneLog) (one_body : OneBody) where
  same_asked : (one other : List Entry) → AreStorableEntries one → AreStorableEntries other → bodies_in one ≡ bodies_in other → map asked_in one ≡ map asked_in other
  same_asked [] [] a b is = refl
  same_asked [] (e ∷ other) a b is = absurd cc
  same_asked (e ∷ one) [] a b is = absurd cc
  same_asked (e ∷ one) (f ∷ other) a b is =
      let both = one_body e.caller f.caller (request_of e.event) (request_of f.event) a.0 b.0 (first_same (body_in e) (body_in f) (bodies_in one) (bodies_in other) is) in
      let rest = same_asked one other a.1 b.1 (rest_same (body_in e) (body_in f) (bodies_in one) (bodies_in other) is) in
      λ i. (both.0 i, both.1 i) ∷ rest i

  pub bodies_tell : BodiesTellTheLog
  bodies_tell admin one other a b is = one_log admin one other a.0 b.0 (same_asked one other a.1 b.1 is)

  module _ (one_reading : OneReading) where
    pub found_is : FoundIsBeginning
    found_is admin log found least file kept again some are = record {
      count = some.count;
      enough = some.enough;
      there = some.there;
      found_is =
          bodies_tell admin found (take some.count log) again (beginning_kept admin log some.count kept)
          (one_reading (head_for admin) file (bodies_in found) (bodies_in (take some.count log)) (are.1 (holds_some (head_for admin) (bodies_in (take some.count log)) file some.holds)) some.holds);
    }

    module _ (never_bad : NeverBad) (patterns : Patterns) (true : AreTrue patterns) where
      -- the event at the place of a record that is said to be bad
      no_bad_record : (admin : Name) (log before : List Entry) (body : List ℕ) (more : List (List ℕ)) → IsJournalLog admin log → IsJournalLog admin before → bodies_in log ≡ bodies_in before ++ body ∷ more → IsBadBody (record { admin = admin; log = before }) body → ⊥
      no_bad_record admin log before body more kept whole goes_on bad =
          let index : ℕ = length before in
          let long : length (bodies_in before) ≡ index = length-map before body_in in
          let first : bodies_in before ≡ bodies_in (take index log) =
          sym (take_at (bodies_in before) (body ∷ more) index long) ∙ ap (λ (bs : List (List ℕ)). take index bs) (sym goes_on) ∙ sym (events_taken index log) in
          let same : before ≡ take index log = bodies_tell admin before (take index log) whole (beginning_kept admin log index kept) first in
          let there : slice_get (bodies_in log) index ≡ Some body =
          ap (λ (bs : List (List ℕ)). slice_get bs index) goes_on ∙ ap (λ (n : ℕ). slice_get (bodies_in before ++ body ∷ more) n) (sym long) ∙ there_at (bodies_in before) body more in
          let found = event_there log index body there in
          let e : Entry = found.0 in
          let able : IsStorableEntry e = storable_there log index e kept.1 found.1 in
          elim bad [
            | inl none ↦ none e.caller (request_of e.event) able found.2
            | inr impossible ↦
                let asks = one_body impossible.caller e.caller impossible.request (request_of e.event) impossible.storable able (sym impossible.spells ∙ found.2) in
                was_possible patterns admin (take index log) e.event (due_behind admin log index e kept.0 found.1 patterns true)
                (subst (λ (l : List Entry). IsImpossible (record { admin = admin; log = l }) (request_of e.event)) same
                (subst (IsImpossible (record { admin = admin; log = before })) asks.1 impossible.impossible))
          ]

      no_bad_event : (admin : Name) (log : List Entry) (file : List ℕ) (offset : ℕ) → IsJournalLog admin log → Holds (head_for admin) (bodies_in log) file → HasBadEventAt admin file offset → ⊥
      no_bad_event admin log file offset kept holds has =
          let whole = read_whole (head_for admin) (bodies_in log) file holds in
          elim has.bad [
            | inl gate ↦ never_bad (head_for admin) file (bodies_in log) offset holds (reads_bad (head_for admin) (bodies_in has.log) file offset has.read gate)
            | inr its ↦
                let on = goes_on (head_for admin) file (bodies_in log) (bodies_in has.log) whole.end offset its.next its.body whole.read (inl whole.closed) has.read its.there in
                no_bad_record admin log has.log its.body on.more kept (has.legal, has.storable) on.all_is its.bad
          ]

      pub own_is_not_refused : OwnIsNotRefused
      own_is_not_refused admin log least file fault.NotAJournal kept some is = absurd (no_record_file admin (bodies_in (take some.count log)) file some.holds is)
      own_is_not_refused admin log least file fault.OtherAdmin kept some is = absurd (another_name admin (bodies_in (take some.count log)) file some.holds is)
      own_is_not_refused admin log least file (fault.BadRecord offset) kept some has =
          absurd (no_bad_event admin (take some.count log) file offset (beginning_kept admin log some.count kept) some.holds has)
      own_is_not_refused admin log least file fault.DiskFault kept some is = inl refl
      own_is_not_refused admin log least file fault.NoMemory kept some is = inr refl

-- ---- where only the entries that last are stored

module _ (enough : LastingIsEnough) (beginning : BeginningLasts) (admin : Name) (log : List Entry) (start count : ℕ) (file : List ℕ) (held : HoldsThoseThatLast admin log start count file) where
  abbrev front : List Entry
  front = take count log

  within : start ≤ length front
  within = omega (arith, held.first, length-take-le count log held.there)

  front_legal : IsLegal admin front
  front_legal = beginning_legal admin front (drop count log) (subst (IsLegal admin) (sym (take-append-drop count log)) held.legal)

  pub they_are_kept : IsJournalLog admin (lasting start front)
  they_are_kept =
      let more = beginning log start count held.first held.there in
      (enough.legal admin front start within front_legal, storable_front (lasting start front) more.0 (subst AreStorableEntries more.1 held.storable))

  pub lasting_found : OneLog → OneBody → OneReading → (found : List Entry) → IsJournalLog admin found → AreEventsOf admin found file → (found ≡ lasting start front) × (replay admin found ≡ replay admin front)
  lasting_found one_log one_body one_reading found again are = (same, ap (replay admin) same ∙ enough.state admin front start within front_legal)
    where
      same : found ≡ lasting start front
      same =
          bodies_tell one_log one_body admin found (lasting start front) again they_are_kept
          (one_reading (head_for admin) file (bodies_in found) (bodies_in (lasting start front)) (are.1 (holds_some (head_for admin) (bodies_in (lasting start front)) file held.holds)) held.holds)

  pub some_held : HoldsSome admin (lasting start front) 0 file
  some_held = record {
    count = length (lasting start front);
    enough = omega arith;
    there = omega arith;
    holds = subst (λ (l : List Entry). HoldsEvents admin l file) (sym (take_all (length (lasting start front)) (lasting start front) (omega arith))) held.holds;
  }
