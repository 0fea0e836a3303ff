-- What a call does to a hub of which the entries that last are stored.
use Rattle.std.proofs.Common.{◌≡◌, ◌⊎◌, inl, inr, ℕ, zero, suc, ◌<◌, ◌≤◌, ◌+◌, Bool, true, false, List, [], ◌∷◌, ◌++◌, length, take, drop, refl, sym, ◌∙◌, ap, ap₂, subst, arith, append_assoc, append-nil, length-append}
use Rattle.std.specs.Prelude.{IsTrue, Option, Some, None, if◌then◌else◌}
use Rattle.std.specs.List.{slice_get}
use Rattle.std.proofs.lemmas.Bool.{cases_Bool, cases_lt}
use Rattle.std.proofs.lemmas.List.{ext_get_or, map-append, drop_all, drop-append-le, length-take-le, take_all, take-append-drop, take-append-le}
use Rattle.base_types.specs.Counts.{HasRisen}
use Rattle.git_object.specs.Content.{Content}
use Rattle.ref_store.specs.Refs.{Name}
use Rattle.ref_store.specs.declared.command.Command.{Command}
use Rattle.access_check.specs.declared.verdicts.Want.{Want}
use Rattle.access_check.specs.declared.verdicts.Want.TheVariants.{Read, Write}
use Rattle.hub_history.specs.declared.entry.EnterKept.{EnterKept}
use Rattle.hub_history.specs.declared.entry.EnterKept.TheVariants.{Granted, Created, Denied, NoRepo}
use Rattle.hub_history.specs.declared.entry.PermChange.{PermChange}
use Rattle.hub_history.specs.declared.entry.PermChange.TheVariants as change
use Rattle.hub_history.specs.declared.entry.PermsKept.{PermsKept}
use Rattle.hub_history.specs.declared.entry.PermsKept.TheVariants.{Changed, AlreadySo, NotWild, NotCreator, NoSuchRole, Listed}
use Rattle.hub_history.specs.Opening.{Opening}
use Rattle.hub_history.specs.declared.entry.Entry.{Entry}
use Rattle.hub_history.specs.declared.entry.Event.{Event}
use Rattle.hub_history.specs.declared.entry.Event.TheVariants as was
use Rattle.hub_history.specs.declared.entry.Event.TheVariants.{Entered, Permitted}
use Rattle.hub_history.specs.History.{IsLegal, Stands}
use Rattle.hub_history.specs.Requests.{Request, Enter, Push, Permit, request_of}
use Rattle.hub_history.specs.RoleLaws.{AnswersTellOfRoles}
use Rattle.hub_history.proofs.HistoryLemmas.{beginning_legal}
use Rattle.hub_history.proofs.OpeningLemmas.{pinned_at}
use Rattle.history_laws.specs.StateLaws.{MayChange}
use Rattle.hub.specs.declared.answer.Looked.{Looked}
use Rattle.hub.specs.declared.answer.Looked.TheVariants as look
use Rattle.hub.specs.declared.answer.Pushed.{Pushed}
use Rattle.hub.specs.declared.answer.Pushed.TheVariants as push
use Rattle.hub.specs.Answer.{looked, opened, permitted, settled}
use Rattle.hub.specs.Hub.{HubView, Logs, logged}
use Rattle.record_file.specs.Crashes as crashes
use Rattle.record_file.specs.Crashes.{FileState, Leaves, LeavesOnly, MayLeave, Pending}
use Rattle.record_file.specs.Files.{EndsAtGate, IsDurable}
use Rattle.record_file.specs.Records.{Holds, HoldsAllOrNone}
use Rattle.event_record.specs.Bodies.{body_of, IsStorable}
use Rattle.hub_journal.specs.Events.{AreStorableEntries, HoldsEvents, IsStorableEntry, bodies_in, body_in, head_for}
use Rattle.hub_journal.specs.Journal.{StoreView, Stores}
use Rattle.hub_journal.proofs.JournalLemmas.{at_the_end, both_storable, goes_on, starts, weaker}
use Rattle.lasting_events.specs.Lasting.{if_lasting, lasting, lasting_behind, lasting_places, lasts, place_among, renumbered, renumbered_entry}
use Rattle.lasting_events.proofs.LastingLemmas.{behind_append, lasting_append, lasting_grows, passes_over}
use Rattle.lasting_events.proofs.PlaceLemmas.{places_grow}
use Rattle.stored_hub.specs.declared.account.Queued.{Queued}
use Rattle.stored_hub.specs.Stored.{AccountsFor, ChangeNothing, GoesOnLasting, GoesOnStored, HasStored, HoldsLasting, KeepsLasting, PassesBy, StoredView, answered, bodies_waiting, body_waiting, lasts_in, waits, waits_in}

-- ---- entries that change nothing

none_of_nothing : (count : ℕ) → ChangeNothing (drop count [])
none_of_nothing zero = tt
none_of_nothing (suc n) = tt

pub none_append : (xs ys : List Entry) → ChangeNothing xs → ChangeNothing ys → ChangeNothing (xs ++ ys)
none_append [] ys none more = more
none_append (x ∷ xs) ys none more = (none.0, none_append xs ys none.1 more)

-- fewer entries
pub none_fewer : (log : List Entry) (count fewer least : ℕ) → fewer ≤ least → ChangeNothing (drop count (take least log)) → ChangeNothing (drop count (take fewer log))
none_fewer log count zero least le none = none_of_nothing count
none_fewer [] count (suc f) least le none = none_of_nothing count
none_fewer (e ∷ log) count (suc f) zero le none = absurd (omega (arith, le))
none_fewer (e ∷ log) zero (suc f) (suc l) le none = (none.0, none_fewer log zero f l (omega (arith, le)) none.1)
none_fewer (e ∷ log) (suc c) (suc f) (suc l) le none = none_fewer log c f l (omega (arith, le)) none

-- where all of them are behind
pub none_behind_all : (log : List Entry) (count least : ℕ) → least ≤ count → ChangeNothing (drop count (take least log))
none_behind_all log count zero le = none_of_nothing count
none_behind_all [] count (suc l) le = none_of_nothing count
none_behind_all (e ∷ log) zero (suc l) le = absurd (omega (arith, le))
none_behind_all (e ∷ log) (suc c) (suc l) le = none_behind_all log c l (omega (arith, le))

-- one entry more that changes nothing
none_longer : (log : List Entry) (e : Entry) (count : ℕ) → count ≤ length log → ChangeNothing (drop count (take (length log) log)) → ¬ MayChange e.event → ChangeNothing (drop count (take (length (log ++ e ∷ [])) (log ++ e ∷ [])))
none_longer log e count le none same =
    subst ChangeNothing (sym (ap (drop count) (take_all (length (log ++ e ∷ [])) (log ++ e ∷ []) (omega arith)) ∙ drop-append-le count log (e ∷ []) le))
    (none_append (drop count log) (e ∷ []) (subst ChangeNothing (ap (drop count) (take_all (length log) log (omega arith))) none) (same, tt))

-- ---- more of a log

-- what holds the lasting entries of a beginning of a log holds those of one of a longer log
pub some_more : (admin : Name) (start : ℕ) (log more : List Entry) (least fewer : ℕ) (file : List ℕ) → fewer ≤ least → least ≤ length log → HoldsLasting admin start log least file → HoldsLasting admin start (log ++ more) fewer file
some_more admin start log more least fewer file le within some = record {
  count = some.count;
  first = some.first;
  there = omega (arith, some.there, length-append log more);
  enough = subst (λ (l : List Entry). ChangeNothing (drop some.count l)) (sym (take-append-le fewer log more (omega (arith, le, within)))) (none_fewer log some.count fewer least le some.enough);
  holds = subst (λ (l : List Entry). HoldsEvents admin (lasting start l) file) (sym (take-append-le some.count log more some.there)) some.holds;
}

-- where nothing is pending, a crash leaves the file itself
only_this : (file c : List ℕ) → MayLeave (crashes.settled file) c → c ≡ file
only_this file c m = ext_get_or 0 c file (omega (arith, m.no_shorter, m.no_longer)) (λ i lt. m.stays i (omega (arith, lt, m.no_longer)) (λ none. none))

-- a file that holds those of the first so many events, of which nothing is pending
pub durable_leaves : (admin : Name) (start written : ℕ) (log : List Entry) (least end : ℕ) (file : FileState) → start ≤ written → written ≤ length log → ChangeNothing (drop written (take least log))
    → IsDurable (head_for admin) (bodies_in (lasting start (take written log))) end file → Leaves (HoldsLasting admin start log least) file.pending
durable_leaves admin start written log least end file first there enough durable =
    subst (λ (p : Pending). Leaves (HoldsLasting admin start log least) p) (sym durable.settled)
    (λ c m. subst (HoldsLasting admin start log least) (sym (only_this file.content c m)) (record { count = written; first = first; there = there; enough = enough; holds = durable.holds }))

-- ---- from call to call

-- no call
pub goes_nowhere : (modeled : Bool) (j : StoredView) → GoesOnLasting modeled j j
goes_nowhere modeled j = record {
  start = refl;
  admin = refl;
  more = [];
  grows = sym (append-nil j.hub.log);
  storable = tt;
  stored = omega arith;
  counted = omega arith;
  stays_broken = λ broken. (refl, refl);
  fault = λ broken. inl broken;
  no_fault = λ unbroken. refl;
  runs = λ t keeps. keeps;
  any_moment = λ t keeps. starts (HoldsLasting j.hub.admin j.start j.hub.log j.store.stored) j.store.disk.file keeps.leaves;
}

risen_on : (a b c : ℕ) → HasRisen a b → b ≤ c → HasRisen a c
risen_on a b c risen le = omega (arith, risen, le)

on_risen : (a b c : ℕ) → a ≤ b → HasRisen b c → HasRisen a c
on_risen a b c le risen = omega (arith, risen, le)

module _ (modeled : Bool) (a b c : StoredView) (one : GoesOnLasting modeled a b) (two : GoesOnLasting modeled b c) where
  fault_then : c.store.writer.broken ≡ true → (a.store.writer.broken ≡ true) ⊎ HasRisen a.store.disk.disk_faults c.store.disk.disk_faults
  fault_then broken =
      elim (two.fault broken) [
        | inl before ↦ elim (one.fault before) [
          | inl first ↦ inl first
          | inr risen ↦ inr (risen_on a.store.disk.disk_faults b.store.disk.disk_faults c.store.disk.disk_faults risen two.counted)
        ]
        | inr risen ↦ inr (on_risen a.store.disk.disk_faults b.store.disk.disk_faults c.store.disk.disk_faults one.counted risen)
      ]

  no_fault_then : c.store.writer.broken ≡ false → c.store.disk.disk_faults ≡ a.store.disk.disk_faults
  no_fault_then unbroken =
      elim (cases_Bool b.store.writer.broken) [
        | inl broken ↦ let clash : true ≡ false = sym broken ∙ ap (λ (s : StoreView). s.writer.broken) (sym (two.stays_broken broken).0) ∙ unbroken in absurd cc
        | inr whole ↦ two.no_fault unbroken ∙ one.no_fault whole
      ]

  both_able : AreStorableEntries (lasting_behind a.start a.hub.log (one.more ++ two.more))
  both_able =
      subst AreStorableEntries (sym (behind_append a.start a.hub.log one.more two.more))
      (both_storable (lasting_behind a.start a.hub.log one.more) (lasting_behind a.start (a.hub.log ++ one.more) two.more) one.storable
      (subst AreStorableEntries (ap₂ (λ (n : ℕ) (l : List Entry). lasting_behind n l two.more) one.start one.grows) two.storable))

  -- what was left of the log before the second run
  then_more : a.store.stored ≤ length b.hub.log → (file : List ℕ) → HoldsLasting b.hub.admin b.start b.hub.log a.store.stored file → HoldsLasting c.hub.admin c.start c.hub.log a.store.stored file
  then_more within file some =
      subst (λ (h : HubView). HoldsLasting h.admin c.start h.log a.store.stored file) (sym (λ i. record { admin = two.admin i; log = two.grows i }))
      (subst (λ (n : ℕ). HoldsLasting b.hub.admin n (b.hub.log ++ two.more) a.store.stored file) (sym two.start) (some_more b.hub.admin b.start b.hub.log two.more a.store.stored a.store.stored file (omega arith) within some))

  both_moments : IsTrue modeled → KeepsLasting a → LeavesOnly (HoldsLasting c.hub.admin c.start c.hub.log a.store.stored) a.store.disk.file c.store.disk.file
  both_moments t keeps =
      goes_on (HoldsLasting c.hub.admin c.start c.hub.log a.store.stored) a.store.disk.file b.store.disk.file c.store.disk.file
      (weaker (HoldsLasting b.hub.admin b.start b.hub.log a.store.stored) (HoldsLasting c.hub.admin c.start c.hub.log a.store.stored) a.store.disk.file b.store.disk.file (then_more (omega (arith, one.stored, (one.runs t keeps).within))) (one.any_moment t keeps))
      (weaker (HoldsLasting c.hub.admin c.start c.hub.log b.store.stored) (HoldsLasting c.hub.admin c.start c.hub.log a.store.stored) b.store.disk.file c.store.disk.file
      (λ file some. record { count = some.count; first = some.first; there = some.there; enough = none_fewer c.hub.log some.count a.store.stored b.store.stored one.stored some.enough; holds = some.holds })
      (two.any_moment t (one.runs t keeps)))

  pub goes_both : GoesOnLasting modeled a c
  goes_both = record {
    start = two.start ∙ one.start;
    admin = two.admin ∙ one.admin;
    more = one.more ++ two.more;
    grows = two.grows ∙ ap (λ (l : List Entry). l ++ two.more) one.grows ∙ append_assoc a.hub.log one.more two.more;
    storable = both_able;
    stored = omega (arith, one.stored, two.stored);
    counted = omega (arith, one.counted, two.counted);
    stays_broken = λ broken.
        let same = one.stays_broken broken in
        let then_same = two.stays_broken (ap (λ (s : StoreView). s.writer.broken) same.0 ∙ broken) in (then_same.0 ∙ same.0, then_same.1 ∙ same.1);
    fault = fault_then;
    no_fault = no_fault_then;
    runs = λ t keeps. two.runs t (one.runs t keeps);
    any_moment = both_moments;
  }

-- by at most one event
pub by_one : (modeled : Bool) (a b : StoredView) → GoesOnLasting modeled a b → b.store.stored ≤ a.store.stored + 1 → GoesOnStored modeled a b
by_one modeled a b on few = record {
  on = on;
  moments = λ count least most.
      elim (cases_lt a.store.stored count) [
        | inl more ↦ record { between = b; stored = omega (arith, few, most, more); before = on; after = goes_nowhere modeled b }
        | inr none ↦ record { between = a; stored = omega (arith, least, none); before = goes_nowhere modeled a; after = on }
      ];
}

pub stays : (modeled : Bool) (j : StoredView) → GoesOnStored modeled j j
stays modeled j = by_one modeled j j (goes_nowhere modeled j) (omega arith)

passes_by : (modeled : Bool) (a b c : StoredView) → GoesOnStored modeled a b → GoesOnStored modeled b c → (count : ℕ) → a.store.stored ≤ count → count ≤ c.store.stored → PassesBy modeled a c count
passes_by modeled a b c one two count least most =
    elim (cases_lt b.store.stored count) [
      | inl later ↦
          let by = two.moments count (omega (arith, later)) most in
          record { between = by.between; stored = by.stored; before = goes_both modeled a b by.between one.on by.before; after = by.after }
      | inr earlier ↦
          let by = one.moments count least earlier in
          record { between = by.between; stored = by.stored; before = by.before; after = goes_both modeled by.between b c by.after two.on }
    ]

pub composes : (modeled : Bool) (a b c : StoredView) → GoesOnStored modeled a b → GoesOnStored modeled b c → GoesOnStored modeled a c
composes modeled a b c one two = record { on = goes_both modeled a b c one.on two.on; moments = passes_by modeled a b c one two }

-- ---- what callers know

abbrev view_of : HubView → ℕ → ℕ → StoreView → StoredView
view_of hub start written store = record { hub = hub; start = start; written = written; store = store }

-- all of it, while no call failed
pub all_answered : (j : StoredView) → HasStored j → j.store.writer.broken ≡ false → answered j ≡ j.hub
all_answered j has unbroken =
    let whole = has.whole unbroken in
    ap (λ (l : List Entry). record { admin = j.hub.admin; log = l }) (take_all j.store.stored j.hub.log (omega (arith, whole)))

-- so what holds of the hub holds of what callers know
pub as_answered : (P : HubView → HubView → Type 0) (old new : StoredView) → HasStored old → old.store.writer.broken ≡ false → HasStored new → new.store.writer.broken ≡ false → P old.hub new.hub → P (answered old) (answered new)
as_answered P old new has unbroken has' unbroken' holds =
    subst (λ (h : HubView). P h (answered new)) (sym (all_answered old has unbroken)) (subst (λ (h : HubView). P old.hub h) (sym (all_answered new has' unbroken')) holds)

-- and a legal log
pub first_legal : (admin : Name) (log : List Entry) (count : ℕ) → IsLegal admin log → IsLegal admin (take count log)
first_legal admin log count legal = beginning_legal admin (take count log) (drop count log) (subst (λ (l : List Entry). IsLegal admin l) (sym (take-append-drop count log)) legal)

-- ---- a call

-- the entry of an event
abbrev entry_of : ℕ → Event → Entry
entry_of caller event = record { caller = caller; event = event }

-- the bodies of the entries that wait
abbrev pub waiting_in : ℕ → ℕ → ℕ → List Entry → List (List ℕ)
waiting_in start written stored log = bodies_in (lasting_behind start (take written log) (drop written (take stored log)))

-- what a call did that made at most one event: it is accounted for, or a call of the disk failed
pub record StoresOne (modeled : Bool) (old new : HubView) (start written : ℕ) (a b : StoreView) (written' : ℕ) (places : List ℕ) (queue : List Queued) : Type 0 where
  pub goes : GoesOnStored modeled (view_of old start written a) (view_of new start written' b)
  pub has : HasStored (view_of new start written' b)
  -- a call that isn't answered leaves what was known
  pub kept : b.writer.broken ≡ true → answered (view_of new start written' b) ≡ answered (view_of old start written a)
  pub listed : places ≡ lasting_places start (take b.stored new.log)
  pub waiting : bodies_waiting queue ≡ waiting_in start written' b.stored new.log

module _ (modeled : Bool) (old : HubView) (start written : ℕ) (a : StoreView) (places : List ℕ) (queue : List Queued) (has : HasStored (view_of old start written a)) (unbroken : a.writer.broken ≡ false)
    (listed : places ≡ lasting_places start (take a.stored old.log)) (waiting : bodies_waiting queue ≡ waiting_in start written a.stored old.log) where
  abbrev all : ℕ
  all = length old.log

  a_whole : a.stored ≡ all
  a_whole = has.whole unbroken

  within : start ≤ all
  within = omega (arith, has.first, has.written, a_whole)

  inside : written ≤ all
  inside = omega (arith, has.written, a_whole)

  whole_is : take a.stored old.log ≡ old.log
  whole_is = take_all a.stored old.log (omega (arith, a_whole))

  listed_all : places ≡ lasting_places start old.log
  listed_all = listed ∙ ap (lasting_places start) whole_is

  waiting_all : bodies_waiting queue ≡ bodies_in (lasting_behind start (take written old.log) (drop written old.log))
  waiting_all = waiting ∙ ap (λ (l : List Entry). bodies_in (lasting_behind start (take written old.log) (drop written l))) whole_is

  unchanged_all : ChangeNothing (drop written (take all old.log))
  unchanged_all = subst (λ (n : ℕ). ChangeNothing (drop written (take n old.log))) a_whole has.unchanged

  pub nothing_stored : StoresOne modeled old old start written a a written places queue
  nothing_stored = record { goes = stays modeled (view_of old start written a); has = has; kept = λ broken. refl; listed = listed; waiting = waiting }

  module _ (caller : ℕ) (event : Event) where
    abbrev e : Entry
    e = entry_of caller event

    abbrev longer : List Entry
    longer = old.log ++ e ∷ []

    long : length longer ≡ all + 1
    long = length-append old.log (e ∷ [])

    all_of_it : take (length longer) longer ≡ longer
    all_of_it = take_all (length longer) longer (omega arith)

    first_of_it : take written longer ≡ take written old.log
    first_of_it = take-append-le written old.log (e ∷ []) inside

    rest_of_it : drop written longer ≡ drop written old.log ++ e ∷ []
    rest_of_it = drop-append-le written old.log (e ∷ []) inside

    -- those that wait, with the new entry
    waiting_longer : waiting_in start written (length longer) longer ≡ bodies_in (lasting_behind start (take written old.log) (drop written old.log) ++ lasting_behind start old.log (e ∷ []))
    waiting_longer =
        ap (λ (l : List Entry). bodies_in (lasting_behind start (take written longer) (drop written l))) all_of_it
        ∙ ap₂ (λ (l m : List Entry). bodies_in (lasting_behind start l m)) first_of_it rest_of_it
        ∙ ap bodies_in (behind_append start (take written old.log) (drop written old.log) (e ∷ []))
        ∙ ap (λ (l : List Entry). bodies_in (lasting_behind start (take written old.log) (drop written old.log) ++ lasting_behind start l (e ∷ []))) (take-append-drop written old.log)

    -- ---- an event for which no call of the disk is made, since it changes nothing

    module _ (same : ¬ MayChange event) (able : AreStorableEntries (lasting_behind start old.log (e ∷ []))) where
      abbrev passed : StoreView
      passed = record a { stored = length longer }

      passed_unchanged : ChangeNothing (drop written (take (length longer) longer))
      passed_unchanged = none_longer old.log e written inside unchanged_all same

      -- what a crash leaves has no less
      still_enough : (file : List ℕ) → HoldsLasting old.admin start old.log a.stored file → HoldsLasting old.admin start longer (length longer) file
      still_enough file some = record {
        count = some.count;
        first = some.first;
        there = omega (arith, some.there, long);
        enough = none_longer old.log e some.count some.there (subst (λ (n : ℕ). ChangeNothing (drop some.count (take n old.log))) a_whole some.enough) same;
        holds = subst (λ (l : List Entry). HoldsEvents old.admin (lasting start l) file) (sym (take-append-le some.count old.log (e ∷ []) some.there)) some.holds;
      }

      passed_goes : GoesOnLasting modeled (view_of old start written a) (view_of (logged old caller event) start written passed)
      passed_goes = record {
        start = refl;
        admin = refl;
        more = e ∷ [];
        grows = refl;
        storable = able;
        stored = omega (arith, a_whole, long);
        counted = omega arith;
        stays_broken = λ broken. let clash : true ≡ false = sym broken ∙ unbroken in absurd cc;
        fault = λ broken. inl broken;
        no_fault = λ whole. refl;
        runs = λ t keeps. record {
          within = omega arith;
          durable = λ whole. subst (λ (l : List Entry). IsDurable (head_for old.admin) (bodies_in (lasting start l)) a.writer.end a.disk.file) (sym first_of_it) (keeps.durable whole);
          leaves = λ file may. still_enough file (keeps.leaves file may);
        };
        any_moment = λ t keeps.
            starts (HoldsLasting old.admin start longer a.stored) a.disk.file
            (λ file may. some_more old.admin start old.log (e ∷ []) a.stored a.stored file (omega arith) keeps.within (keeps.leaves file may));
      }

      passed_has : HasStored (view_of (logged old caller event) start written passed)
      passed_has = record {
        at_gate = has.at_gate;
        first = has.first;
        written = omega (arith, inside, long);
        answered = omega arith;
        last = omega arith;
        whole = λ whole. refl;
        unchanged = passed_unchanged;
      }

      passed_one : (places' : List ℕ) (queue' : List Queued) → places' ≡ lasting_places start longer → bodies_waiting queue' ≡ waiting_in start written (length longer) longer
          → StoresOne modeled old (logged old caller event) start written a passed written places' queue'
      passed_one places' queue' listed' waiting' = record {
        goes = by_one modeled (view_of old start written a) (view_of (logged old caller event) start written passed) passed_goes (omega (arith, long, a_whole));
        has = passed_has;
        kept = λ broken. let clash : true ≡ false = sym broken ∙ unbroken in absurd cc;
        listed = listed' ∙ ap (lasting_places start) (sym all_of_it);
        waiting = waiting';
      }

    -- ---- an event that doesn't last

    module _ (is : lasts event ≡ false) where
      none_behind : lasting_behind start old.log (e ∷ []) ≡ []
      none_behind = append-nil (if_lasting start old.log e) ∙ ap (λ (b : Bool). if b then renumbered_entry start old.log e ∷ [] else []) is

      places_same : places ≡ lasting_places start longer
      places_same =
          listed_all
          ∙ sym (places_grow start old.log e within
          ∙ ap (λ (b : Bool). lasting_places start old.log ++ (if b then all ∷ [] else [])) is
          ∙ append-nil (lasting_places start old.log))

      waiting_same : bodies_waiting queue ≡ waiting_in start written (length longer) longer
      waiting_same =
          waiting_all
          ∙ sym (waiting_longer
          ∙ ap (λ (l : List Entry). bodies_in (lasting_behind start (take written old.log) (drop written old.log) ++ l)) none_behind
          ∙ ap bodies_in (append-nil (lasting_behind start (take written old.log) (drop written old.log))))

      pub event_passed : StoresOne modeled old (logged old caller event) start written a (record a { stored = length longer }) written places queue
      event_passed = passed_one (passes_over event is) (subst AreStorableEntries (sym none_behind) tt) places queue places_same waiting_same

    -- ---- an event that lasts

    module _ (is : lasts event ≡ true) where
      abbrev kept_as : Entry
      kept_as = renumbered_entry start old.log e

      one_behind : lasting_behind start old.log (e ∷ []) ≡ kept_as ∷ []
      one_behind = append-nil (if_lasting start old.log e) ∙ ap (λ (b : Bool). if b then renumbered_entry start old.log e ∷ [] else []) is

      places_more : lasting_places start longer ≡ lasting_places start old.log ++ all ∷ []
      places_more = places_grow start old.log e within ∙ ap (λ (b : Bool). lasting_places start old.log ++ (if b then all ∷ [] else [])) is

      places_noted : places ++ a.stored ∷ [] ≡ lasting_places start longer
      places_noted = ap₂ (λ (l : List ℕ) (n : ℕ). l ++ n ∷ []) listed_all a_whole ∙ sym places_more

      -- ---- one that waits

      pub event_waits : (q : Queued) → ¬ MayChange event → body_waiting q ≡ body_in kept_as → IsStorableEntry kept_as
          → StoresOne modeled old (logged old caller event) start written a (record a { stored = length longer }) written (places ++ a.stored ∷ []) (queue ++ q ∷ [])
      event_waits q same body able = passed_one same (subst AreStorableEntries (sym one_behind) (able, tt)) (places ++ a.stored ∷ []) (queue ++ q ∷ []) places_noted (
          map-append body_waiting queue (q ∷ [])
          ∙ ap₂ (λ (l : List (List ℕ)) (b : List ℕ). l ++ b ∷ []) waiting_all body
          ∙ sym (map-append body_in (lasting_behind start (take written old.log) (drop written old.log)) (kept_as ∷ []))
          ∙ sym (waiting_longer ∙ ap (λ (l : List Entry). bodies_in (lasting_behind start (take written old.log) (drop written old.log) ++ l)) one_behind)
          )

      -- ---- one that is stored, with those that wait

      abbrev group : List (List ℕ)
      group = bodies_waiting queue ++ body_in kept_as ∷ []

      grows : lasting start longer ≡ lasting start old.log ++ kept_as ∷ []
      grows = lasting_grows old.log e start within ∙ ap (λ (b : Bool). lasting start old.log ++ (if b then renumbered_entry start old.log e ∷ [] else [])) is

      -- the first ones, and those that wait
      in_two : lasting start old.log ≡ lasting start (take written old.log) ++ lasting_behind start (take written old.log) (drop written old.log)
      in_two =
          ap (lasting start) (sym (take-append-drop written old.log))
          ∙ lasting_append start (take written old.log) (drop written old.log) (omega (arith, has.first, length-take-le written old.log inside))

      bodies_grow : bodies_in (lasting start longer) ≡ bodies_in (lasting start (take written old.log)) ++ group
      bodies_grow =
          ap bodies_in (grows ∙ ap (λ (l : List Entry). l ++ kept_as ∷ []) in_two)
          ∙ map-append body_in (lasting start (take written old.log) ++ lasting_behind start (take written old.log) (drop written old.log)) (kept_as ∷ [])
          ∙ ap (λ (l : List (List ℕ)). l ++ body_in kept_as ∷ []) (map-append body_in (lasting start (take written old.log)) (lasting_behind start (take written old.log) (drop written old.log)))
          ∙ ap (λ (l : List (List ℕ)). bodies_in (lasting start (take written old.log)) ++ l ++ body_in kept_as ∷ []) (sym waiting_all)
          ∙ append_assoc (bodies_in (lasting start (take written old.log))) (bodies_waiting queue) (body_in kept_as ∷ [])

      abbrev before : List (List ℕ)
      before = bodies_in (lasting start (take written old.log))

      -- all or none of them
      all_or_none : (file : List ℕ) → HoldsAllOrNone (head_for old.admin) before group file → HoldsLasting old.admin start longer all file
      all_or_none file (inl none) = some_more old.admin start old.log (e ∷ []) all all file (omega arith) (omega arith) (record { count = written; first = has.first; there = inside; enough = unchanged_all; holds = none })
      all_or_none file (inr both) = record {
        count = length longer;
        first = omega (arith, within, long);
        there = omega arith;
        enough = none_behind_all longer (length longer) all (omega (arith, long));
        holds = subst (λ (bs : List (List ℕ)). Holds (head_for old.admin) bs file) (sym (ap (λ (l : List Entry). bodies_in (lasting start l)) all_of_it ∙ bodies_grow)) both;
      }

      module _ (b : StoreView) (stores : Stores modeled group (length longer) a b) (written' : ℕ) (there : b.writer.broken ≡ false → written' ≡ length longer) (not_there : b.writer.broken ≡ true → written' ≡ written) where
        event_durable : IsTrue modeled → KeepsLasting (view_of old start written a) → b.writer.broken ≡ false → IsDurable (head_for old.admin) (bodies_in (lasting start (take written' longer))) b.writer.end b.disk.file
        event_durable t keeps whole =
            subst (λ (bs : List (List ℕ)). IsDurable (head_for old.admin) bs b.writer.end b.disk.file)
            (sym (ap (λ (n : ℕ). bodies_in (lasting start (take n longer))) (there whole) ∙ ap (λ (l : List Entry). bodies_in (lasting start l)) all_of_it ∙ bodies_grow))
            (stores.durable t whole (head_for old.admin) before (keeps.durable unbroken))

        event_moments : IsTrue modeled → KeepsLasting (view_of old start written a) → LeavesOnly (HoldsLasting old.admin start longer a.stored) a.disk.file b.disk.file
        event_moments t keeps =
            weaker (HoldsAllOrNone (head_for old.admin) before group) (HoldsLasting old.admin start longer a.stored) a.disk.file b.disk.file
            (λ file held. subst (λ (n : ℕ). HoldsLasting old.admin start longer n file) (sym a_whole) (all_or_none file held))
            (stores.any_moment t unbroken (head_for old.admin) before (keeps.durable unbroken))

        event_leaves : IsTrue modeled → KeepsLasting (view_of old start written a) → Leaves (HoldsLasting old.admin start longer b.stored) b.disk.file.pending
        event_leaves t keeps =
            elim (cases_Bool b.writer.broken) [
              | inl broken ↦
                  subst (λ (n : ℕ). Leaves (HoldsLasting old.admin start longer n) b.disk.file.pending) (sym (stores.kept broken))
                  (at_the_end (HoldsLasting old.admin start longer a.stored) a.disk.file b.disk.file (event_moments t keeps))
              | inr whole ↦
                  let here = there whole in
                  durable_leaves old.admin start written' longer b.stored b.writer.end b.disk.file (omega (arith, here, within, long)) (omega (arith, here))
                  (none_behind_all longer written' b.stored (omega (arith, here, stores.told whole))) (event_durable t keeps whole)
            ]

        -- no fewer are answered, and at most one more
        more_stored : (a.stored ≤ b.stored) × (b.stored ≤ a.stored + 1) × (length longer ≤ b.stored + 1) × (b.stored ≤ length longer)
        more_stored =
            elim (cases_Bool b.writer.broken) [
              | inl broken ↦ let it = stores.kept broken in (omega (arith, it), omega (arith, it), omega (arith, it, a_whole, long), omega (arith, it, a_whole, long))
              | inr whole ↦ let it = stores.told whole in (omega (arith, it, a_whole, long), omega (arith, it, a_whole, long), omega (arith, it), omega (arith, it))
            ]

        event_goes : IsStorableEntry kept_as → GoesOnLasting modeled (view_of old start written a) (view_of (logged old caller event) start written' b)
        event_goes able = record {
          start = refl;
          admin = refl;
          more = e ∷ [];
          grows = refl;
          storable = subst AreStorableEntries (sym one_behind) (able, tt);
          stored = more_stored.0;
          counted = stores.counted;
          stays_broken = λ broken. let clash : true ≡ false = sym broken ∙ unbroken in absurd cc;
          fault = stores.fault;
          no_fault = stores.no_fault;
          runs = λ t keeps. record { within = more_stored.3; durable = event_durable t keeps; leaves = event_leaves t keeps };
          any_moment = event_moments;
        }

        -- where a call of the disk failed, what is answered is what was
        same_first : b.writer.broken ≡ true → take b.stored longer ≡ take a.stored old.log
        same_first broken = ap (λ (n : ℕ). take n longer) (stores.kept broken) ∙ take-append-le a.stored old.log (e ∷ []) has.answered

        as_before : b.writer.broken ≡ true → answered (view_of (logged old caller event) start written' b) ≡ answered (view_of old start written a)
        as_before broken = ap (λ (l : List Entry). record { admin = old.admin; log = l }) (same_first broken)

        event_has : HasStored (view_of (logged old caller event) start written' b)
        event_has =
            elim (cases_Bool b.writer.broken) [
              | inl broken ↦ let here = not_there broken in record {
                at_gate = stores.at_gate;
                first = omega (arith, here, has.first);
                written = omega (arith, here, has.written, more_stored.0);
                answered = more_stored.3;
                last = more_stored.2;
                whole = stores.told;
                unchanged = subst ChangeNothing (sym (ap (λ (n : ℕ). drop n (take b.stored longer)) here ∙ ap (drop written) (same_first broken))) has.unchanged;
              }
              | inr whole ↦ let here = there whole in record {
                at_gate = stores.at_gate;
                first = omega (arith, here, within, long);
                written = omega (arith, here, stores.told whole);
                answered = more_stored.3;
                last = more_stored.2;
                whole = stores.told;
                unchanged = none_behind_all longer written' b.stored (omega (arith, here, stores.told whole));
              }
            ]

        module _ (places' : List ℕ) (queue' : List Queued) (noted : b.writer.broken ≡ false → (places' ≡ places ++ a.stored ∷ []) × (queue' ≡ [])) (unnoted : b.writer.broken ≡ true → (places' ≡ places) × (queue' ≡ queue)) where
          event_listed : places' ≡ lasting_places start (take b.stored longer)
          event_listed =
              elim (cases_Bool b.writer.broken) [
                | inl broken ↦ (unnoted broken).0 ∙ listed ∙ ap (lasting_places start) (sym (same_first broken))
                | inr whole ↦ (noted whole).0 ∙ places_noted ∙ ap (lasting_places start) (sym (take_all b.stored longer (omega (arith, stores.told whole))))
              ]

          event_waiting : bodies_waiting queue' ≡ waiting_in start written' b.stored longer
          event_waiting =
              elim (cases_Bool b.writer.broken) [
                | inl broken ↦
                    ap bodies_waiting (unnoted broken).1 ∙ waiting
                    ∙ ap₂ (λ (l m : List Entry). bodies_in (lasting_behind start l (drop written m))) (sym first_of_it) (sym (same_first broken))
                    ∙ ap (λ (n : ℕ). waiting_in start n b.stored longer) (sym (not_there broken))
                | inr whole ↦
                    ap bodies_waiting (noted whole).1
                    ∙ ap (λ (l : List Entry). bodies_in (lasting_behind start (take written' longer) l)) (sym (drop_all written' (take b.stored longer) (omega (arith, there whole, stores.told whole, length-take-le b.stored longer more_stored.3))))
              ]

          pub event_stored : IsStorableEntry kept_as → StoresOne modeled old (logged old caller event) start written a b written' places' queue'
          event_stored able = record {
            goes = by_one modeled (view_of old start written a) (view_of (logged old caller event) start written' b) (event_goes able) more_stored.1;
            has = event_has;
            kept = as_before;
            listed = event_listed;
            waiting = event_waiting;
          }

-- ---- whether an event was made, and whether it lasts

-- the log's length, where an event was made or not
same_length : (old new : HubView) → new ≡ old → length new.log ≡ length old.log
same_length old new is = ap (λ (h : HubView). length h.log) is

none_there : (log : List Entry) (place : ℕ) → length log ≤ place → slice_get log place ≡ None
none_there [] place late = refl
none_there (e ∷ log) zero late = absurd (omega (arith, late))
none_there (e ∷ log) (suc n) late = none_there log n (omega (arith, late))

there_last : (log : List Entry) (e : Entry) → slice_get (log ++ e ∷ []) (length log) ≡ Some e
there_last [] e = refl
there_last (x ∷ log) e = there_last log e

-- an event that waits is a granted opening for writing: it lasts, and changes nothing
waits_lasts : (event : Event) → waits event ≡ true → (lasts event ≡ true) × ¬ MayChange event
waits_lasts (Entered user repo Write Granted) is = (refl, λ made. let clash : Granted ≡ Created = made in absurd cc)
waits_lasts (Entered user repo Read Granted) is = absurd cc
waits_lasts (Entered user repo want Created) is = absurd cc
waits_lasts (Entered user repo want (Denied verdict)) is = absurd cc
waits_lasts (Entered user repo want NoRepo) is = absurd cc
waits_lasts (was.Pushed place pack commands atomic outcomes made) is = absurd cc
waits_lasts (Permitted user repo asked answer) is = absurd cc
waits_lasts (was.Looked user) is = absurd cc

event_is : (one other : Event) → Some one ≡ Some other → one ≡ other
event_is one other e = cc

module _ (modeled : Bool) (old new : HubView) (start written : ℕ) (a b : StoreView) (written' : ℕ) (places places' : List ℕ) (queue queue' : List Queued) (has : HasStored (view_of old start written a)) (unbroken : a.writer.broken ≡ false)
    (listed : places ≡ lasting_places start (take a.stored old.log)) (waiting : bodies_waiting queue ≡ waiting_in start written a.stored old.log) where
  same_count : (n : ℕ) → a.stored ≡ n → record a { stored = n } ≡ a
  same_count n is = λ i. record a { stored = sym is i }

  abbrev One : HubView → StoreView → ℕ → List ℕ → List Queued → Type 0
  One hub store n ps qs = StoresOne modeled old hub start written a store n ps qs

  -- the same, with what is known of it
  One_is : (hub : HubView) (store : StoreView) (n : ℕ) (ps : List ℕ) (qs : List Queued) → new ≡ hub → b ≡ store → written' ≡ n → places' ≡ ps → queue' ≡ qs → One hub store n ps qs → One new b written' places' queue'
  One_is hub store n ps qs hub_is store_is n_is ps_is qs_is one =
      subst (λ (h : HubView). One h b written' places' queue') (sym hub_is)
      (subst (λ (s : StoreView). One hub s written' places' queue') (sym store_is)
      (subst (λ (m : ℕ). One hub store m places' queue') (sym n_is)
      (subst (λ (l : List ℕ). One hub store n l queue') (sym ps_is)
      (subst (λ (l : List Queued). One hub store n ps l) (sym qs_is) one))))

  -- what was accounted for from a state that is the first one
  pub did_from : (group : List (List ℕ)) (count : ℕ) (is_lasting : Bool) (from : StoreView) (from_written : ℕ) (from_places : List ℕ) (from_queue : List Queued) → from ≡ a → from_written ≡ written → from_places ≡ places → from_queue ≡ queue
      → AccountsFor modeled group count is_lasting from b from_written written' from_places places' from_queue queue' → AccountsFor modeled group count is_lasting a b written written' places places' queue queue'
  did_from group count is_lasting from from_written from_places from_queue from_is written_is places_is queue_is did =
      subst (λ (s : StoreView). AccountsFor modeled group count is_lasting s b written written' places places' queue queue') from_is
      (subst (λ (n : ℕ). AccountsFor modeled group count is_lasting from b n written' places places' queue queue') written_is
      (subst (λ (l : List ℕ). AccountsFor modeled group count is_lasting from b from_written written' l places' queue queue') places_is
      (subst (λ (l : List Queued). AccountsFor modeled group count is_lasting from b from_written written' from_places places' l queue') queue_is did)))

  pub one_stored : (caller : ℕ) (e : Option Event) (request : Request) (group : List (List ℕ)) (count : ℕ) (is_lasting : Bool) → Logs old new caller e
      → ((event : Event) → e ≡ Some event → request_of (renumbered start old.log event) ≡ request) → group ≡ bodies_waiting queue ++ body_of caller request ∷ [] → IsStorable caller request
      → count ≡ length new.log → is_lasting ≡ lasts_in (slice_get new.log a.stored) → AccountsFor modeled group count is_lasting a b written written' places places' queue queue' → One new b written' places' queue'
  one_stored caller None request group count is_lasting logs asks is able count_is lasting_is did =
      let whole : a.stored ≡ count = has.whole unbroken ∙ sym (same_length old new logs) ∙ sym count_is in
      let no : is_lasting ≡ false =
      lasting_is ∙ ap (λ (h : HubView). lasts_in (slice_get h.log a.stored)) logs ∙ ap lasts_in (none_there old.log a.stored (omega (arith, has.whole unbroken))) in
      let left = did.none no in
      One_is old a written places queue logs (left.0 ∙ same_count count whole) left.1 left.2 left.3 (nothing_stored modeled old start written a places queue has unbroken listed waiting)
  one_stored caller (Some event) request group count is_lasting logs asks is able count_is lasting_is did =
      let long : count ≡ length (old.log ++ entry_of caller event ∷ []) = count_is ∙ same_length (logged old caller event) new logs in
      let there : is_lasting ≡ lasts event =
      lasting_is ∙ ap (λ (h : HubView). lasts_in (slice_get h.log a.stored)) logs ∙ ap (λ (n : ℕ). lasts_in (slice_get (old.log ++ entry_of caller event ∷ []) n)) (has.whole unbroken)
      ∙ ap lasts_in (there_last old.log (entry_of caller event)) in
      elim (cases_Bool (lasts event)) [
        | inl lasts_is ↦
            let yes = there ∙ lasts_is in
            let group_is : group ≡ bodies_waiting queue ++ body_in (renumbered_entry start old.log (entry_of caller event)) ∷ [] = is ∙ ap (λ (r : Request). bodies_waiting queue ++ body_of caller r ∷ []) (sym (asks event refl)) in
            One_is (logged old caller event) b written' places' queue' logs refl refl refl refl
            (event_stored modeled old start written a places queue has unbroken listed waiting caller event lasts_is b
            (subst (λ (g : List (List ℕ)). Stores modeled g (length (old.log ++ entry_of caller event ∷ [])) a b) group_is (subst (λ (n : ℕ). Stores modeled group n a b) long (did.stores yes)))
            written' (λ whole. (did.noted yes whole).0 ∙ long) (λ broken. (did.unnoted yes broken).0) places' queue' (λ whole. ((did.noted yes whole).1, (did.noted yes whole).2)) (λ broken. ((did.unnoted yes broken).1, (did.unnoted yes broken).2))
            (subst (IsStorable caller) (sym (asks event refl)) able))
        | inr passes ↦
            let left = did.none (there ∙ passes) in
            One_is (logged old caller event) (record a { stored = length (old.log ++ entry_of caller event ∷ []) }) written places queue logs (left.0 ∙ ap (λ (n : ℕ). record a { stored = n }) long) left.1 left.2 left.3
            (event_passed modeled old start written a places queue has unbroken listed waiting caller event passes)
      ]

  -- an opening that waits
  pub one_waits : (caller : ℕ) (user repo : Name) (want : Want) (answer : Option EnterKept) → Logs old new caller (opened user repo want answer) → waits_in (slice_get new.log a.stored) ≡ true
      → IsStorable caller (Enter user repo want) → b ≡ record a { stored = length new.log } → written' ≡ written → places' ≡ places ++ a.stored ∷ [] → queue' ≡ queue ++ record { caller = caller; user = user; repo = repo } ∷ []
      → One new b written' places' queue'
  one_waits caller user repo want None logs is able b_is written_is places_is queue_is =
      let no : false ≡ true = sym (ap (λ (h : HubView). waits_in (slice_get h.log a.stored)) logs ∙ ap waits_in (none_there old.log a.stored (omega (arith, has.whole unbroken)))) ∙ is in absurd cc
  one_waits caller user repo want (Some answer) logs is able b_is written_is places_is queue_is =
      let event : Event = Entered user repo want answer in
      let there : waits event ≡ true =
      sym (ap (λ (h : HubView). waits_in (slice_get h.log a.stored)) logs ∙ ap (λ (n : ℕ). waits_in (slice_get (old.log ++ entry_of caller event ∷ []) n)) (has.whole unbroken) ∙ ap waits_in (there_last old.log (entry_of caller event))) ∙ is in
      let both = waits_lasts event there in
      let writes = for_writing want answer there in
      One_is (logged old caller event) (record a { stored = length (old.log ++ entry_of caller event ∷ []) }) written (places ++ a.stored ∷ []) (queue ++ record { caller = caller; user = user; repo = repo } ∷ []) logs
      (b_is ∙ ap (λ (h : HubView). record a { stored = length h.log }) logs) written_is places_is queue_is
      (event_waits modeled old start written a places queue has unbroken listed waiting caller event both.0 (record { caller = caller; user = user; repo = repo }) both.1
      (ap (λ (w : Want). body_of caller (Enter user repo w)) (sym writes)) able)
    where
      for_writing : (want : Want) (answer : EnterKept) → waits (Entered user repo want answer) ≡ true → want ≡ Write
      for_writing Write answer is = refl
      for_writing Read Granted is = absurd cc
      for_writing Read Created is = absurd cc
      for_writing Read (Denied verdict) is = absurd cc
      for_writing Read NoRepo is = absurd cc

  -- where no event that lasts can have been made
  pub none_lasts : (caller : ℕ) (e : Option Event) (count : ℕ) → Logs old new caller e → ((event : Event) → e ≡ Some event → lasts event ≡ false) → count ≡ length new.log
      → b ≡ record a { stored = count } → written' ≡ written → places' ≡ places → queue' ≡ queue → One new b written' places' queue'
  none_lasts caller None count logs passes count_is b_is written_is places_is queue_is =
      let whole : a.stored ≡ count = has.whole unbroken ∙ sym (same_length old new logs) ∙ sym count_is in
      One_is old a written places queue logs (b_is ∙ same_count count whole) written_is places_is queue_is (nothing_stored modeled old start written a places queue has unbroken listed waiting)
  none_lasts caller (Some event) count logs passes count_is b_is written_is places_is queue_is =
      let long : count ≡ length (old.log ++ entry_of caller event ∷ []) = count_is ∙ same_length (logged old caller event) new logs in
      One_is (logged old caller event) (record a { stored = length (old.log ++ entry_of caller event ∷ []) }) written places queue logs (b_is ∙ ap (λ (n : ℕ). record a { stored = n }) long) written_is places_is queue_is
      (event_passed modeled old start written a places queue has unbroken listed waiting caller event (passes event refl))

-- ---- the event of an answer is that of its request

module _ (start : ℕ) (before : List Entry) where
  -- the request of an event as it is stored
  abbrev stored_as : Event → Request
  stored_as event = request_of (renumbered start before event)

  pub of_opening : (user repo : Name) (want : Want) (answer : Option EnterKept) (event : Event) → opened user repo want answer ≡ Some event → stored_as event ≡ Enter user repo want
  of_opening user repo want None event is = absurd cc
  of_opening user repo want (Some answer) event is = ap stored_as (sym (event_is _ event is))

  pub of_push : (pin : Opening) (pack : List Content) (commands : List Command) (atomic : Bool) (answer : Pushed) (event : Event) → settled pin pack commands atomic answer ≡ Some event
      → stored_as event ≡ Push (place_among start before pin.place) pack commands atomic
  of_push pin pack commands atomic (push.Settled outcomes made conf) event is = ap stored_as (sym (event_is _ event is))
  of_push pin pack commands atomic (push.NoMemory back) event is = absurd cc

  pub of_change : (user repo : Name) (asked : PermChange) (answer : Option PermsKept) (event : Event) → permitted user repo asked answer ≡ Some event → stored_as event ≡ Permit user repo asked
  of_change user repo asked None event is = absurd cc
  of_change user repo asked (Some answer) event is = ap stored_as (sym (event_is _ event is))

-- a listing doesn't last
pub look_passes : (user : Name) (answer : Looked) (event : Event) → looked user answer ≡ Some event → lasts event ≡ false
look_passes user (look.Lines lines) event is = ap lasts (sym (event_is _ event is))
look_passes user look.NoMemory event is = absurd cc

-- nor does a listing of roles
pub list_passes : AnswersTellOfRoles → (old new : HubView) (caller : ℕ) (user repo : Name) (answer : Option PermsKept) → Logs old new caller (permitted user repo change.List answer) → IsLegal new.admin new.log
    → (event : Event) → permitted user repo change.List answer ≡ Some event → lasts event ≡ false
list_passes tells old new caller user repo None logs legal event is = absurd cc
list_passes tells old new caller user repo (Some AlreadySo) logs legal event is = ap lasts (sym (event_is _ event is))
list_passes tells old new caller user repo (Some NotWild) logs legal event is = ap lasts (sym (event_is _ event is))
list_passes tells old new caller user repo (Some NotCreator) logs legal event is = ap lasts (sym (event_is _ event is))
list_passes tells old new caller user repo (Some NoSuchRole) logs legal event is = ap lasts (sym (event_is _ event is))
list_passes tells old new caller user repo (Some Listed) logs legal event is = ap lasts (sym (event_is _ event is))
list_passes tells old new caller user repo (Some Changed) logs legal event is =
    let told = tells old.admin old.log (entry_of caller (Permitted user repo change.List Changed)) user repo change.List Changed (subst (λ (h : HubView). IsLegal h.admin h.log) logs legal) refl in
    absurd told.0.1

-- ---- the place of a pin

few_taken : (count : ℕ) (log : List Entry) → length (take count log) ≤ length log
few_taken zero log = omega arith
few_taken (suc n) [] = omega arith
few_taken (suc n) (e ∷ log) = omega (arith, few_taken n log)

is_there : (log : List Entry) (place : ℕ) (e : Entry) → slice_get log place ≡ Some e → place < length log
is_there [] place e is = cc
is_there (x ∷ log) zero e is = omega arith
is_there (x ∷ log) (suc n) e is = omega (arith, is_there log n e is)

-- it is that of an entry of the log
pub pin_within : (pin : Opening) (admin : Name) (log : List Entry) (count : ℕ) → Stands pin admin (take count log) → pin.place ≤ length log
pin_within pin admin log count stands = omega (arith, is_there (take count log) pin.place _ (pinned_at admin (take count log) pin.place pin.pinned stands).stands, few_taken count log)
