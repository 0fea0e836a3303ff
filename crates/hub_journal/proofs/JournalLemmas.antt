-- How a journal goes on: from call to call, and by one event.
use Rattle.std.proofs.Common.{◌≡◌, ◌⊎◌, inl, inr, ℕ, zero, suc, ◌≤◌, Bool, true, false, List, [], ◌∷◌, ◌++◌, length, take, refl, sym, ◌∙◌, ap, subst, arith, append_assoc, append-nil, length-append}
use Rattle.std.specs.Prelude.{IsTrue}
use Rattle.std.specs.List.{All}
use Rattle.std.proofs.lemmas.List.{take-append-le, map-append, ext_get_or}
use Rattle.std.proofs.lemmas.List.Elements.{All-append}
use Rattle.base_types.specs.Counts.{HasRisen}
use Rattle.ref_store.specs.Refs.{Name}
use Rattle.hub_history.specs.declared.entry.Entry.{Entry}
use Rattle.hub.specs.Hub.{HubView}
use Rattle.record_file.specs.Crashes.{FileState, Leaves, LeavesOnly, MayLeave, Pending, settled}
use Rattle.record_file.specs.Disks.{DiskState}
use Rattle.record_file.specs.Files.{IsDurable, WriterState}
use Rattle.record_file.specs.Records.{Holds, HoldsAllOrNone}
use Rattle.hub_journal.specs.Events.{AreStorableEntries, HoldsEvents, HoldsSome, IsStorableEntry, bodies_in, body_in, head_for}
use Rattle.hub_journal.specs.Journal.{GoesOn, IsRunning, IsSound, JournalView, StoreView, Stores}

-- ---- moments

all_one : {X : Type 0} (P : X → Type 0) (x : X) → P x → All P (x ∷ [])
all_one P x holds zero d lt = holds
all_one P x holds (suc k) d lt = absurd (omega (arith, lt))

all_rest : {X : Type 0} (P : X → Type 0) (x : X) (xs : List X) → All P (x ∷ xs) → All P xs
all_rest P x xs all k d lt = all (suc k) d (omega (arith, lt))

-- before the first call
pub starts : (P : List ℕ → Type 0) (a : FileState) → Leaves P a.pending → LeavesOnly P a a
starts P a here = record { between = []; later = refl; each = all_one (Leaves P) a.pending here }

-- the one run after the other
pub goes_on : (P : List ℕ → Type 0) (a b c : FileState) → LeavesOnly P a b → LeavesOnly P b c → LeavesOnly P a c
goes_on P a b c first second = record {
  between = second.between ++ first.between;
  later = second.later ∙ ap (λ (l : List Pending). second.between ++ l) first.later ∙ sym (append_assoc second.between first.between a.past);
  each = All-append (Leaves P) (c.pending ∷ second.between) first.between second.each (all_rest (Leaves P) b.pending first.between first.each);
}

pub weaker : (P Q : List ℕ → Type 0) (a b : FileState) → ((c : List ℕ) → P c → Q c) → LeavesOnly P a b → LeavesOnly Q a b
weaker P Q a b implies only = record { between = only.between; later = only.later; each = λ k d lt file may. implies file (only.each k d lt file may) }

-- what is left at the end
pub at_the_end : (P : List ℕ → Type 0) (a b : FileState) → LeavesOnly P a b → Leaves P b.pending
at_the_end P a b only = only.each 0 b.pending (omega arith)

only_this : (file c : List ℕ) → MayLeave (settled file) c → c ≡ file
only_this file c m = ext_get_or 0 c file (omega (arith, m.no_shorter, m.no_longer)) (λ i lt. m.stays i (omega (arith, lt, m.no_longer)) (λ none. none))

-- ---- more of a log

-- what holds some events of a log holds some of a longer one, and as many as were enough before
pub some_more : (admin : Name) (log more : List Entry) (least fewer : ℕ) (file : List ℕ) → fewer ≤ least → HoldsSome admin log least file → HoldsSome admin (log ++ more) fewer file
some_more admin log more least fewer file le some = record {
  count = some.count;
  enough = omega (arith, le, some.enough);
  there = omega (arith, some.there, length-append log more);
  holds = subst (λ (l : List Entry). HoldsEvents admin l file) (sym (take-append-le some.count log more some.there)) some.holds;
}

take_whole : (log : List Entry) → take (length log) log ≡ log
take_whole [] = refl
take_whole (e ∷ log) = ap (λ (l : List Entry). e ∷ l) (take_whole log)

pub whole_log : (admin : Name) (log : List Entry) (least : ℕ) (file : List ℕ) → least ≤ length log → HoldsEvents admin log file → HoldsSome admin log least file
whole_log admin log least file le holds = record {
  count = length log;
  enough = le;
  there = omega arith;
  holds = subst (λ (l : List Entry). HoldsEvents admin l file) (sym (take_whole log)) holds;
}

-- all or none of one event is some of the longer log
pub all_or_none : (admin : Name) (log : List Entry) (e : Entry) (file : List ℕ) → HoldsAllOrNone (head_for admin) (bodies_in log) (body_in e ∷ []) file → HoldsSome admin (log ++ e ∷ []) (length log) file
all_or_none admin log e file (inl none) = some_more admin log (e ∷ []) (length log) (length log) file (omega arith) (whole_log admin log (length log) file (omega arith) none)
all_or_none admin log e file (inr all) =
    whole_log admin (log ++ e ∷ []) (length log) file (omega (arith, length-append log (e ∷ [])))
    (subst (λ (bs : List (List ℕ)). Holds (head_for admin) bs file) (sym (map-append body_in log (e ∷ []))) all)

-- a file that holds all, of which nothing is pending
pub durable_leaves : (admin : Name) (log : List Entry) (end : ℕ) (file : FileState) → IsDurable (head_for admin) (bodies_in log) end file → Leaves (HoldsSome admin log (length log)) file.pending
durable_leaves admin log end file durable =
    subst (λ (p : Pending). Leaves (HoldsSome admin log (length log)) p) (sym durable.settled)
    (λ c m. subst (HoldsSome admin log (length log)) (sym (only_this file.content c m)) (whole_log admin log (length log) file.content (omega arith) durable.holds))

-- ---- from call to call

risen_on : (a b c : ℕ) → HasRisen a b → b ≤ c → HasRisen a c
risen_on a b c risen le = omega (arith, risen, le)

on_risen : (a b c : ℕ) → a ≤ b → HasRisen b c → HasRisen a c
on_risen a b c le risen = omega (arith, risen, le)

pub both_storable : (one two : List Entry) → AreStorableEntries one → AreStorableEntries two → AreStorableEntries (one ++ two)
both_storable [] two first second = second
both_storable (e ∷ one) two first second = (first.0, both_storable one two first.1 second)

pub stays : (modeled : Bool) (j : JournalView) → GoesOn modeled j j
stays modeled j = record {
  start = refl;
  admin = refl;
  more = [];
  grows = sym (append-nil j.hub.log);
  storable = tt;
  stored = omega arith;
  counted = omega arith;
  stays_broken = λ broken. refl;
  fault = λ broken. inl broken;
  no_fault = λ unbroken. refl;
  runs = λ t running. running;
  any_moment = λ t running. starts (HoldsSome j.hub.admin j.hub.log j.store.stored) j.store.disk.file running.leaves;
}

broken_cases : (b : Bool) → (b ≡ true) ⊎ (b ≡ false)
broken_cases true = inl refl
broken_cases false = inr refl

fault_then : (modeled : Bool) (a b c : JournalView) → GoesOn modeled a b → GoesOn modeled b c → c.store.writer.broken ≡ true → (a.store.writer.broken ≡ true) ⊎ HasRisen a.store.disk.disk_faults c.store.disk.disk_faults
fault_then modeled a b c one two broken =
    elim (two.fault broken) [
      | inl before ↦ elim (one.fault before) [
        | inl first ↦ inl first
        | inr risen ↦ inr (risen_on a.store.disk.disk_faults b.store.disk.disk_faults c.store.disk.disk_faults risen two.counted)
      ]
      | inr risen ↦ inr (on_risen a.store.disk.disk_faults b.store.disk.disk_faults c.store.disk.disk_faults one.counted risen)
    ]

no_fault_then : (modeled : Bool) (a b c : JournalView) → GoesOn modeled a b → GoesOn modeled b c → c.store.writer.broken ≡ false → c.store.disk.disk_faults ≡ a.store.disk.disk_faults
no_fault_then modeled a b c one two unbroken =
    elim (broken_cases b.store.writer.broken) [
      | inl broken ↦ let clash : true ≡ false = sym broken ∙ ap (λ (s : StoreView). s.writer.broken) (sym (two.stays_broken broken)) ∙ unbroken in absurd cc
      | inr whole ↦ two.no_fault unbroken ∙ one.no_fault whole
    ]

-- the hub of a journal that went on
later : (modeled : Bool) (a b : JournalView) (on : GoesOn modeled a b) → b.hub ≡ record { admin = a.hub.admin; log = a.hub.log ++ on.more }
later modeled a b on = λ i. record { admin = on.admin i; log = on.grows i }

pub composes : (modeled : Bool) (a b c : JournalView) → GoesOn modeled a b → GoesOn modeled b c → GoesOn modeled a c
composes modeled a b c one two = record {
  start = two.start ∙ one.start;
  admin = two.admin ∙ one.admin;
  more = one.more ++ two.more;
  grows = two.grows ∙ ap (λ (l : List Entry). l ++ two.more) one.grows ∙ append_assoc a.hub.log one.more two.more;
  storable = both_storable one.more two.more one.storable two.storable;
  stored = omega (arith, one.stored, two.stored);
  counted = omega (arith, one.counted, two.counted);
  stays_broken = λ broken. two.stays_broken (ap (λ (s : StoreView). s.writer.broken) (one.stays_broken broken) ∙ broken) ∙ one.stays_broken broken;
  fault = fault_then modeled a b c one two;
  no_fault = no_fault_then modeled a b c one two;
  runs = λ t running. two.runs t (one.runs t running);
  any_moment = λ t running.
      goes_on (HoldsSome c.hub.admin c.hub.log a.store.stored) a.store.disk.file b.store.disk.file c.store.disk.file
      (weaker (HoldsSome b.hub.admin b.hub.log a.store.stored) (HoldsSome c.hub.admin c.hub.log a.store.stored) a.store.disk.file b.store.disk.file
      (λ file some. subst (λ (h : HubView). HoldsSome h.admin h.log a.store.stored file) (sym (later modeled b c two)) (some_more b.hub.admin b.hub.log two.more a.store.stored a.store.stored file (omega arith) some))
      (one.any_moment t running))
      (weaker (HoldsSome c.hub.admin c.hub.log b.store.stored) (HoldsSome c.hub.admin c.hub.log a.store.stored) b.store.disk.file c.store.disk.file
      (λ file some. record { count = some.count; enough = omega (arith, one.stored, some.enough); there = some.there; holds = some.holds })
      (two.any_moment t (one.runs t running)));
}

-- ---- by one event

abbrev view_of : HubView → ℕ → StoreView → JournalView
view_of hub start store = record { hub = hub; start = start; store = store }

abbrev one_more : Name → List Entry → Entry → HubView
one_more admin log e = record { admin = admin; log = log ++ e ∷ [] }

still_broken : (modeled : Bool) (group : List (List ℕ)) (count : ℕ) (a b : StoreView) → Stores modeled group count a b → a.writer.broken ≡ true → b.writer.broken ≡ true
still_broken modeled group count a b stores broken = ap (λ (w : WriterState). w.broken) (stores.stays_broken broken).0 ∙ broken

was_whole : (modeled : Bool) (group : List (List ℕ)) (count : ℕ) (a b : StoreView) → Stores modeled group count a b → b.writer.broken ≡ false → a.writer.broken ≡ false
was_whole modeled group count a b stores unbroken =
    elim (broken_cases a.writer.broken) [
      | inl broken ↦ let clash : true ≡ false = sym (still_broken modeled group count a b stores broken) ∙ unbroken in absurd cc
      | inr whole ↦ whole
    ]

same_store : (modeled : Bool) (group : List (List ℕ)) (count : ℕ) (a b : StoreView) → Stores modeled group count a b → a.writer.broken ≡ true → b ≡ a
same_store modeled group count a b stores broken =
    let same = stores.stays_broken broken in
    let stored : b.stored ≡ a.stored = stores.kept (still_broken modeled group count a b stores broken) in
    λ i. record { stored = stored i; writer = same.0 i; disk = same.1 i }

stored_stays : (modeled : Bool) (group : List (List ℕ)) (count : ℕ) (a b : StoreView) → Stores modeled group count a b → a.stored ≤ count → a.stored ≤ b.stored
stored_stays modeled group count a b stores le =
    elim (broken_cases b.writer.broken) [
      | inl broken ↦ let same = stores.kept broken in omega (arith, same)
      | inr whole ↦ let is = stores.told whole in omega (arith, is, le)
    ]

module _ (modeled : Bool) (admin : Name) (log : List Entry) (start : ℕ) (a b : StoreView) (e : Entry) (sound : IsSound (view_of (record { admin = admin; log = log }) start a)) (stores : Stores modeled (body_in e ∷ []) (length (log ++ e ∷ [])) a b) where
  event_durable : IsTrue modeled → IsRunning (view_of (record { admin = admin; log = log }) start a) → b.writer.broken ≡ false → IsDurable (head_for admin) (bodies_in (log ++ e ∷ [])) b.writer.end b.disk.file
  event_durable t running unbroken =
      let was = was_whole modeled (body_in e ∷ []) (length (log ++ e ∷ [])) a b stores unbroken in
      subst (λ (bs : List (List ℕ)). IsDurable (head_for admin) bs b.writer.end b.disk.file) (sym (map-append body_in log (e ∷ [])))
      (stores.durable t unbroken (head_for admin) (bodies_in log) (running.durable was))

  more_left : (file : List ℕ) → HoldsSome admin log a.stored file → HoldsSome admin (log ++ e ∷ []) a.stored file
  more_left file some = some_more admin log (e ∷ []) a.stored a.stored file (omega arith) some

  event_moments : IsTrue modeled → IsRunning (view_of (record { admin = admin; log = log }) start a) → LeavesOnly (HoldsSome admin (log ++ e ∷ []) a.stored) a.disk.file b.disk.file
  event_moments t running =
      elim (broken_cases a.writer.broken) [
        | inl broken ↦
            subst (λ (d : DiskState). LeavesOnly (HoldsSome admin (log ++ e ∷ []) a.stored) a.disk.file d.file) (sym (stores.stays_broken broken).1)
            (starts (HoldsSome admin (log ++ e ∷ []) a.stored) a.disk.file (λ file may. more_left file (running.leaves file may)))
        | inr whole ↦
            weaker (HoldsAllOrNone (head_for admin) (bodies_in log) (body_in e ∷ [])) (HoldsSome admin (log ++ e ∷ []) a.stored) a.disk.file b.disk.file
            (λ file held. subst (λ (n : ℕ). HoldsSome admin (log ++ e ∷ []) n file) (sym (sound.whole whole)) (all_or_none admin log e file held))
            (stores.any_moment t whole (head_for admin) (bodies_in log) (running.durable whole))
      ]

  event_leaves : IsTrue modeled → IsRunning (view_of (record { admin = admin; log = log }) start a) → Leaves (HoldsSome admin (log ++ e ∷ []) b.stored) b.disk.file.pending
  event_leaves t running =
      elim (broken_cases b.writer.broken) [
        | inl broken ↦
            subst (λ (n : ℕ). Leaves (HoldsSome admin (log ++ e ∷ []) n) b.disk.file.pending) (sym (stores.kept broken))
            (at_the_end (HoldsSome admin (log ++ e ∷ []) a.stored) a.disk.file b.disk.file (event_moments t running))
        | inr whole ↦
            subst (λ (n : ℕ). Leaves (HoldsSome admin (log ++ e ∷ []) n) b.disk.file.pending) (sym (stores.told whole))
            (durable_leaves admin (log ++ e ∷ []) b.writer.end b.disk.file (event_durable t running whole))
      ]

  pub one_event : IsStorableEntry e → GoesOn modeled (view_of (record { admin = admin; log = log }) start a) (view_of (one_more admin log e) start b)
  one_event able = record {
    start = refl;
    admin = refl;
    more = e ∷ [];
    grows = refl;
    storable = (able, tt);
    stored = stored_stays modeled (body_in e ∷ []) (length (log ++ e ∷ [])) a b stores (omega (arith, sound.stored, length-append log (e ∷ [])));
    counted = stores.counted;
    stays_broken = same_store modeled (body_in e ∷ []) (length (log ++ e ∷ [])) a b stores;
    fault = stores.fault;
    no_fault = stores.no_fault;
    runs = λ t running. record { durable = event_durable t running; leaves = event_leaves t running };
    any_moment = event_moments;
  }

  stored_within : b.stored ≤ length (log ++ e ∷ [])
  stored_within =
      elim (broken_cases b.writer.broken) [
        | inl broken ↦ let same = stores.kept broken in omega (arith, same, sound.stored, length-append log (e ∷ []))
        | inr whole ↦ let is = stores.told whole in omega (arith, is)
      ]

  pub still_sound : IsSound (view_of (one_more admin log e) start b)
  still_sound = record {
    within = omega (arith, sound.within, length-append log (e ∷ []));
    at_gate = stores.at_gate;
    stored = stored_within;
    whole = stores.told;
  }
