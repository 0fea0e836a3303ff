-- The only caller of a hub, and what its calls do to its journal.
use Rattle.std.proofs.Common.{◌≡◌, ℕ, Bool, List, [], ◌∷◌, ◌++◌, refl, sym, ◌∙◌, ap, length, append-nil, append_assoc, subst, arith, length-append}
use Rattle.std.specs.Prelude.{Option, Some, None}
use Rattle.git_object.specs.Content.{Content}
use Rattle.ref_store.specs.Refs.{Name}
use Rattle.ref_store.specs.declared.command.Command.{Command}
use Rattle.access_check.specs.declared.verdicts.Want.{Want}
use Rattle.hub_history.specs.declared.entry.EnterKept.{EnterKept}
use Rattle.hub_history.specs.declared.entry.Entry.{Entry}
use Rattle.hub_history.specs.declared.entry.Event.{Event}
use Rattle.hub_history.specs.declared.entry.PermChange.{PermChange}
use Rattle.hub_history.specs.declared.entry.PermsKept.{PermsKept}
use Rattle.hub_history.specs.History.{IsLegal, Stands}
use Rattle.hub_history.specs.Opening.{Opening}
use Rattle.hub_history.specs.Requests.{Request, Enter, Push, Permit, Look, request_of}
use Rattle.hub_history.proofs.HistoryLemmas.{stands_kept}
use Rattle.hub.specs.declared.answer.Looked.{Looked}
use Rattle.hub.specs.declared.answer.Looked.TheVariants as look
use Rattle.hub.specs.declared.answer.Pushed.{Pushed}
use Rattle.hub.specs.declared.answer.Pushed.TheVariants as push
use Rattle.hub.specs.Answer.{looked, opened, permitted, settled}
use Rattle.hub.specs.Hub.{HubView, Logs, logged}
use Rattle.hub.specs.Desk.{DeskView, Calls, KeepsPins, known, known_alone}
use Rattle.event_record.specs.Bodies.{body_of, IsStorable}
use Rattle.hub_journal.specs.Events.{body_in}
use Rattle.hub_journal.specs.Journal.{GoesOn, IsSound, JournalView, StoreView, Stores}
use Rattle.hub_journal.proofs.JournalLemmas.{composes, one_event, still_sound, stays}

-- ---- as a desk

pub called_alone : (start : ℕ) (old new : HubView) (e : Option Event) → Logs old new 0 e → IsLegal new.admin new.log → Calls (known_alone start old) (known_alone start new) old.log e
called_alone start old new None is legal = ap (known_alone start) is
called_alone start old new (Some e) is legal = record {
  others = [];
  before_is = sym (append-nil old.log);
  of_others = tt;
  own = refl;
  new_is = ap (known_alone start) is;
  no_others = λ known. (refl, refl);
  legal = subst (λ (h : HubView). IsLegal h.admin h.log) is legal;
}

-- after a call every pin that stood stands
pub calls_keep : (old new : DeskView) (before : List Entry) (e : Option Event) → Calls old new before e → KeepsPins old new
calls_keep old new before None calls pin stands = subst (λ (d : DeskView). Stands pin d.admin d.seen) (sym calls) stands
calls_keep old new before (Some e) calls pin stands =
    let own : List Entry = record { caller = old.caller; event = e } ∷ [] in
    let grown : known new ≡ record { admin = old.admin; log = old.seen ++ (calls.others ++ own) } =
    ap known calls.new_is ∙ ap (λ l. record { admin = old.admin; log = l }) (ap (λ l. l ++ own) calls.before_is ∙ append_assoc old.seen calls.others own) in
    subst (λ (h : HubView). Stands pin h.admin h.log) (sym grown) (stands_kept old.admin old.seen (calls.others ++ own) pin.place pin.pinned stands)

-- ---- as a journal

abbrev pub view_of : HubView → ℕ → StoreView → JournalView
view_of hub start store = record { hub = hub; start = start; store = store }

-- the event of a call that made the log longer
made_one : (old new : HubView) (e : Option Event) → Logs old new 0 e → (length old.log ≡ length new.log → ⊥) → (event : Event) × (e ≡ Some event) × (new ≡ logged old 0 event)
made_one old new None is longer = absurd (longer (sym (ap (λ (h : HubView). length h.log) is)))
made_one old new (Some event) is longer = (event, refl, is)

-- a call that didn't made no event
pub made_none : (old new : HubView) (e : Option Event) → Logs old new 0 e → length old.log ≡ length new.log → new ≡ old
made_none old new None is same = is
made_none old new (Some event) is same = absurd (omega (arith, same, ap (λ (h : HubView). length h.log) is, length-append old.log (record { caller = 0; event = event } ∷ [])))

-- the event of a request
abbrev pub IsOf : Option Event → Request → Type 0
IsOf e request = (event : Event) → e ≡ Some event → request_of event ≡ request

event_is : (one other : Event) → Some one ≡ Some other → one ≡ other
event_is one other e = cc

pub of_opening : (user repo : Name) (want : Want) (answer : Option EnterKept) → IsOf (opened user repo want answer) (Enter user repo want)
of_opening user repo want None event is = absurd cc
of_opening user repo want (Some answer) event is = ap request_of (sym (event_is _ event is))

pub of_push : (pin : Opening) (pack : List Content) (commands : List Command) (atomic : Bool) (answer : Pushed) → IsOf (settled pin pack commands atomic answer) (Push pin.place pack commands atomic)
of_push pin pack commands atomic (push.Settled outcomes made conf) event is = ap request_of (sym (event_is _ event is))
of_push pin pack commands atomic (push.NoMemory back) event is = absurd cc

pub of_change : (user repo : Name) (asked : PermChange) (answer : Option PermsKept) → IsOf (permitted user repo asked answer) (Permit user repo asked)
of_change user repo asked None event is = absurd cc
of_change user repo asked (Some answer) event is = ap request_of (sym (event_is _ event is))

pub of_look : (user : Name) (answer : Looked) → IsOf (looked user answer) (Look user)
of_look user (look.Lines lines) event is = ap request_of (sym (event_is _ event is))
of_look user look.NoMemory event is = absurd cc

-- what storing an event's record is, seen from the log that it is in
stores_event : (modeled : Bool) (old new : HubView) (a b : StoreView) (event : Event) (request : Request) (group : List (List ℕ)) → new ≡ logged old 0 event → request_of event ≡ request → group ≡ body_of 0 request ∷ []
    → Stores modeled group (length new.log) a b → Stores modeled (body_in (record { caller = 0; event = event }) ∷ []) (length (old.log ++ record { caller = 0; event = event } ∷ [])) a b
stores_event modeled old new a b event request group grows asks is stores =
    let group_is : group ≡ body_in (record { caller = 0; event = event }) ∷ [] = is ∙ ap (λ (r : Request). body_of 0 r ∷ []) (sym asks) in
    subst (λ (g : List (List ℕ)). Stores modeled g (length (old.log ++ record { caller = 0; event = event } ∷ [])) a b) group_is
    (subst (λ (n : ℕ). Stores modeled group n a b) (ap (λ (h : HubView). length h.log) grows) stores)

module _ (modeled : Bool) (start : ℕ) (old new : HubView) (a b : StoreView) (e : Option Event) (request : Request) (group : List (List ℕ)) (sound : IsSound (view_of old start a)) (logs : Logs old new 0 e) (of : IsOf e request) where
  pub event_goes : (length old.log ≡ length new.log → ⊥) → group ≡ body_of 0 request ∷ [] → IsStorable 0 request → Stores modeled group (length new.log) a b → GoesOn modeled (view_of old start a) (view_of new start b)
  event_goes longer is able stores =
      let made = made_one old new e logs longer in
      subst (λ (h : HubView). GoesOn modeled (view_of old start a) (view_of h start b)) (sym made.2)
      (one_event modeled old.admin old.log start a b (record { caller = 0; event = made.0 }) sound (stores_event modeled old new a b made.0 request group made.2 (of made.0 made.1) is stores) (subst (IsStorable 0) (sym (of made.0 made.1)) able))

  pub event_sound : (length old.log ≡ length new.log → ⊥) → group ≡ body_of 0 request ∷ [] → Stores modeled group (length new.log) a b → IsSound (view_of new start b)
  event_sound longer is stores =
      let made = made_one old new e logs longer in
      subst (λ (h : HubView). IsSound (view_of h start b)) (sym made.2)
      (still_sound modeled old.admin old.log start a b (record { caller = 0; event = made.0 }) sound (stores_event modeled old new a b made.0 request group made.2 (of made.0 made.1) is stores))

  pub none_goes : length old.log ≡ length new.log → GoesOn modeled (view_of old start a) (view_of new start a)
  none_goes same = subst (λ (h : HubView). GoesOn modeled (view_of old start a) (view_of h start a)) (sym (made_none old new e logs same)) (stays modeled (view_of old start a))

  pub none_sound : length old.log ≡ length new.log → IsSound (view_of new start a)
  none_sound same = subst (λ (h : HubView). IsSound (view_of h start a)) (sym (made_none old new e logs same)) sound

  -- a journal goes on by a call that stored its event
  pub goes : (first : JournalView) (before count : ℕ) → GoesOn modeled first (view_of old start a) → before ≡ length old.log → count ≡ length new.log → (before ≡ count → ⊥) → group ≡ body_of 0 request ∷ [] → IsStorable 0 request → Stores modeled group count a b
      → GoesOn modeled first (view_of new start b)
  goes first before count on before_is count_is differ is able stores =
      composes modeled first (view_of old start a) (view_of new start b) on
      (event_goes (λ same. differ (before_is ∙ same ∙ sym count_is)) is able (subst (λ (n : ℕ). Stores modeled group n a b) count_is stores))

  -- and it is still sound
  pub goes_sound : (before count : ℕ) → before ≡ length old.log → count ≡ length new.log → (before ≡ count → ⊥) → group ≡ body_of 0 request ∷ [] → Stores modeled group count a b → IsSound (view_of new start b)
  goes_sound before count before_is count_is differ is stores =
      event_sound (λ same. differ (before_is ∙ same ∙ sym count_is)) is (subst (λ (n : ℕ). Stores modeled group n a b) count_is stores)

  -- it goes on by a call that made no event
  pub goes_on : (first : JournalView) (before count : ℕ) → GoesOn modeled first (view_of old start a) → before ≡ length old.log → count ≡ length new.log → before ≡ count → GoesOn modeled first (view_of new start a)
  goes_on first before count on before_is count_is same =
      composes modeled first (view_of old start a) (view_of new start a) on (none_goes (sym before_is ∙ same ∙ count_is))
