-- How `serve` ends.
use Rattle.std.proofs.Common.{◌≡◌, ◌⊎◌, ◌<◌, ℕ, suc, Bool, true, false, ◌||◌, ◌&&◌, List, [], ◌∷◌, length, get_or, refl, sym, subst, inl, inr, arith}
use Rattle.std.specs.Prelude.{Result, Ok, Err, OnOk, IfErr}
use Rattle.std.specs.List.{list_any}
use Rattle.std.specs.Io.KnownBytes.{Appends}
use Rattle.std.proofs.KnownBytes.{Appends-nil}
use Rattle.base_types.specs.Counts.{HasRisen}
use Rattle.pktline_core.specs.LinkState.{LinkState}
use Rattle.edge_links.specs.Door.{DoorState}
use Rattle.hub_history.specs.declared.entry.Entry.{Entry}
use Rattle.hub_history.specs.History.{IsLegal}
use Rattle.ref_store.specs.Refs.{Name}
use Rattle.hub.specs.Hub.{HubView}
use Rattle.session_core.specs.Protocol.{Meaning}
use Rattle.session_workers.specs.declared.post.Post.{Post}
use Rattle.session_workers.specs.Visits.{HasDone}
use Rattle.session_workers.specs.ServesAll.{PostTally, ServesAll, count_of}
use Rattle.shell_program.specs.RunningScripts.{TellsOutput}
use Rattle.shell_program.specs.Serve.{ADoorFailed, EndsServe, ServesPosts, StopsPrinting, new_hub, served_line}
use Rattle.shell_program.specs.Status.{served_status, status_number}
use Rattle.shell_program.specs.declared.script.ScriptFault.{ScriptFault}
use Rattle.shell_program.specs.declared.script.ScriptFault.TheVariants as fault
use Rattle.shell_program.specs.declared.status.Status.{Status}

-- where one of a list's items is so, there is its place
record At {X : Type 0} (f : X → Bool) (xs : List X) : Type 0 where
  place : ℕ
  within : place < length xs
  item : X
  is : f (get_or xs place item) ≡ true

at_any : {X : Type 0} (f : X → Bool) (xs : List X) → list_any f xs ≡ true → At f xs
at_any f [] some = absurd (let gone : false ≡ true = some in cc)
at_any {X} f (x ∷ xs) some = go (f x) refl some (λ any. at_any f xs any) where
  go : (b : Bool) → f x ≡ b → b || list_any f xs ≡ true → (list_any f xs ≡ true → At f xs) → At f (x ∷ xs)
  go true is any later = record { place = 0; within = omega arith; item = x; is = is }
  go false is any later =
      let next = later any in
      record { place = suc next.place; within = (let less = next.within in omega (arith, less)); item = next.item; is = next.is }

module _ {L D G P E : Type 0} (served : Meaning E) (state : L → LinkState) (door : D → DoorState L) (admin : Name) (each : ℕ) (old new : List (Post D G HubView P)) (sink sink' : LinkState) (log : List Entry) where
  -- the hub that comes back, by its log
  pub posts_served : (after : HubView) (sessions : ℕ) (failed lacked : Bool) → ServesAll (λ (protocol : P). served) state door false (new_hub admin) after old new each sessions failed lacked → log ≡ after.log
      → ServesPosts served state door admin each old new sink sink' log sessions failed lacked
  posts_served after sessions failed lacked serves log_is =
      subst (λ (h : HubView). ServesAll (λ (protocol : P). served) state door false (new_hub admin) h old new each sessions failed lacked) (λ i. record { admin = serves.admin i; log = sym log_is i }) serves

  pub ends_served : (sessions : ℕ) (failed lacked : Bool) (printed : Result (Unit {0}) ScriptFault) → ServesPosts served state door admin each old new sink sink' log sessions failed lacked
      → OnOk printed (Appends sink.written sink'.written (served_line sessions (length log))) → IfErr printed (StopsPrinting sink sink' (served_line sessions (length log)))
      → EndsServe served state door admin each old new sink sink' log (served_status printed failed lacked)
  ends_served sessions true lacked (Ok unit) serves ok err = (sessions, lacked, (serves, ok))
  ends_served sessions false true (Ok unit) serves ok err = inr (inl (sessions, (serves, ok)))
  ends_served sessions false false (Ok unit) serves ok err = (sessions, (serves, ok))
  ends_served sessions failed lacked (Err fault.BadScript) serves ok err = absurd err
  ends_served sessions failed lacked (Err fault.InputFault) serves ok err = absurd err
  ends_served sessions failed lacked (Err fault.DiskFault) serves ok err = absurd err
  ends_served sessions failed lacked (Err fault.OutputFault) serves ok err = (record { sessions = sessions; failed = failed; lacked = lacked; serves = serves; part = err.0 }, err.1)
  ends_served sessions failed lacked (Err fault.NoMemory) serves ok err = inr (inr (record { sessions = sessions; failed = failed; lacked = lacked; serves = serves; part = err.0 }, err.1))

  a_door_failed : (sessions : ℕ) (lacked : Bool) → ServesPosts served state door admin each old new sink sink' log sessions true lacked → ADoorFailed door old new
  a_door_failed sessions lacked serves =
      let at = at_any (λ (c : PostTally L E). c.failed) serves.did (sym serves.failed_is) in
      let within : at.place < length old = (let less = at.within in let same = serves.each_did in omega (arith, less, same)) in (
        at.place,
        within,
        λ d.
            let post = serves.posts at.place d at.item within in
            subst (λ (b : Bool). HasDone (get_or serves.did at.place at.item).stopped (door (get_or old at.place d).door) (door (get_or new at.place d).door) each (count_of (get_or serves.did at.place at.item)) b) at.is post.done,
      )

  pub surely_served : (sessions : ℕ) (failed lacked : Bool) (printed : Result (Unit {0}) ScriptFault) → ServesPosts served state door admin each old new sink sink' log sessions failed lacked
      → IfErr printed (StopsPrinting sink sink' (served_line sessions (length log)))
      → (ADoorFailed door old new → ⊥) → (HasRisen sink.write_faults sink'.write_faults → ⊥)
      → (status_number (served_status printed failed lacked) ≡ 0) ⊎ (status_number (served_status printed failed lacked) ≡ 4)
  surely_served sessions true lacked (Ok unit) serves err doors writes = absurd (doors (a_door_failed sessions lacked serves))
  surely_served sessions false true (Ok unit) serves err doors writes = inr refl
  surely_served sessions false false (Ok unit) serves err doors writes = inl refl
  surely_served sessions failed lacked (Err fault.BadScript) serves err doors writes = absurd err
  surely_served sessions failed lacked (Err fault.InputFault) serves err doors writes = absurd err
  surely_served sessions failed lacked (Err fault.DiskFault) serves err doors writes = absurd err
  surely_served sessions failed lacked (Err fault.OutputFault) serves err doors writes = absurd (writes err.1)
  surely_served sessions failed lacked (Err fault.NoMemory) serves err doors writes = inr refl

module _ {L D G P E : Type 0} (served : Meaning E) (state : L → LinkState) (door : D → DoorState L) (admin : Name) (each : ℕ) (old new : List (Post D G HubView P)) (sink sink' : LinkState) (log : List Entry) (hub after : HubView) (sessions events : ℕ) (failed lacked : Bool) (printed : Result (Unit {0}) ScriptFault) (number : ℕ)
    (hub_is : hub ≡ new_hub admin) (all : ServesAll (λ (protocol : P). served) state door false hub after old new each sessions failed lacked) (log_is : log ≡ after.log) (counted : events ≡ length log)
    (err : IfErr printed (StopsPrinting sink sink' (served_line sessions events))) (number_is : number ≡ status_number (served_status printed failed lacked)) where
  serves : ServesPosts served state door admin each old new sink sink' log sessions failed lacked
  serves = posts_served served state door admin each old new sink sink' log after sessions failed lacked (subst (λ (h : HubView). ServesAll (λ (protocol : P). served) state door false h after old new each sessions failed lacked) hub_is all) log_is

  stopped : IfErr printed (StopsPrinting sink sink' (served_line sessions (length log)))
  stopped = subst (λ (n : ℕ). IfErr printed (StopsPrinting sink sink' (served_line sessions n))) counted err

  -- a run of `serve` at a hub
  pub run_ends : OnOk printed (Appends sink.written sink'.written (served_line sessions events)) → (why : Status) × (number ≡ status_number why) × EndsServe served state door admin each old new sink sink' log why
  run_ends ok = (
    served_status printed failed lacked,
    number_is,
    ends_served served state door admin each old new sink sink' log sessions failed lacked printed serves (subst (λ (n : ℕ). OnOk printed (Appends sink.written sink'.written (served_line sessions n))) counted ok) stopped,
  )

  pub run_sure : (ADoorFailed door old new → ⊥) → (HasRisen sink.write_faults sink'.write_faults → ⊥) → (number ≡ 0) ⊎ (number ≡ 4)
  run_sure doors writes = subst (λ (n : ℕ). (n ≡ 0) ⊎ (n ≡ 4)) (sym number_is) (surely_served served state door admin each old new sink sink' log sessions failed lacked printed serves stopped doors writes)

  pub run_legal : IsLegal admin log
  run_legal = serves.legal

-- no failed write is hidden
pub served_told : (sink sink' : LinkState) (text : List ℕ) (failed lacked : Bool) (printed : Result (Unit {0}) ScriptFault) → IfErr printed (StopsPrinting sink sink' text) → TellsOutput sink sink' printed
    → (status_number (served_status printed failed lacked) ≡ 3) ⊎ (sink'.write_faults ≡ sink.write_faults)
served_told sink sink' text failed lacked (Ok unit) err tells = inr tells
served_told sink sink' text failed lacked (Err fault.BadScript) err tells = absurd err
served_told sink sink' text failed lacked (Err fault.InputFault) err tells = absurd err
served_told sink sink' text failed lacked (Err fault.DiskFault) err tells = absurd err
served_told sink sink' text failed lacked (Err fault.OutputFault) err tells = inl refl
served_told sink sink' text failed lacked (Err fault.NoMemory) err tells = inr tells

-- nothing of the line was printed, since there is no memory for it
pub printed_none : (sink : LinkState) (sessions events : ℕ) → StopsPrinting sink sink (served_line sessions events) fault.NoMemory
unfolding served_line
printed_none sink sessions events = (record { bytes = []; short = (served_line sessions events, refl, omega arith); written = Appends-nil sink.written }, inl refl)
