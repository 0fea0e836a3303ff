-- What a worker does, session by session.
use Rattle.std.proofs.Common.{◌≡◌, ◌≤◌, ◌+◌, ℕ, Bool, true, false, ◌||◌, ◌&&◌, nat_eq, List, [], ◌∷◌, ◌++◌, length, map, refl, sym, ◌∙◌, ap, subst, arith, append-nil, length-append}
use Rattle.std.specs.List.{AllByRecursion, filter, list_any}
use Rattle.std.specs.Prelude.{IsTrue, not}
use Rattle.std.proofs.Math.Seq.{drop-length}
use Rattle.std.proofs.lemmas.List.{map-append}
use Rattle.pktline_core.specs.LinkState.{LinkState}
use Rattle.turn_lock.specs.Lock.{IsSamePass, PassState}
use Rattle.hub_history.specs.declared.entry.Entry.{Entry}
use Rattle.ref_store.specs.Refs.{Name}
use Rattle.hub.specs.Desk.{DeskView, entries_of}
use Rattle.edge_links.specs.Door.{DoorState}
use Rattle.session_core.specs.Protocol.{Meaning}
use Rattle.shared_hub.specs.declared.kept.KeptEntry.{KeptEntry}
use Rattle.shared_hub.specs.Kept.{admin_in, log_in}
use Rattle.shared_hub.specs.Desk.{desk_of}
use Rattle.shared_hub.specs.Shared.{log_at_new, log_seen}
use Rattle.shared_hub.proofs.ListLemmas.{log_in-append}
use Rattle.session_workers.specs.declared.worker.NextServed.TheVariants as next
use Rattle.session_workers.specs.declared.worker.Tally.{Tally}
use Rattle.session_workers.specs.Served.{IsSession, Served, ServedLink}
use Rattle.session_workers.specs.Visits.{GainsBack, HasDone, HasServed, HasWorked, LosesFront, ServesLink, ServesNext, StopsAtLack, Visit, back_of, have_lacked, have_stopped, link_of, served_link}
use Rattle.session_workers.proofs.Appended.{served_more}
use Rattle.session_workers.proofs.DoorLemmas.{loses_none, gains_none, loses_more, gains_more}

abbrev pub start_of : {H : Type 0} → PassState (KeptEntry H) → ℕ
start_of pass = length (log_at_new pass)

pub starts_within : {H : Type 0} (pass : PassState (KeptEntry H)) → start_of pass ≤ length (log_seen pass)
starts_within pass =
    let len = ap length (log_in-append pass.at_new pass.since) ∙ length-append (log_in pass.at_new) (log_in pass.since) in
    omega (arith, len)

-- a pass that has seen nothing yet since `new` has no entries of its own
pub fresh_none : {H : Type 0} (pass : PassState (KeptEntry H)) → pass.since ≡ [] → entries_of pass.caller (start_of pass) (log_seen pass) ≡ []
fresh_none pass fresh =
    ap (λ l. entries_of pass.caller (start_of pass) (log_in l)) (ap (λ l. pass.at_new ++ l) fresh ∙ append-nil pass.at_new)
    ∙ ap (λ l. filter (λ (e : Entry). nat_eq e.caller pass.caller) l) (drop-length (log_in pass.at_new))

list_any-append : {X : Type 0} (f : X → Bool) (xs ys : List X) → list_any f (xs ++ ys) ≡ list_any f xs || list_any f ys
list_any-append f [] ys = refl
list_any-append f (x ∷ xs) ys = go (f x) (list_any-append f xs ys) where
  go : (b : Bool) → list_any f (xs ++ ys) ≡ list_any f xs || list_any f ys → b || list_any f (xs ++ ys) ≡ (b || list_any f xs) || list_any f ys
  go true same = refl
  go false same = same

all-append : {X : Type 0} (P : X → Type 0) (xs ys : List X) → AllByRecursion P xs → AllByRecursion P ys → AllByRecursion P (xs ++ ys)
all-append P [] ys first second = second
all-append P (x ∷ xs) ys first second = (first.0, all-append P xs ys first.1 second)

pub or_false : (b : Bool) → b || false ≡ b
or_false true = refl
or_false false = refl

-- what was served so far, and how it was counted
pub record SoFar {L E : Type 0} (protocol : Meaning E) (state : L → LinkState) (may_stop : Bool) (admin : Name) (caller start : ℕ) (log : List Entry) (old new : DoorState L) (count : ℕ) (lacked stopped : Bool) : Type 0 where
  pub visits : List (Visit L E)
  pub served : HasServed protocol state admin caller start log old new visits
  pub counted : count ≡ length visits
  pub lacked_is : lacked ≡ have_lacked protocol visits
  pub stopped_is : stopped ≡ have_stopped visits
  pub stops : AllByRecursion (StopsAtLack protocol may_stop) visits

module _ {L E : Type 0} (protocol : Meaning E) (state : L → LinkState) (may_stop : Bool) where
  -- nothing served yet
  pub none_served : (admin : Name) (caller start : ℕ) (log : List Entry) (door : DoorState L) → entries_of caller start log ≡ [] → SoFar protocol state may_stop admin caller start log door door 0 false false
  none_served admin caller start log door none = record {
    visits = [];
    served = record { given = loses_none door.left; back = gains_none door.served; served = none; faults = omega arith };
    counted = refl;
    lacked_is = refl;
    stopped_is = refl;
    stops = tt;
  }

  one_more : (admin : Name) (caller start : ℕ) (desk desk' : DeskView) (old mid new : DoorState L) (count : ℕ) (lacked stopped stop : Bool) (end : E)
      → desk.admin ≡ admin → desk.caller ≡ caller → start ≤ length desk.seen → (IsTrue stop → IsTrue (may_stop && protocol.lacks end))
      → SoFar protocol state may_stop admin caller start desk.seen old mid count lacked stopped
      → ServesNext protocol state mid new desk desk' (next.Served end)
      → SoFar protocol state may_stop admin caller start desk'.seen old new (count + 1) (lacked || (not stop && protocol.lacks end)) (stopped || stop)
  one_more admin caller start desk desk' old mid new count lacked stopped stop end admin_is caller_is within stops so_far one =
      let visits = so_far.visits in
      let visit : Visit L E = record { link = one.0.link; back = one.0.back; end = end; stopped = stop } in
      let served_is : served_link state one.0 ≡ served_link state visit = ap (λ (e : E). record { given = state one.0.link; back = state one.0.back; end = e }) one.1 in
      let serves : ServesLink protocol state mid new desk desk' one.0 = one.2 in
      let before = so_far.served in
      let is_session : IsSession protocol admin caller (length desk.seen) (desk.seen ++ serves.more) (served_link state visit) =
      subst (λ (s : ServedLink E). IsSession protocol admin caller (length desk.seen) (desk.seen ++ serves.more) s) served_is
      (subst (λ l. IsSession protocol admin caller (length desk.seen) l (served_link state one.0)) serves.seen
      (subst (λ a. IsSession protocol a caller (length desk.seen) desk'.seen (served_link state one.0)) admin_is
      (subst (λ n. IsSession protocol desk.admin n (length desk.seen) desk'.seen (served_link state one.0)) caller_is serves.session))) in
      let served : Served protocol admin caller start (desk.seen ++ serves.more) (map (served_link state) visits ++ served_link state visit ∷ []) =
      served_more protocol admin caller start desk.seen serves.more (map (served_link state) visits) (served_link state visit) within before.served is_session in
      let last : List (Visit L E) = visit ∷ [] in
      record {
        visits = visits ++ last;
        served = record {
          given = subst (λ l. LosesFront old.left new.left l) (sym (map-append link_of visits last)) (loses_more old.left mid.left new.left (map link_of visits) (one.0.link ∷ []) before.given serves.given);
          back = subst (λ l. GainsBack old.served new.served l) (sym (map-append back_of visits last)) (gains_more old.served mid.served new.served (map back_of visits) (one.0.back ∷ []) before.back serves.back);
          served =
              subst (λ l. Served protocol admin caller start desk'.seen l) (sym (map-append (served_link state) visits last))
              (subst (λ l. Served protocol admin caller start l (map (served_link state) visits ++ served_link state visit ∷ [])) (sym serves.seen) served);
          faults = omega (arith, before.faults, serves.faults);
        };
        counted = ap (λ k. k + 1) so_far.counted ∙ sym (length-append visits last);
        lacked_is =
            ap (λ b. b || (not stop && protocol.lacks end)) so_far.lacked_is
            ∙ ap (λ b. have_lacked protocol visits || b) (sym (or_false (not stop && protocol.lacks end)))
            ∙ sym (list_any-append (λ (v : Visit L E). not v.stopped && protocol.lacks v.end) visits last);
        stopped_is =
            ap (λ b. b || stop) so_far.stopped_is
            ∙ ap (λ b. have_stopped visits || b) (sym (or_false stop))
            ∙ sym (list_any-append (λ (v : Visit L E). v.stopped) visits last);
        stops = all-append (StopsAtLack protocol may_stop) visits last so_far.stops (stops, tt);
      }

  -- what a worker did, with its tally
  pub worked : (admin : Name) (caller start : ℕ) (log : List Entry) (each : ℕ) (old new : DoorState L) (tally : Tally)
      → SoFar protocol state may_stop admin caller start log old new tally.sessions tally.no_memory tally.stopped → HasDone tally.stopped old new each tally.sessions tally.door_failed → tally.sessions ≤ each
      → HasWorked protocol state may_stop admin caller start log each old new tally
  worked admin caller start log each old new tally so_far done most = record {
    visits = so_far.visits;
    served = so_far.served;
    is_tally = record { sessions = so_far.counted; no_memory = so_far.lacked_is; stopped = so_far.stopped_is };
    stops = so_far.stops;
    done = done;
    most = most;
  }

  -- one session more, of the pass with which the work began; the hub has stopped or not
  pub one_served : {H : Type 0} (began p q : PassState (KeptEntry H)) (old mid new : DoorState L) (count : ℕ) (lacked stop : Bool) (end : E) → IsSamePass began p → (IsTrue stop → IsTrue (may_stop && protocol.lacks end))
      → SoFar protocol state may_stop (admin_in began.at_new) began.caller (start_of began) (log_seen p) old mid count lacked false
      → ServesNext protocol state mid new (desk_of p) (desk_of q) (next.Served end)
      → SoFar protocol state may_stop (admin_in began.at_new) began.caller (start_of began) (log_seen q) old new (count + 1) (lacked || (not stop && protocol.lacks end)) stop
  one_served {H} began p q old mid new count lacked stop end same stops so_far one =
      one_more (admin_in began.at_new) began.caller (start_of began) (desk_of p) (desk_of q) old mid new count lacked false stop end
      (ap admin_in same.at_new) same.caller (subst (λ (l : List (KeptEntry H)). length (log_in l) ≤ length (log_seen p)) same.at_new (starts_within p)) stops so_far one

-- the same pass, call after call
pub same_on : {H : Type 0} (a b c : PassState (KeptEntry H)) → IsSamePass a b → IsSamePass b c → IsSamePass a c
same_on a b c one more = record {
  lock = more.lock ∙ one.lock;
  caller = more.caller ∙ one.caller;
  passes = more.passes ∙ one.passes;
  at_new = more.at_new ∙ one.at_new;
  numbers = more.numbers ∙ one.numbers;
}

pub same_pass : {H : Type 0} (a b : PassState (KeptEntry H)) → b ≡ a → IsSamePass a b
same_pass {H} a b same = record {
  lock = ap (λ (p : PassState (KeptEntry H)). p.lock) same;
  caller = ap (λ (p : PassState (KeptEntry H)). p.caller) same;
  passes = ap (λ (p : PassState (KeptEntry H)). p.passes) same;
  at_new = ap (λ (p : PassState (KeptEntry H)). p.at_new) same;
  numbers = ap (λ (p : PassState (KeptEntry H)). p.numbers) same;
}
