-- What all posts served, over the closed hub's log.
use Rattle.std.proofs.Common.{◌≡◌, ◌≤◌, ◌<◌, ◌+◌, ◌*◌, ℕ, zero, suc, Bool, false, ◌||◌, List, [], ◌∷◌, ◌++◌, length, map, get_or, refl, sym, ◌∙◌, ap, subst, arith, append-nil}
use Rattle.std.specs.Prelude.{Option, Some, IfSome, All}
use Rattle.std.specs.List.{AllByRecursion, list_any, sum_by}
use Rattle.std.proofs.lemmas.List.{get_or_default}
use Rattle.std.proofs.lemmas.List.Sums.{sum_by-cons, sum_by-le}
use Rattle.atomic_table.specs.Seated.{TableId}
use Rattle.pktline_core.specs.LinkState.{LinkState}
use Rattle.turn_lock.specs.Lock.{IsSamePass, PassState}
use Rattle.hub_history.specs.declared.entry.Entry.{Entry}
use Rattle.hub_history.specs.History.{IsLegal}
use Rattle.ref_store.specs.Refs.{Name}
use Rattle.hub.specs.Desk.{IsOfAnother, known}
use Rattle.hub.specs.Hub.{HubView}
use Rattle.edge_links.specs.Door.{DoorState}
use Rattle.shared_hub.specs.declared.kept.KeptEntry.{KeptEntry}
use Rattle.shared_hub.specs.Kept.{admin_in, listed, log_in}
use Rattle.shared_hub.specs.Desk.{desk_of}
use Rattle.shared_hub.specs.Shared.{IsHubPass, log_at_new, log_seen}
use Rattle.shared_hub.proofs.ListLemmas.{hub_in-listed}
use Rattle.session_core.specs.Protocol.{Meaning}
use Rattle.session_workers.specs.declared.post.Post.{Post}
use Rattle.session_workers.specs.Visits.{HasDone, HasServed, HasWorked, Visit, served_link}
use Rattle.session_workers.specs.Passes.{Follows, HasPassOf, HasWorkedAt, IsWhole, MayWork, pass_at, place_of}
use Rattle.session_workers.specs.ServesAll.{PostServed, PostTally, ServesAll, count_of}
use Rattle.session_workers.proofs.Appended.{served_appended}
use Rattle.session_workers.proofs.WorkLemmas.{starts_within}

some_is : {X : Type 0} (x y : X) → Some x ≡ Some y → x ≡ y
some_is x y same = cc

-- ---- lists, place by place

-- where there is one for each place, there is a list of them
each_of : {X : Type 0} (n : ℕ) (P : ℕ → X → Type 0) → ((k : ℕ) → k < n → (x : X) × P k x) → (xs : List X) × (length xs ≡ n) × ((k : ℕ) (d : X) → k < n → P k (get_or xs k d))
each_of zero P one = ([], refl, λ k d less. absurd (omega (arith, less)))
each_of {X} (suc n) P one =
    let first = one zero (omega arith) in
    let rest = each_of n (λ k. P (suc k)) (λ k less. one (suc k) (omega (arith, less))) in
    (first.0 ∷ rest.0, ap suc rest.1, at first rest)
  where
    at : (first : (x : X) × P zero x) (rest : (xs : List X) × (length xs ≡ n) × ((k : ℕ) (d : X) → k < n → P (suc k) (get_or xs k d))) (k : ℕ) (d : X) → k < suc n → P k (get_or (first.0 ∷ rest.0) k d)
    at first rest zero d less = first.1
    at first rest (suc k) d less = rest.2 k d (omega (arith, less))

-- sums of the same numbers at each place
same_sum : {X Y : Type 0} (f : X → ℕ) (g : Y → ℕ) (xs : List X) (ys : List Y) → length ys ≡ length xs → ((k : ℕ) (d : X) (c : Y) → k < length xs → f (get_or xs k d) ≡ g (get_or ys k c)) → sum_by f xs ≡ sum_by g ys
same_sum f g [] [] len same = refl
same_sum f g [] (y ∷ ys) len same = absurd (omega (arith, len))
same_sum f g (x ∷ xs) [] len same = absurd (omega (arith, len))
same_sum f g (x ∷ xs) (y ∷ ys) len same =
    sum_by-cons f x xs
    ∙ (λ i. same zero x y (omega arith) i + same_sum f g xs ys (omega (arith, len)) (λ k d c less. same (suc k) d c (omega (arith, less))) i)
    ∙ sym (sum_by-cons g y ys)

same_any : {X Y : Type 0} (f : X → Bool) (g : Y → Bool) (xs : List X) (ys : List Y) → length ys ≡ length xs → ((k : ℕ) (d : X) (c : Y) → k < length xs → f (get_or xs k d) ≡ g (get_or ys k c)) → list_any f xs ≡ list_any g ys
same_any f g [] [] len same = refl
same_any f g [] (y ∷ ys) len same = absurd (omega (arith, len))
same_any f g (x ∷ xs) [] len same = absurd (omega (arith, len))
same_any f g (x ∷ xs) (y ∷ ys) len same =
    (λ i. same zero x y (omega arith) i || same_any f g xs ys (omega (arith, len)) (λ k d c less. same (suc k) d c (omega (arith, less))) i)

-- a list with a place has a first item
head_of : {X : Type 0} (xs : List X) (k : ℕ) → k < length xs → X
head_of [] k less = absurd (omega (arith, less))
head_of (x ∷ xs) k less = x

-- ---- one post

-- what was served goes on with entries of others
has_served-appended : {L E : Type 0} (protocol : Meaning E) (state : L → LinkState) (admin : Name) (caller start : ℕ) (log more : List Entry) (old new : DoorState L) (visits : List (Visit L E))
    → start ≤ length log → AllByRecursion (IsOfAnother caller) more → HasServed protocol state admin caller start log old new visits → HasServed protocol state admin caller start (log ++ more) old new visits
has_served-appended protocol state admin caller start log more old new visits within others h = record {
  given = h.given;
  back = h.back;
  served = served_appended protocol admin caller start log more (map (served_link state) visits) within others h.served;
  faults = h.faults;
}

-- a pass of a place may begin
may_work : {D G H P : Type 0} (lock : TableId) (first : PassState (KeptEntry H)) (made k : ℕ) (post : Post D G H P) → IsHubPass first → first.since ≡ [] → post.pass ≡ Some (pass_at lock first.at_new made k) → MayWork lock post
may_work {D} {G} {H} {P} lock first made k post hub fresh has =
    let legal = subst (λ (l : List (KeptEntry H)). IsHubPass (record first { since = l })) fresh hub in
    let May : Option (PassState (KeptEntry H)) → Type 0 = λ o. MayWork {D = D} {G = G} {H = H} {P = P} lock (record post { pass = o }) in
    subst May (sym has) (record { of_hub = refl; hub = record { admin = legal.admin; legal = legal.legal }; fresh = refl })

pub may_all : {D G H P : Type 0} (lock : TableId) (first : PassState (KeptEntry H)) (made : ℕ) (posts : List (Post D G H P)) → IsHubPass first → first.since ≡ []
    → ((k : ℕ) (d : Post D G H P) → k < length posts → (get_or posts k d).pass ≡ Some (pass_at lock first.at_new made k)) → All (λ (p : Post D G H P). MayWork lock p) posts
may_all lock first made posts hub fresh has = λ k d less. may_work lock first made k (get_or posts k d) hub fresh (has k d less)

-- what the tally of a post is of
record IsOfPost {L D G H P E : Type 0} (protocol : Meaning E) (state : L → LinkState) (may_stop : Bool) (admin : Name) (place start : ℕ) (log : List Entry) (each : ℕ) (old new : DoorState L) (worked : Post D G H P) (did : PostTally L E) : Type 0 where
  served : PostServed protocol state may_stop admin place start log each old new did
  counted : worked.tally.sessions ≡ count_of did
  failed : worked.tally.door_failed ≡ did.failed
  lacked : worked.tally.no_memory ≡ did.lacked

module _ {L D G H P E : Type 0} (meaning : P → Meaning E) (state : L → LinkState) (door : D → DoorState L) (may_stop : Bool) (each : ℕ) (handed worked : Post D G H P) (work : HasWorkedAt meaning state door may_stop each handed worked) (lock : TableId) (list : List (KeptEntry H)) (made k : ℕ) (has : handed.pass ≡ Some (pass_at lock list made k)) where
  began_is : work.began ≡ pass_at lock list made k
  began_is = some_is work.began (pass_at lock list made k) (sym work.had ∙ has)

  ended_is : IsSamePass (pass_at lock list made k) work.ended
  ended_is = subst (λ (p : PassState (KeptEntry H)). IsSamePass p work.ended) began_is work.same_pass

  pub of_place : HasPassOf lock list made k worked.pass
  of_place = subst (HasPassOf lock list made k) (sym work.has) (record { same = ended_is; hub = work.hub })

  post_served : (protocol : Meaning E) (shared : H) (hub after : HubView) (whole : PassState (KeptEntry H)) (old new : D) → meaning handed.protocol ≡ protocol → list ≡ listed shared hub → after.log ≡ log_seen whole
      → handed.door ≡ old → new ≡ worked.door → IfSome worked.pass (λ p. Follows k p whole)
      → (did : PostTally L E) × IsOfPost protocol state may_stop hub.admin k (length hub.log) after.log each (door old) (door new) worked did
  post_served protocol shared hub after whole old new means list_is log_is door_is new_is follows =
      let follow : Follows k work.ended whole = subst (λ o. IfSome o (λ p. Follows k p whole)) work.has follows in
      let by_meaning : HasWorked protocol state may_stop (admin_in work.began.at_new) work.began.caller (length (log_at_new work.began)) (log_seen work.ended) each (door handed.door) (door worked.door) worked.tally =
      subst (λ (m : Meaning E). HasWorked m state may_stop (admin_in work.began.at_new) work.began.caller (length (log_at_new work.began)) (log_seen work.ended) each (door handed.door) (door worked.door) worked.tally) means work.worked in
      let here : HasWorked protocol state may_stop (admin_in list) k (length (log_in list)) (log_seen work.ended) each (door handed.door) (door worked.door) worked.tally =
      subst (λ (p : PassState (KeptEntry H)). HasWorked protocol state may_stop (admin_in p.at_new) p.caller (length (log_at_new p)) (log_seen work.ended) each (door handed.door) (door worked.door) worked.tally) began_is by_meaning in
      let at_list : log_at_new work.ended ≡ log_in list = ap log_in ended_is.at_new in
      let within : length (log_in list) ≤ length (log_seen work.ended) = subst (λ l. length l ≤ length (log_seen work.ended)) at_list (starts_within work.ended) in
      let whole_log = has_served-appended protocol state (admin_in list) k (length (log_in list)) (log_seen work.ended) follow.0 (door handed.door) (door worked.door) here.visits within follow.2 here.served in
      let hub_is : (admin_in list, log_in list) ≡ (hub.admin, hub.log) = ap (λ (l : List (KeptEntry H)). (admin_in l, log_in l)) list_is ∙ ap (λ (h : HubView). (h.admin, h.log)) (hub_in-listed shared hub) in
      let doors : (door handed.door, door worked.door) ≡ (door old, door new) = λ i. (door (door_is i), door (sym new_is i)) in
      let after_log : HasServed protocol state (admin_in list) k (length (log_in list)) after.log (door handed.door) (door worked.door) here.visits =
      subst (λ l. HasServed protocol state (admin_in list) k (length (log_in list)) l (door handed.door) (door worked.door) here.visits) (follow.1 ∙ sym log_is) whole_log in
      let did : PostTally L E = record { visits = here.visits; failed = worked.tally.door_failed; lacked = worked.tally.no_memory; stopped = worked.tally.stopped } in (
        did,
        record {
          served = record {
            served =
                subst (λ (d : DoorState L × DoorState L). HasServed protocol state hub.admin k (length hub.log) after.log d.0 d.1 here.visits) doors
                (subst (λ (h : Name × List Entry). HasServed protocol state h.0 k (length h.1) after.log (door handed.door) (door worked.door) here.visits) hub_is after_log);
            lacks = here.is_tally.no_memory;
            stops = here.stops;
            stopped = here.is_tally.stopped;
            done =
                subst (λ n. HasDone worked.tally.stopped (door old) (door new) each n worked.tally.door_failed) here.is_tally.sessions
                (subst (λ (d : DoorState L × DoorState L). HasDone worked.tally.stopped d.0 d.1 each worked.tally.sessions worked.tally.door_failed) doors here.done);
            most = subst (λ n. n ≤ each) here.is_tally.sessions here.most;
          };
          counted = here.is_tally.sessions;
          failed = refl;
          lacked = refl;
        },
      )

-- ---- all posts

-- so many posts serve at most so many times the links of each
pub sessions_most : {L D G H P E : Type 0} (meaning : P → Meaning E) (state : L → LinkState) (door : D → DoorState L) (may_stop : Bool) (each : ℕ) (handed worked : List (Post D G H P)) → length worked ≡ length handed
    → ((k : ℕ) (d : Post D G H P) → k < length handed → HasWorkedAt meaning state door may_stop each (get_or handed k d) (get_or worked k d))
    → sum_by (λ (p : Post D G H P). p.tally.sessions) worked ≤ length worked * each
sessions_most {L} {D} {G} {H} {P} meaning state door may_stop each handed worked len works =
    let Few : Post D G H P → Type 0 = λ p. p.tally.sessions ≤ each in
    let all : All Few worked = λ k d less. (works k d (omega (arith, less, len))).worked.most in
    sum_by-le (λ (p : Post D G H P). p.tally.sessions) each worked all

pub passes_of : {L D G H P E : Type 0} (meaning : P → Meaning E) (state : L → LinkState) (door : D → DoorState L) (may_stop : Bool) (each : ℕ) (lock : TableId) (list : List (KeptEntry H)) (made : ℕ) (handed worked : List (Post D G H P)) → length worked ≡ length handed
    → ((k : ℕ) (d : Post D G H P) → k < length handed → (get_or handed k d).pass ≡ Some (pass_at lock list made k))
    → ((k : ℕ) (d : Post D G H P) → k < length handed → HasWorkedAt meaning state door may_stop each (get_or handed k d) (get_or worked k d))
    → (k : ℕ) (d : Post D G H P) → k < length worked → HasPassOf lock list made k (get_or worked k d).pass
passes_of meaning state door may_stop each lock list made handed worked len has works k d less =
    let there : k < length handed = omega (arith, less, len) in
    of_place meaning state door may_stop each (get_or handed k d) (get_or worked k d) (works k d there) lock list made k (has k d there)

-- no post, and the hub comes back as it was handed in
pub none_posts : {L D G H P E : Type 0} (meaning : P → Meaning E) (state : L → LinkState) (door : D → DoorState L) (may_stop : Bool) (hub : HubView) (posts : List (Post D G H P)) (each : ℕ) → IsLegal hub.admin hub.log → length posts ≡ 0 → ServesAll meaning state door may_stop hub hub posts posts each 0 false false
none_posts meaning state door may_stop hub posts each legal none = record {
  admin = refl;
  legal = legal;
  since = [];
  begins = append-nil hub.log;
  places = λ k d less. absurd (omega (arith, less));
  did = [];
  each_did = sym none;
  posts = λ k d c less. absurd (omega (arith, less, none));
  sessions_is = refl;
  failed_is = refl;
  lacked_is = refl;
}

module _ {L D G H P E : Type 0} (meaning : P → Meaning E) (state : L → LinkState) (door : D → DoorState L) (may_stop : Bool) (each : ℕ) (lock : TableId) (shared : H) (hub after : HubView) (whole : PassState (KeptEntry H)) (old handed worked new : List (Post D G H P)) where
  pub all_served : IsWhole lock (listed shared hub) (length old) (length old) whole → after ≡ known (desk_of whole)
      → ((more : List Entry) × (log_at_new whole ++ more ≡ after.log) × All (λ (e : Entry). e.caller < whole.passes) more)
      → length handed ≡ length old → length worked ≡ length old → length new ≡ length old
      → ((k : ℕ) (d : Post D G H P) → place_of (get_or handed k d) ≡ place_of (get_or old k d))
      → ((k : ℕ) (d : Post D G H P) → k < length old → (get_or handed k d).pass ≡ Some (pass_at lock (listed shared hub) (length old) k))
      → ((k : ℕ) (d : Post D G H P) → k < length handed → HasWorkedAt meaning state door may_stop each (get_or handed k d) (get_or worked k d))
      → ((k : ℕ) (d : Post D G H P) → (get_or new k d).door ≡ (get_or worked k d).door)
      → ((k : ℕ) (d : Post D G H P) → k < length worked → IfSome (get_or worked k d).pass (λ p. Follows k p whole))
      → ServesAll meaning state door may_stop hub after old new each (sum_by (λ (p : Post D G H P). p.tally.sessions) worked) (list_any (λ (p : Post D G H P). p.tally.door_failed) worked) (list_any (λ (p : Post D G H P). p.tally.no_memory) worked)
  all_served w closed since handed_len worked_len new_len handed_places passes works new_doors follows =
      let log_is : after.log ≡ log_seen whole = ap (λ (h : HubView). h.log) closed in
      let new_admin : after.admin ≡ hub.admin = ap (λ (h : HubView). h.admin) closed ∙ ap admin_in w.at_new in
      let start_log : log_at_new whole ≡ hub.log = ap log_in w.at_new ∙ ap (λ (h : HubView). h.log) (hub_in-listed shared hub) in
      let all = each_of (length old) Post_at one in
      record {
        admin = new_admin;
        legal = subst (λ (h : HubView). IsLegal h.admin h.log) (sym closed) w.hub.legal;
        since = since.0;
        begins = ap (λ l. l ++ since.0) (sym start_log) ∙ since.1;
        places = subst (λ n. All (λ (e : Entry). e.caller < n) since.0) w.made_is since.2;
        did = all.0;
        each_did = all.1;
        posts = λ k d c less. (all.2 k c less d).served;
        sessions_is = same_sum (λ (p : Post D G H P). p.tally.sessions) count_of worked all.0 (all.1 ∙ sym worked_len) (λ k d c less. (all.2 k c (omega (arith, less, worked_len)) d).counted);
        failed_is = same_any (λ (p : Post D G H P). p.tally.door_failed) (λ (c : PostTally L E). c.failed) worked all.0 (all.1 ∙ sym worked_len) (λ k d c less. (all.2 k c (omega (arith, less, worked_len)) d).failed);
        lacked_is = same_any (λ (p : Post D G H P). p.tally.no_memory) (λ (c : PostTally L E). c.lacked) worked all.0 (all.1 ∙ sym worked_len) (λ k d c less. (all.2 k c (omega (arith, less, worked_len)) d).lacked);
      }
    where
      Post_at : ℕ → PostTally L E → Type 0
      Post_at k did = (d : Post D G H P) → IsOfPost (meaning (get_or old k d).protocol) state may_stop hub.admin k (length hub.log) after.log each (door (get_or old k d).door) (door (get_or new k d).door) (get_or worked k d) did

      one : (k : ℕ) → k < length old → (did : PostTally L E) × Post_at k did
      one k less =
          let d : Post D G H P = head_of old k less in
          let less_handed : k < length handed = omega (arith, less, handed_len) in
          let less_worked : k < length worked = omega (arith, less, worked_len) in
          let less_new : k < length new = omega (arith, less, new_len) in
          let r = post_served meaning state door may_stop each (get_or handed k d) (get_or worked k d) (works k d less_handed) lock (listed shared hub) (length old) k (passes k d less) (meaning (get_or old k d).protocol) shared hub after whole (get_or old k d).door (get_or new k d).door (ap (λ (p : D × P). meaning p.1) (handed_places k d)) refl (ap (λ (h : HubView). h.log) closed) (ap (λ (p : D × P). p.0) (handed_places k d)) (new_doors k d) (follows k d less_worked) in (
            r.0,
            λ e. subst (λ (t : Post D G H P × Post D G H P × Post D G H P). IsOfPost (meaning t.0.protocol) state may_stop hub.admin k (length hub.log) after.log each (door t.0.door) (door t.1.door) t.2 r.0)
                (λ i. (get_or_default old k d e less i, get_or_default new k d e less_new i, get_or_default worked k d e less_worked i)) r.1,
          )
