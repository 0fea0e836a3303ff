-- Passes, handed out and joined.
use Rattle.std.proofs.Common.{◌≡◌, ◌<◌, ◌+◌, ℕ, zero, suc, get_or, List, [], ◌∷◌, ◌++◌, length, refl, sym, ◌∙◌, ap, subst, arith, append_assoc, append-nil}
use Rattle.std.proofs.Math.ListN.{set}
use Rattle.std.specs.Prelude.{Option, None, Some, IfSome, Contains}
use Rattle.std.specs.List.{AllByRecursion}
use Rattle.std.proofs.lemmas.List.Elements.{All-head, All-tail}
use Rattle.atomic_table.specs.Seated.{TableId}
use Rattle.turn_lock.specs.Lock.{AreOthers, GrowsByOthers, PassState, joined}
use Rattle.turn_lock.proofs.Numbers.{ContainsBelow-append}
use Rattle.hub_history.specs.declared.entry.Entry.{Entry}
use Rattle.hub.specs.Desk.{IsOfAnother}
use Rattle.shared_hub.specs.declared.kept.KeptEntry.{KeptEntry}
use Rattle.shared_hub.specs.Shared.{IsHubPass, log_seen}
use Rattle.session_workers.specs.Passes.{Follows, IsPassOf, IsWhole}

-- entries that bear none of some numbers are of others than the caller of one of them
others_are : (numbers : List ℕ) (k : ℕ) (es : List Entry) → Contains numbers k → AreOthers (λ (e : Entry). e.caller) numbers es → AllByRecursion (IsOfAnother k) es
others_are numbers k [] has others = tt
others_are numbers k (e ∷ es) has others =
    let P : Entry → Type 0 = λ e. ¬ (Contains numbers e.caller) in
    (λ same. All-head P e es others (subst (λ m. Contains numbers m) (sym same) has), others_are numbers k es has (All-tail P e es others))

all-append : (k : ℕ) (xs ys : List Entry) → AllByRecursion (IsOfAnother k) xs → AllByRecursion (IsOfAnother k) ys → AllByRecursion (IsOfAnother k) (xs ++ ys)
all-append k [] ys these those = those
all-append k (x ∷ xs) ys these those = (these.0, all-append k xs ys these.1 those)

pub follows_at : {H : Type 0} (k : ℕ) (numbers : List ℕ) (a c : PassState (KeptEntry H)) → Contains numbers k → GrowsByOthers (λ (e : Entry). e.caller) numbers (log_seen a) (log_seen c) → Follows k a c
follows_at k numbers a c has grows = (grows.0, grows.1, others_are numbers k grows.0 has grows.2)

pub follows_more : {H : Type 0} (k : ℕ) (numbers : List ℕ) (a b c : PassState (KeptEntry H)) → Contains numbers k → Follows k a b → GrowsByOthers (λ (e : Entry). e.caller) numbers (log_seen b) (log_seen c) → Follows k a c
follows_more k numbers a b c has follows grows = (
  follows.0 ++ grows.0,
  sym (append_assoc (log_seen a) follows.0 grows.0) ∙ ap (λ l. l ++ grows.0) follows.1 ∙ grows.1,
  all-append k follows.0 grows.0 follows.2 (others_are numbers k grows.0 has grows.2),
)

pub follows_self : {H : Type 0} (k : ℕ) (pass : PassState (KeptEntry H)) → Follows k pass pass
follows_self k pass = ([], append-nil (log_seen pass), tt)

pub whole_first : {H : Type 0} (lock : TableId) (list : List (KeptEntry H)) (made : ℕ) (pass : PassState (KeptEntry H)) → IsPassOf lock list made 0 pass → IsWhole lock list made 1 pass
whole_first lock list made pass p = record {
  of_hub = p.same.lock;
  first = p.same.caller;
  at_new = p.same.at_new;
  made_is = p.same.passes;
  all = λ n less. subst (λ l. Contains l n) (sym p.same.numbers) (0, omega arith, omega (arith, less));
  hub = p.hub;
}

pub whole_more : {H : Type 0} (lock : TableId) (list : List (KeptEntry H)) (made place : ℕ) (whole pass new : PassState (KeptEntry H))
    → IsWhole lock list made place whole → IsPassOf lock list made place pass → new ≡ joined whole pass → IsHubPass new → IsWhole lock list made (place + 1) new
whole_more {H} lock list made place whole pass new w p is hub =
    let own : Contains pass.numbers place = subst (λ l. Contains l place) (sym p.same.numbers) (0, omega arith, omega arith) in
    record {
      of_hub = ap (λ (q : PassState (KeptEntry H)). q.lock) is ∙ w.of_hub;
      first = ap (λ (q : PassState (KeptEntry H)). q.caller) is ∙ w.first;
      at_new = ap (λ (q : PassState (KeptEntry H)). q.at_new) is ∙ w.at_new;
      made_is = ap (λ (q : PassState (KeptEntry H)). q.passes) is ∙ w.made_is;
      all = subst (λ l. (n : ℕ) → n < place + 1 → Contains l n) (sym (ap (λ (q : PassState (KeptEntry H)). q.numbers) is)) (ContainsBelow-append whole.numbers pass.numbers place w.all own);
      hub = hub;
    }

-- lists, place by place
pub set_keeps : {X Y : Type 0} (f : X → Y) (xs : List X) (i k : ℕ) (y d d' : X) → i < length xs → f y ≡ f (get_or xs i d') → f (get_or (set xs i y) k d) ≡ f (get_or xs k d)
set_keeps f [] i k y d d' within same = absurd (omega (arith, within))
set_keeps f (x ∷ xs) zero zero y d d' within same = same
set_keeps f (x ∷ xs) zero (suc k) y d d' within same = refl
set_keeps f (x ∷ xs) (suc i) zero y d d' within same = refl
set_keeps f (x ∷ xs) (suc i) (suc k) y d d' within same = set_keeps f xs i k y d d' (omega (arith, within)) same

pub if_some : {X : Type 0} (o : Option X) (P Q : X → Type 0) → ((x : X) → P x → Q x) → IfSome o P → IfSome o Q
if_some None P Q goes holds = tt
if_some (Some x) P Q goes holds = goes x holds
