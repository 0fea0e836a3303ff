-- Passes of a shared hub.
use Rattle.std.proofs.Common.{◌≡◌, ◌<◌, ℕ, true, List, [], ◌∷◌, sym, ◌∙◌, ap, subst, append-nil}
use Rattle.std.specs.Prelude.{All, Contains}
use Rattle.conf_lex.specs.Names.{is_user_name}
use Rattle.std.proofs.lemmas.List.Elements.{All-nil, All-cons, All-head, All-tail}
use Rattle.atomic_table.specs.Seated.{TableId}
use Rattle.turn_lock.specs.Lock.{AreOthers, GrowsByOthers, PassState, first_pass, kept, seen}
use Rattle.hub_history.specs.declared.entry.Entry.{Entry}
use Rattle.hub_history.specs.History.{IsLegal}
use Rattle.hub.specs.Hub.{HubView}
use Rattle.hub.specs.Desk.{known}
use Rattle.shared_hub.specs.declared.kept.KeptEntry.{KeptEntry}
use Rattle.shared_hub.specs.declared.kept.KeptEntry.TheVariants.{First, Logged}
use Rattle.shared_hub.specs.Kept.{NamesAdmin, caller_of, hub_in, listed, log_in}
use Rattle.shared_hub.specs.Desk.{desk_of}
use Rattle.shared_hub.specs.Shared.{IsHubPass, entries_seen, log_seen}
use Rattle.shared_hub.proofs.ListLemmas.{hub_in-listed, log_in-append, admin_in-append, entries_of-since}

-- the first pass knows the hub whole
pub first_knows : {H : Type 0} (lock : TableId) (first : H) (hub : HubView) (pass : PassState (KeptEntry H)) → pass ≡ first_pass lock (listed first hub) → known (desk_of pass) ≡ hub
first_knows lock first hub pass is = ap (λ p. known (desk_of p)) is ∙ (ap (λ l. record { admin = hub.admin; log = log_in l }) (append-nil (listed first hub)) ∙ hub_in-listed first hub)

pub first_of_hub : {H : Type 0} (lock : TableId) (first : H) (hub : HubView) (pass : PassState (KeptEntry H)) → is_user_name hub.admin ≡ true → IsLegal hub.admin hub.log → pass ≡ first_pass lock (listed first hub) → IsHubPass pass
first_of_hub {H} lock first hub pass named legal is = record {
  admin = subst (λ (p : PassState (KeptEntry H)). NamesAdmin p.at_new) (sym is) named;
  legal = subst (λ (h : HubView). IsLegal h.admin h.log) (sym (first_knows lock first hub pass is)) legal;
}

-- the hub that has all that a pass has seen
pub closed_hub : {H : Type 0} (first : H) (hub : HubView) (pass : PassState (KeptEntry H)) → NamesAdmin pass.at_new → listed first hub ≡ seen pass → hub ≡ known (desk_of pass)
closed_hub first hub pass names is =
    sym (hub_in-listed first hub) ∙ ap hub_in is ∙ (λ i. record { admin = admin_in-append pass.at_new pass.since names i; log = log_seen pass })

pub callers_below : {H : Type 0} (k : ℕ) (xs : List (KeptEntry H)) → All (λ e. caller_of e < k) xs → All (λ (e : Entry). e.caller < k) (log_in xs)
callers_below k [] below = All-nil (λ (e : Entry). e.caller < k)
callers_below k (First name was ∷ xs) below = callers_below k xs (All-tail (λ e. caller_of e < k) (First name was) xs below)
callers_below k (Logged e ∷ xs) below = All-cons (λ (e : Entry). e.caller < k) e (log_in xs) (All-head (λ e. caller_of e < k) (Logged e) xs below) (callers_below k xs (All-tail (λ e. caller_of e < k) (Logged e) xs below))

-- what the lock keeps of a number is what a pass has seen of it
pub same_entries : {H : Type 0} (p q : PassState (KeptEntry H)) (n : ℕ) → kept caller_of p n ≡ kept caller_of q n → entries_seen n p ≡ entries_seen n q
same_entries p q n same = entries_of-since n p.at_new p.since ∙ ap log_in same ∙ sym (entries_of-since n q.at_new q.since)

others_in : {H : Type 0} (numbers : List ℕ) (xs : List (KeptEntry H)) → AreOthers caller_of numbers xs → AreOthers (λ (e : Entry). e.caller) numbers (log_in xs)
others_in numbers [] others = All-nil (λ (e : Entry). ¬ (Contains numbers e.caller))
others_in numbers (First name was ∷ xs) others = others_in numbers xs (All-tail (λ e. ¬ (Contains numbers (caller_of e))) (First name was) xs others)
others_in numbers (Logged e ∷ xs) others =
    All-cons (λ (e : Entry). ¬ (Contains numbers e.caller)) e (log_in xs) (All-head (λ e. ¬ (Contains numbers (caller_of e))) (Logged e) xs others) (others_in numbers xs (All-tail (λ e. ¬ (Contains numbers (caller_of e))) (Logged e) xs others))

-- a list that goes on with entries of others has a log that does
pub log_grows : {H : Type 0} (numbers : List ℕ) (xs ys : List (KeptEntry H)) → GrowsByOthers caller_of numbers xs ys → GrowsByOthers (λ (e : Entry). e.caller) numbers (log_in xs) (log_in ys)
log_grows numbers xs ys grows = (log_in grows.0, sym (log_in-append xs grows.0) ∙ ap log_in grows.1, others_in numbers grows.0 grows.2)
