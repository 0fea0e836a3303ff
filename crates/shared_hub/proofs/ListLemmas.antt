-- The list that a hub under a lock stands for.
use Rattle.std.proofs.Common.{◌≡◌, ◌==◌, ℕ, Bool, true, false, cond, List, [], ◌∷◌, ◌++◌, length, map, drop, refl, sym, ◌∙◌, ap, arith, length-append}
use Rattle.std.specs.List.{filter}
use Rattle.std.proofs.Math.Seq.{drop-append_seam}
use Rattle.std.proofs.lemmas.List.{map-append}
use Rattle.conf_lex.specs.Names.{is_user_name}
use Rattle.hub_history.specs.declared.entry.Entry.{Entry}
use Rattle.hub_history.specs.declared.entry.Event.{Event}
use Rattle.hub.specs.Hub.{HubView, logged}
use Rattle.hub.specs.Desk.{entries_of}
use Rattle.shared_hub.specs.declared.kept.KeptEntry.{KeptEntry}
use Rattle.shared_hub.specs.declared.kept.KeptEntry.TheVariants.{First, Logged}
use Rattle.shared_hub.specs.Kept.{Began, caller_of, listed, admin_in, log_in, hub_in, NamesAdmin}

pub log_in-append : {H : Type 0} (xs ys : List (KeptEntry H)) → log_in (xs ++ ys) ≡ log_in xs ++ log_in ys
log_in-append [] ys = refl
log_in-append (First name was ∷ xs) ys = log_in-append xs ys
log_in-append (Logged e ∷ xs) ys = ap (λ l. e ∷ l) (log_in-append xs ys)

log_in-map : (H : Type 0) (log : List Entry) → log_in {H = H} (map Logged log) ≡ log
log_in-map H [] = refl
log_in-map H (e ∷ log) = ap (λ l. e ∷ l) (log_in-map H log)

-- a hub is the hub of its list
pub hub_in-listed : {H : Type 0} (first : H) (hub : HubView) → hub_in (listed first hub) ≡ hub
hub_in-listed first hub = ap (λ l. record { admin = hub.admin; log = l }) (log_in-map _ hub.log)

pub admin_in-append : {H : Type 0} (xs ys : List (KeptEntry H)) → NamesAdmin xs → admin_in (xs ++ ys) ≡ admin_in xs
admin_in-append [] ys names = absurd names
admin_in-append (First name was ∷ xs) ys names = refl
admin_in-append (Logged e ∷ xs) ys names = absurd names

-- the admin of such a list
pub named_in : {H : Type 0} (xs : List (KeptEntry H)) → NamesAdmin xs → is_user_name (admin_in xs) ≡ true
named_in [] names = absurd names
named_in (First name was ∷ xs) names = names
named_in (Logged e ∷ xs) names = absurd names

pub NamesAdmin-append : {H : Type 0} (xs ys : List (KeptEntry H)) → NamesAdmin xs → NamesAdmin (xs ++ ys)
NamesAdmin-append [] ys names = absurd names
NamesAdmin-append (First name was ∷ xs) ys names = names
NamesAdmin-append (Logged e ∷ xs) ys names = absurd names

pub listed-logged : {H : Type 0} (first : H) (hub : HubView) (caller : ℕ) (event : Event) → listed first (logged hub caller event) ≡ listed first hub ++ Logged (record { caller = caller; event = event }) ∷ []
listed-logged first hub caller event = ap (λ l. First hub.admin (record { marker = record {}; value = first }) ∷ l) (map-append Logged hub.log (record { caller = caller; event = event } ∷ []))

log_in-cond : {H : Type 0} (b : Bool) (e : Entry) (xs : List (KeptEntry H)) → log_in (cond b (Logged e ∷ xs) xs) ≡ cond b (e ∷ log_in xs) (log_in xs)
log_in-cond true e xs = refl
log_in-cond false e xs = refl

log_in-cond_first : {H : Type 0} (b : Bool) (first : KeptEntry H) (xs : List (KeptEntry H)) → log_in (first ∷ xs) ≡ log_in xs → log_in (cond b (first ∷ xs) xs) ≡ log_in xs
log_in-cond_first true first xs same = same
log_in-cond_first false first xs same = refl

-- the entries of a number in a list
pub log_in-filter : {H : Type 0} (n : ℕ) (xs : List (KeptEntry H)) → log_in (filter (λ e. caller_of e == n) xs) ≡ filter (λ (e : Entry). e.caller == n) (log_in xs)
log_in-filter n [] = refl
log_in-filter n (First name was ∷ xs) = log_in-cond_first (0 == n) (First name was) (filter (λ e. caller_of e == n) xs) refl ∙ log_in-filter n xs
log_in-filter n (Logged e ∷ xs) =
    log_in-cond (e.caller == n) e (filter (λ e. caller_of e == n) xs) ∙ ap (λ l. cond (e.caller == n) (e ∷ l) l) (log_in-filter n xs)

-- past the list at `new` they are those that the lock keeps
pub entries_of-since : {H : Type 0} (n : ℕ) (at_new since : List (KeptEntry H)) → entries_of n (length (log_in at_new)) (log_in (at_new ++ since)) ≡ log_in (filter (λ e. caller_of e == n) since)
entries_of-since n at_new since =
    ap (λ l. filter (λ (e : Entry). e.caller == n) (drop (length (log_in at_new)) l)) (log_in-append at_new since)
    ∙ ap (λ l. filter (λ (e : Entry). e.caller == n) l) (drop-append_seam (log_in at_new) (log_in since))
    ∙ sym (log_in-filter n since)

-- a list isn't itself and one item more
pub no_more : {X : Type 0} (xs : List X) (x : X) → xs ++ x ∷ [] ≡ xs → ⊥
no_more xs x same = absurd (omega (arith, ap length same, length-append xs (x ∷ [])))

abbrev first_in : {H : Type 0} → H → List (KeptEntry H) → H
first_in default [] = default
first_in default (First name was ∷ items) = was.value
first_in default (Logged e ∷ items) = default

-- the list of a hub that goes on from one tells of the same hub as that one
pub same_first : {H : Type 0} (first other : H) (hub : HubView) (at_new since : List (KeptEntry H)) → listed first hub ≡ at_new ++ since → Began at_new other → first ≡ other
same_first first other hub [] since is began = absurd began
same_first first other hub (First name was ∷ items) since is began = ap (first_in first) is ∙ began
same_first first other hub (Logged e ∷ items) since is began = absurd began
