-- One group's members more.
use Rattle.std.proofs.Common.{◌≡◌, ℕ, Bool, true, false, cond, List, Option, Some, None, IfSome, refl, sym, ap, ◌∙◌, subst}
use Rattle.std.specs.FinMap as named
use Rattle.std.specs.Ordering.{nat_cmp, eq_by_cmp}
use Rattle.std.specs.Cmp.Lexicographic.{bytes_decides, slice_cmp, nat_list_cmp_total, texts_ties}
use Rattle.base_types.specs.Names.{ByName}
use Rattle.conf_groups.specs.declared.placed.Placed.{Placed}
use Rattle.conf_groups.specs.declared.placed.Scope.{Scope}
use Rattle.conf_groups.specs.declared.placed.Scope.TheVariants.{Main, Sub}
use Rattle.rule_compile.specs.Shared.{AreShared, groups_in, in_groups, shared_of}
use Rattle.rule_compile.specs.Words.{members_of}
use Rattle.rule_compile.specs.declared.shared.SharedMembers.{SharedMembers}

chosen : {V : Type 0} (P : V → Type 0) (b : Bool) (v : V) (o : Option V) → ((b ≡ true) → P v) → IfSome o P → IfSome (cond b (Some v) o) P
chosen P true v o here h = here refl
chosen P false v o here h = h

gone : {V : Type 0} (P : V → Type 0) (b : Bool) (o : Option V) → IfSome o P → IfSome (cond b None o) P
gone P true o h = tt
gone P false o h = h

-- what holds at each name still does after one more
all_inserted : {V : Type 0} (P : List ℕ → V → Type 0) (m : ByName V) (k : List ℕ) (v : V) → P k v → ((q : List ℕ) → IfSome (named.get m q) (P q))
    → (q : List ℕ) → IfSome (named.get (named.insert m k v) q) (P q)
all_inserted {V} P m k v here h q =
    subst (λ (o : Option V). IfSome o (P q)) (sym (named.get-insert nat_list_cmp_total m k v q))
    (chosen (P q) (eq_by_cmp (slice_cmp nat_cmp) q k) v (named.get m q)
    (λ e. subst (λ (x : List ℕ). P x v) (sym ((bytes_decides q k).0 (texts_ties q k ∙ e))) here)
    (h q))

all_removed : {V : Type 0} (P : List ℕ → V → Type 0) (m : ByName V) (k : List ℕ) → ((q : List ℕ) → IfSome (named.get m q) (P q))
    → (q : List ℕ) → IfSome (named.get (named.remove m k) q) (P q)
all_removed {V} P m k h q =
    subst (λ (o : Option V). IfSome o (P q)) (sym (named.get-remove nat_list_cmp_total m k q))
    (gone (P q) (eq_by_cmp (slice_cmp nat_cmp) q k) (named.get m q) (h q))

-- the groups of a subconf, and each of them
abbrev Groups : Type 0
Groups = ByName (List (List ℕ))

to_all : (Q : List ℕ → List (List ℕ) → Type 0) (o : Option Groups) → ((g : List ℕ) → IfSome (in_groups o g) (Q g)) → IfSome o (λ groups. (g : List ℕ) → IfSome (named.get groups g) (Q g))
to_all Q None h = tt
to_all Q (Some groups) h = h

to_each : (Q : List ℕ → List (List ℕ) → Type 0) (o : Option Groups) → IfSome o (λ groups. (g : List ℕ) → IfSome (named.get groups g) (Q g)) → (g : List ℕ) → IfSome (in_groups o g) (Q g)
to_each Q None h g = tt
to_each Q (Some groups) h g = h g

in_taken : (Q : List ℕ → List (List ℕ) → Type 0) (o : Option Groups) → ((g : List ℕ) → IfSome (in_groups o g) (Q g)) → (g : List ℕ) → IfSome (named.get (groups_in o) g) (Q g)
in_taken Q None h g = subst (λ (o : Option (List (List ℕ))). IfSome o (Q g)) (sym (named.get-empty (slice_cmp nat_cmp) g)) tt
in_taken Q (Some groups) h g = h g

if_some : {V : Type 0} (P : V → Type 0) (o : Option V) → ((v : V) → o ≡ Some v → P v) → IfSome o P
if_some P None h = tt
if_some P (Some v) h = h v refl

when_some : {V : Type 0} (P : V → Type 0) (o : Option V) → IfSome o P → (v : V) → o ≡ Some v → P v
when_some {V} P o h v is = subst (λ (o : Option V). IfSome o P) is h

-- members by all lines
abbrev ByAll : List Placed → Scope → List ℕ → List (List ℕ) → Type 0
ByAll placed scope group members = members ≡ members_of placed scope group

shared : (s : SharedMembers) (placed : List Placed) → ((scope : Scope) (group : List ℕ) → IfSome (shared_of s scope group) (ByAll placed scope group)) → AreShared s placed
shared s placed h scope group members is = when_some (ByAll placed scope group) (shared_of s scope group) (h scope group) members is

kept : (s : SharedMembers) (placed : List Placed) → AreShared s placed → (scope : Scope) (group : List ℕ) → IfSome (shared_of s scope group) (ByAll placed scope group)
kept s placed h scope group = if_some (ByAll placed scope group) (shared_of s scope group) (h scope group)

nothing_kept : (placed : List Placed) (scope : Scope) (group : List ℕ) → IfSome (shared_of (record { main = named.empty; subs = named.empty }) scope group) (ByAll placed scope group)
nothing_kept placed Main group = subst (λ (o : Option (List (List ℕ))). IfSome o (ByAll placed Main group)) (sym (named.get-empty (slice_cmp nat_cmp) group)) tt
nothing_kept placed (Sub name) group =
    subst (λ (o : Option Groups). IfSome (in_groups o group) (ByAll placed (Sub name) group)) (sym (named.get-empty (slice_cmp nat_cmp) name)) tt

pub none_shared : (main : Groups) (subs : ByName Groups) (placed : List Placed) → main ≡ named.empty → subs ≡ named.empty → AreShared (record { main = main; subs = subs }) placed
none_shared main subs placed no_main no_subs =
    subst (λ (m : Groups). AreShared (record { main = m; subs = subs }) placed) (sym no_main)
    (subst (λ (s : ByName Groups). AreShared (record { main = named.empty; subs = s }) placed) (sym no_subs)
    (shared (record { main = named.empty; subs = named.empty }) placed (nothing_kept placed)))

main_kept : (main : Groups) (subs : ByName Groups) (placed : List Placed) (group : List ℕ) (members : List (List ℕ))
    → ((scope : Scope) (g : List ℕ) → IfSome (shared_of (record { main = main; subs = subs }) scope g) (ByAll placed scope g)) → ByAll placed Main group members
    → (scope : Scope) (g : List ℕ) → IfSome (shared_of (record { main = named.insert main group members; subs = subs }) scope g) (ByAll placed scope g)
main_kept main subs placed group members h e Main = all_inserted (ByAll placed Main) main group members e (h Main)
main_kept main subs placed group members h e (Sub s) = h (Sub s)

pub main_with : (main new : Groups) (subs : ByName Groups) (placed : List Placed) (group : List ℕ) (members : List (List ℕ))
    → AreShared (record { main = main; subs = subs }) placed → members ≡ members_of placed Main group → new ≡ named.insert main group members
    → AreShared (record { main = new; subs = subs }) placed
main_with main new subs placed group members h e is =
    subst (λ (m : Groups). AreShared (record { main = m; subs = subs }) placed) (sym is)
    (shared (record { main = named.insert main group members; subs = subs }) placed
    (main_kept main subs placed group members (kept (record { main = main; subs = subs }) placed h) e))

-- the groups of a subconf with the members of one more
abbrev with_group : ByName Groups → List ℕ → List ℕ → List (List ℕ) → Groups
with_group subs name group members = named.insert (groups_in (named.get subs name)) group members

subs_kept : (main : Groups) (subs : ByName Groups) (placed : List Placed) (name group : List ℕ) (members : List (List ℕ))
    → ((scope : Scope) (g : List ℕ) → IfSome (shared_of (record { main = main; subs = subs }) scope g) (ByAll placed scope g)) → ByAll placed (Sub name) group members
    → (scope : Scope) (g : List ℕ)
    → IfSome (shared_of (record { main = main; subs = named.insert (named.remove subs name) name (with_group subs name group members) }) scope g) (ByAll placed scope g)
subs_kept main subs placed name group members h e Main = h Main
subs_kept main subs placed name group members h e (Sub s) =
    let P : List ℕ → Groups → Type 0 = λ t groups. (g : List ℕ) → IfSome (named.get groups g) (ByAll placed (Sub t) g) in
    let before : (t : List ℕ) → IfSome (named.get subs t) (P t) = λ t. to_all (ByAll placed (Sub t)) (named.get subs t) (h (Sub t)) in
    let new : P name (with_group subs name group members) =
    all_inserted (ByAll placed (Sub name)) (groups_in (named.get subs name)) group members e (in_taken (ByAll placed (Sub name)) (named.get subs name) (h (Sub name))) in
    to_each (ByAll placed (Sub s)) (named.get (named.insert (named.remove subs name) name (with_group subs name group members)) s)
    (all_inserted P (named.remove subs name) name (with_group subs name group members) new (all_removed P subs name before) s)

pub subs_with : (main groups more : Groups) (subs left new : ByName Groups) (placed : List Placed) (name group : List ℕ) (members : List (List ℕ))
    → AreShared (record { main = main; subs = subs }) placed → members ≡ members_of placed (Sub name) group
    → groups ≡ groups_in (named.get subs name) → left ≡ named.remove subs name → more ≡ named.insert groups group members → new ≡ named.insert left name more
    → AreShared (record { main = main; subs = new }) placed
subs_with main groups more subs left new placed name group members h e are gone_is more_is is =
    let due : more ≡ with_group subs name group members = more_is ∙ ap (λ (g : Groups). named.insert g group members) are in
    let all : new ≡ named.insert (named.remove subs name) name (with_group subs name group members) =
    is ∙ ap (λ (m : ByName Groups). named.insert m name more) gone_is ∙ ap (λ (g : Groups). named.insert (named.remove subs name) name g) due in
    subst (λ (m : ByName Groups). AreShared (record { main = main; subs = m }) placed) (sym all)
    (shared (record { main = main; subs = named.insert (named.remove subs name) name (with_group subs name group members) }) placed
    (subs_kept main subs placed name group members (kept (record { main = main; subs = subs }) placed h) e))
