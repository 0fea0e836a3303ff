-- Outcomes of pushes, and what they leave.
use Rattle.std.proofs.Common.{◌≡◌, List, ℕ, sym, ◌∙◌, ap, ◌++◌, ◌<◌, ◌≤◌, nat_lt, Bool, true, false, map, length, arith}
use Rattle.std.specs.Prelude.{if◌then◌else◌, Option, Some, None, Result, Ok, Err, IfOk}
use Rattle.std.specs.List.{list_any}
use Rattle.std.proofs.lemmas.Bool.Decides.{nat_tests}
use Rattle.base_types.specs.declared.no_memory.NoMemory.{NoMemory}
use Rattle.git_object.specs.Content.{Content}
use Rattle.git_object.specs.declared.object_id.ObjectId.{ObjectId}
use Rattle.ref_store.specs.Objects.{with_pack, HasNamesOnce, HasNoCollision, IsFirstCollision}
use Rattle.ref_store.specs.Store.{Store}
use Rattle.ref_store.specs.declared.command.Command.{Command}
use Rattle.hub_history.specs.declared.outcome.Outcome.{Outcome}
use Rattle.hub_history.specs.declared.outcome.Outcome.TheVariants.{Collided, Full}
use Rattle.hub_history.specs.State.{Repository}
use Rattle.hub_history.specs.Push.{repository_left_with, refs_left, is_done, together, in_order, unless_collided, unless_full, outcomes_in}
use Rattle.hub_history.proofs.PushLemmas.{done_together}
use Rattle.push_settling.specs.declared.settling.Settled.{Settled}
use Rattle.push_settling.proofs.CollisionLemmas.{collision_none, collision_some}

pub none_left : (now : Repository) (objects : List Content) (cs : List Command) (os : List Outcome) → list_any is_done os ≡ false → None ≡ repository_left_with now objects cs os
none_left now objects cs os is = sym (ap (λ b. if b then Some (record now { objects = objects; refs = refs_left now.refs cs os }) else None) is)

abbrev pub with_store : Repository → Store → Repository
with_store now store = record { objects = store.objects; refs = store.refs; creator = now.creator; roles = now.roles }

-- the repository in which the commands ran is the one that the outcomes leave
pub some_left : (now : Repository) (objects : List Content) (cs : List Command) (atomic : Bool) (ran os : List Outcome) → os ≡ together atomic ran → list_any is_done os ≡ true
    → Some (with_store now (record { objects = objects; refs = refs_left now.refs cs ran })) ≡ repository_left_with now objects cs os
some_left now objects cs atomic ran os told some =
    let same : os ≡ ran = told ∙ done_together atomic ran (ap (list_any is_done) (sym told) ∙ some) in
    ap (λ o. Some (record now { objects = objects; refs = refs_left now.refs cs o })) (sym same)
    ∙ sym (ap (λ b. if b then Some (record now { objects = objects; refs = refs_left now.refs cs os }) else None) some)

-- the outcomes of a push by what the repository tells of its pack
pub all_collided : (now : Repository) (pack : List Content) (cs : List Command) (atomic : Bool) (js : List (Option Outcome)) (id : ObjectId) (kept given : ℕ)
    → HasNamesOnce now.objects → IsFirstCollision (now.objects ++ pack) id kept given → map (λ c. Collided id) cs ≡ outcomes_in now pack cs atomic js
all_collided now pack cs atomic js id kept given once first =
    ap (λ (o : Option ObjectId). unless_collided o cs (unless_full (length (with_pack now.objects pack)) cs (together atomic (in_order now.refs cs js)))) (sym (collision_some now.objects pack id kept given once first))

pub all_full : (now : Repository) (pack : List Content) (cs : List Command) (atomic : Bool) (js : List (Option Outcome)) (count : ℕ)
    → HasNoCollision (now.objects ++ pack) → count ≡ length (with_pack now.objects pack) → 4294967295 < count → map (λ c. Full count) cs ≡ outcomes_in now pack cs atomic js
all_full now pack cs atomic js count apart is past =
    let full : nat_lt 4294967295 count ≡ true = grind (arith, nat_tests) in
    ap (λ (b : Bool). if b then map (λ c. Full count) cs else together atomic (in_order now.refs cs js)) (sym full)
    ∙ ap (λ (n : ℕ). unless_full n cs (together atomic (in_order now.refs cs js))) is
    ∙ ap (λ (o : Option ObjectId). unless_collided o cs (unless_full (length (with_pack now.objects pack)) cs (together atomic (in_order now.refs cs js)))) (sym (collision_none now.objects pack apart))

pub as_in_order : (now : Repository) (pack : List Content) (cs : List Command) (atomic : Bool) (js : List (Option Outcome))
    → HasNoCollision (now.objects ++ pack) → length (with_pack now.objects pack) ≤ 4294967295 → together atomic (in_order now.refs cs js) ≡ outcomes_in now pack cs atomic js
as_in_order now pack cs atomic js apart few =
    let not_full : nat_lt 4294967295 (length (with_pack now.objects pack)) ≡ false = grind (arith, nat_tests) in
    ap (λ (b : Bool). if b then map (λ c. Full (length (with_pack now.objects pack))) cs else together atomic (in_order now.refs cs js)) (sym not_full)
    ∙ ap (λ (o : Option ObjectId). unless_collided o cs (unless_full (length (with_pack now.objects pack)) cs (together atomic (in_order now.refs cs js)))) (sym (collision_none now.objects pack apart))

-- what follows of a value follows of a result
pub ok_along : (r : Result Settled NoMemory) (P Q : Settled → Type 0) → ((d : Settled) → P d → Q d) → IfOk r P → IfOk r Q
ok_along (Ok d) P Q follows p = follows d p
ok_along (Err e) P Q follows p = tt

pub ok_along_both : (r : Result Settled NoMemory) (P Q R : Settled → Type 0) → ((d : Settled) → P d → Q d → R d) → IfOk r P → IfOk r Q → IfOk r R
ok_along_both (Ok d) P Q R follows p q = follows d p q
ok_along_both (Err e) P Q R follows p q = tt
