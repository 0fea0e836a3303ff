-- The running of a push's commands.
use Rattle.std.proofs.Common.{◌≡◌, ℕ, zero, suc, ◌<◌, Bool, true, false, not, List, [], ◌∷◌, length, get_or, refl, sym, ◌∙◌, ap, arith, subst}
use Rattle.std.specs.Prelude.{Option, Some, None, if◌then◌else◌}
use Rattle.git_object.specs.declared.object_id.ObjectId.{ObjectId}
use Rattle.ref_store.specs.Objects.{same_id}
use Rattle.ref_store.specs.Refs.{Name, Refs, zero_id, value, moved, first_at_odds}
use Rattle.ref_store.specs.Store.{Store, TellsOfMove, moved_by}
use Rattle.ref_store.specs.declared.command.Command.{Command}
use Rattle.ref_store.specs.declared.repo.Applied.TheVariants as moving
use Rattle.ref_store.proofs.ObjectLemmas.{id_is, id_itself}
use Rattle.ref_store.proofs.OddsLemmas.{first_is}
use Rattle.hub_history.specs.declared.outcome.Outcome.{Outcome}
use Rattle.hub_history.specs.declared.outcome.Outcome.TheVariants.{Done, Stale, DirFile}
use Rattle.hub_history.specs.Push.{by_directory, by_refs, is_done, refs_after}
use Rattle.push_settling.specs.Running.{FitsCommand, FitCommands}

pub fits_at : (cs : List Command) (js : List (Option Outcome)) (i : ℕ) (c : Command) (j : Option Outcome) → i < length cs → i < length js → FitCommands cs js → FitsCommand (get_or cs i c) (get_or js i j)
fits_at [] js i c j below within fit = absurd (omega (arith, below))
fits_at (x ∷ cs) [] i c j below within fit = absurd (omega (arith, within))
fits_at (x ∷ cs) (y ∷ js) zero c j below within fit = fit.0
fits_at (x ∷ cs) (y ∷ js) (suc i) c j below within fit = fits_at cs js i c j (omega (arith, below)) (omega (arith, within)) fit.1

value_test : (refs : Refs) (c : Command) → value refs c.name ≡ c.old → same_id (value refs c.name) c.old ≡ true
value_test refs c is = ap (λ v. same_id v c.old) is ∙ id_itself c.old

abbrev after_value : Refs → Command → Bool → Outcome
after_value refs c b = if not b then Stale (value refs c.name) else if same_id c.old zero_id then by_directory (first_at_odds refs c.name) else Done

moved_done : (refs : Refs) (c : Command) → TellsOfMove refs c.name c.old moving.Moved → Done ≡ by_refs refs c None
moved_done refs c told = sym (ap (after_value refs c) (value_test refs c told.0) ∙ by_zero (same_id c.old zero_id) refl)
  where
    by_zero : (b : Bool) → same_id c.old zero_id ≡ b → (if b then by_directory (first_at_odds refs c.name) else Done) ≡ Done
    by_zero true z = ap by_directory (first_is refs c.name None (told.1 (id_is c.old zero_id z)))
    by_zero false z = refl

moved_stale : (refs : Refs) (c : Command) (is : ObjectId) → TellsOfMove refs c.name c.old (moving.Stale is) → Stale is ≡ by_refs refs c None
moved_stale refs c is told = by_value (same_id (value refs c.name) c.old) refl
  where
    by_value : (b : Bool) → same_id (value refs c.name) c.old ≡ b → Stale is ≡ by_refs refs c None
    by_value true same = absurd (told.1 (told.0 ∙ id_is (value refs c.name) c.old same))
    by_value false other = ap (λ (v : ObjectId). Stale v) told.0 ∙ sym (ap (after_value refs c) other)

moved_beside : (refs : Refs) (c : Command) (r : Name) → TellsOfMove refs c.name c.old (moving.DirFile r) → DirFile r ≡ by_refs refs c None
moved_beside refs c r told =
    let zero : same_id c.old zero_id ≡ true = ap (λ i. same_id i zero_id) told.1 ∙ id_itself zero_id in
    sym (ap (after_value refs c) (value_test refs c told.0)
    ∙ ap (λ b. if b then by_directory (first_at_odds refs c.name) else Done) zero
    ∙ ap by_directory (first_is refs c.name (Some r) told.2))

-- what running a command comes to: its outcome, and the repository afterwards
abbrev pub Ran : Store → Command → Option Outcome → Outcome → Store → Type 0
Ran store c j outcome next = (outcome ≡ by_refs store.refs c j) × (next ≡ record { objects = store.objects; refs = refs_after store.refs c (by_refs store.refs c j) })

pub ran_refused : (store : Store) (c : Command) (outcome : Outcome) → is_done outcome ≡ false → store ≡ record { objects = store.objects; refs = refs_after store.refs c outcome }
ran_refused store c outcome refused = ap (λ b. record { objects = store.objects; refs = if b then moved store.refs c.name c.new else store.refs }) (sym refused)

pub ran_moved : (store next : Store) (c : Command) (name : Name) → name ≡ c.name → TellsOfMove store.refs name c.old moving.Moved → next ≡ moved_by store name c.new moving.Moved → Ran store c None Done next
ran_moved store next c name is told left =
    let done = moved_done store.refs c (subst (λ (n : Name). TellsOfMove store.refs n c.old moving.Moved) is told) in
    (done, left ∙ ap (λ (n : Name). moved_by store n c.new moving.Moved) is ∙ ap (λ (o : Outcome). record { objects = store.objects; refs = refs_after store.refs c o }) done)

pub ran_stale : (store next : Store) (c : Command) (name : Name) (v : ObjectId) → name ≡ c.name → TellsOfMove store.refs name c.old (moving.Stale v) → next ≡ store → Ran store c None (Stale v) next
ran_stale store next c name v is told left =
    let stale = moved_stale store.refs c v (subst (λ (n : Name). TellsOfMove store.refs n c.old (moving.Stale v)) is told) in
    (stale, left ∙ ap (λ (o : Outcome). record { objects = store.objects; refs = refs_after store.refs c o }) stale)

pub ran_beside : (store next : Store) (c : Command) (name r : Name) → name ≡ c.name → TellsOfMove store.refs name c.old (moving.DirFile r) → next ≡ store → Ran store c None (DirFile r) next
ran_beside store next c name r is told left =
    let beside = moved_beside store.refs c r (subst (λ (n : Name). TellsOfMove store.refs n c.old (moving.DirFile r)) is told) in
    (beside, left ∙ ap (λ (o : Outcome). record { objects = store.objects; refs = refs_after store.refs c o }) beside)
