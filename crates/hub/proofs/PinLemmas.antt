-- Pins of openings.
use Rattle.std.proofs.Common.{◌≡◌, ℕ, [], refl, sym, ◌∙◌, ap, subst, length, cond}
use Rattle.std.specs.Prelude.{Option, Some, None}
use Rattle.std.specs.Option.{unwrap_or}
use Rattle.std.specs.Cmp.{eq_by_cmp_equiv}
use Rattle.std.specs.Cmp.Lexicographic.{nat_list_cmp_total}
use Rattle.std.specs.FinMap.{empty, get, get-insert}
use Rattle.ref_store.specs.Refs.{Name}
use Rattle.access_check.specs.declared.verdicts.Want.{Want}
use Rattle.wild_perms.specs.Roles.{WildView}
use Rattle.hub_history.specs.declared.entry.EnterKept.{EnterKept}
use Rattle.hub_history.specs.declared.entry.EnterKept.TheVariants.{Granted, Created}
use Rattle.hub_history.specs.declared.entry.Event.TheVariants.{Entered}
use Rattle.hub_history.specs.History.{history, step}
use Rattle.hub_history.specs.Opening.{Opening, pins}
use Rattle.hub_history.specs.State.{Repository, State, changed, empty_repository, put_in_place, repository_at}
use Rattle.hub_history.proofs.HistoryLemmas.{stands_new}
use Rattle.hub.specs.Hub.{HubView, logged, state_of}
use Rattle.hub.specs.Answer.{IsPinOf}

repository_at-changed : (state : State) (name : Name) (repository : Repository) → repository_at (changed state (record { repositories = put_in_place name (Some repository); conf = None })) name ≡ repository
repository_at-changed state name repository =
    ap (λ (o : Option Repository). unwrap_or o (empty_repository None)) (get-insert nat_list_cmp_total state.repositories name repository name)
    ∙ ap (λ b. unwrap_or (cond b (Some repository) (get state.repositories name)) (empty_repository None)) ((eq_by_cmp_equiv nat_list_cmp_total).refl name)

abbrev pub pin_at : HubView → Name → Name → Want → Repository → Opening
pin_at old user repo want repository = record { place = length old.log; pinned = record { user = user; repo = repo; want = want; conf = (state_of old).conf; repository = repository } }

pinned_as : (old : HubView) (caller : ℕ) (user repo : Name) (want : Want) (answer : EnterKept) (repository : Repository)
    → pins (step (history old.admin old.log) (Entered user repo want answer)) user repo want answer ≡ Some (pin_at old user repo want repository).pinned
    → (new : HubView) → new ≡ logged old caller (Entered user repo want answer) → (pin : Opening) → pin ≡ pin_at old user repo want repository → IsPinOf old new user repo want pin
pinned_as old caller user repo want answer repository is new grows pin made =
    subst (λ (n : HubView). IsPinOf old n user repo want pin) (sym grows) (subst (λ (p : Opening). IsPinOf old (logged old caller (Entered user repo want answer)) user repo want p) (sym made)
    (record {
      place = refl;
      user_is = refl;
      repo_is = refl;
      want_is = refl;
      stands = stands_new old.admin old.log (record { caller = caller; event = Entered user repo want answer }) (pin_at old user repo want repository).pinned is;
    }))

pub pinned_granted : (old : HubView) (caller : ℕ) (user repo : Name) (want : Want) (repository : Repository) → repository ≡ repository_at (state_of old) repo
    → (new : HubView) → new ≡ logged old caller (Entered user repo want Granted) → (pin : Opening) → pin ≡ pin_at old user repo want repository → IsPinOf old new user repo want pin
pinned_granted old caller user repo want repository is = pinned_as old caller user repo want Granted repository (ap (λ r. Some (pin_at old user repo want r).pinned) (sym is))

pub pinned_created : (old : HubView) (caller : ℕ) (user repo : Name) (want : Want) (repository : Repository) → repository ≡ empty_repository (Some user)
    → (new : HubView) → new ≡ logged old caller (Entered user repo want Created) → (pin : Opening) → pin ≡ pin_at old user repo want repository → IsPinOf old new user repo want pin
pinned_created old caller user repo want repository is =
    pinned_as old caller user repo want Created repository (ap (λ r. Some (pin_at old user repo want r).pinned) (repository_at-changed (state_of old) repo (empty_repository (Some user)) ∙ sym is))

-- a new repository of a user
pub born_is : (user creator : Name) → creator ≡ user → (wild : WildView) → wild ≡ record { creator = Some creator; roles = [] }
    → (made : Repository) → made ≡ record { objects = []; refs = empty; creator = wild.creator; roles = wild.roles } → made ≡ empty_repository (Some user)
born_is user creator is wild born made empties =
    empties ∙ ap (λ (w : WildView). record { objects = []; refs = empty; creator = w.creator; roles = w.roles }) born ∙ ap (λ (n : Name). empty_repository (Some n)) is
