-- What an event changes.
use Rattle.std.proofs.Common.{◌≡◌, inl, inr, suc, Bool, true, false, cond, ◌||◌, List, [], ◌∷◌, ◌++◌, Contains, refl, sym, ◌∙◌, ap, subst}
use Rattle.std.specs.Prelude.{Option, Some, None, if◌then◌else◌}
use Rattle.std.specs.List.{list_any}
use Rattle.std.specs.Ordering.{nat_cmp, eq_by_cmp}
use Rattle.std.specs.Cmp.Lexicographic.{slice_cmp, nat_list_cmp_total}
use Rattle.std.specs.FinMap.{get, insert, get-insert}
use Rattle.base_types.specs.Names.{ByName}
use Rattle.git_object.specs.Content.{Content}
use Rattle.ref_store.specs.Objects.{with_pack}
use Rattle.ref_store.specs.Refs.{Name}
use Rattle.ref_store.specs.declared.command.Command.{Command}
use Rattle.rule_compile.specs.Patterns.{AreTrue, Patterns}
use Rattle.hub_history.specs.declared.outcome.Outcome.{Outcome}
use Rattle.hub_history.specs.declared.entry.EnterKept.{EnterKept}
use Rattle.hub_history.specs.declared.entry.EnterKept.TheVariants.{Granted, Created, Denied, NoRepo}
use Rattle.hub_history.specs.declared.entry.PermChange.{PermChange}
use Rattle.hub_history.specs.declared.entry.PermsKept.{PermsKept}
use Rattle.hub_history.specs.declared.entry.PermsKept.TheVariants.{Changed, AlreadySo, NotWild, NotCreator, NoSuchRole, Listed}
use Rattle.hub_history.specs.declared.entry.Event.{Event}
use Rattle.hub_history.specs.declared.entry.Event.TheVariants.{Entered, Pushed, Permitted, Looked}
use Rattle.hub_history.specs.History.{History, IsDue, IsDueAfter, after_push, history, made_empty, opening_at, push_change, replay, step}
use Rattle.hub_history.specs.Opening.{Pinned, made_by}
use Rattle.hub_history.specs.Push.{Makes, conf_put, is_done, refs_left}
use Rattle.hub_history.specs.Roles.{given_by, roles_after}
use Rattle.hub_history.specs.State.{CommitAmong, Repository, State, changed, empty_repository, placed_in, put_in_place, repository_at}
use Rattle.hub_history.proofs.MovedLogs.{behind, due_last, found_in, insert_here, none_put, same_key, step_here}
use Rattle.hub_history.proofs.MovedRefs.{done_among, done_is}
use Rattle.hub_history.proofs.RoleSets.{contains_first, contains_later}
use Rattle.history_laws.specs.StateLaws.{DoneBringsItsPack, HasDone, HasGrown, IsOf, IsPinned, MayChange, OnlyTheseChange, OthersStay, RolesChangeAlone}

-- ---- outcomes

has_done : (os : List Outcome) → list_any is_done os ≡ true → HasDone os
has_done [] some = absurd cc
has_done (o ∷ os) some = by_done (is_done o) refl some (has_done os)
  where
    by_done : (b : Bool) → is_done o ≡ b → (b || list_any is_done os) ≡ true → (list_any is_done os ≡ true → HasDone os) → HasDone (o ∷ os)
    by_done true done some rest = (0, ap (λ (x : Outcome). Some x) (done_is o done))
    by_done false left some rest = let later = rest some in (suc later.0, later.1)

none_done : (os : List Outcome) → ¬ HasDone os → list_any is_done os ≡ false
none_done os never = by_any (list_any is_done os) refl
  where
    by_any : (b : Bool) → list_any is_done os ≡ b → b ≡ false
    by_any true some = absurd (never (has_done os some))
    by_any false none = refl

-- ---- events that change nothing

opening_stays : (state : State) (user repo : Name) (answer : EnterKept) → ¬ (answer ≡ Created) → changed state (made_by user repo answer) ≡ state
opening_stays state user repo Granted never = refl
opening_stays state user repo Created never = absurd (never refl)
opening_stays state user repo (Denied verdict) never = refl
opening_stays state user repo NoRepo never = refl

given_stays : (state : State) (repo : Name) (asked : PermChange) (answer : PermsKept) → ¬ (answer ≡ Changed) → changed state (given_by state repo asked answer) ≡ state
given_stays state repo asked Changed never = absurd (never refl)
given_stays state repo asked AlreadySo never = refl
given_stays state repo asked NotWild never = refl
given_stays state repo asked NotCreator never = refl
given_stays state repo asked NoSuchRole never = refl
given_stays state repo asked Listed never = refl

-- a push of which no command is done, puts no conf in force and makes no repository
undone_stays : (state : State) (pinned : Pinned) (pack : List Content) (cs : List Command) (os : List Outcome) (made : List Name)
    → list_any is_done os ≡ false → conf_put pinned pack cs os ≡ None → made ≡ [] → changed state (push_change state pinned pack cs os made) ≡ state
unfolding push_change
undone_stays state pinned pack cs os made none put none_made =
    ap (λ (b : Bool). changed state (record { repositories = put_in_place pinned.repo (if b then Some next else None) ++ made_empty made; conf = conf_put pinned pack cs os })) none
    ∙ ap (λ (c : Option CommitAmong). changed state (record { repositories = made_empty made; conf = c })) put
    ∙ ap (λ (m : List Name). changed state (record { repositories = made_empty m; conf = None })) none_made
  where
    next : Repository
    next = record (repository_at state pinned.repo) { objects = with_pack (repository_at state pinned.repo).objects pack; refs = refs_left (repository_at state pinned.repo).refs cs os }

step_stays : (ps : Patterns) (h : History) (event : Event) → IsDue ps h event → ¬ MayChange event → step h event ≡ h.state
step_stays ps h (Entered user repo want answer) due never = opening_stays h.state user repo answer never
step_stays ps h (Pushed place pack cs atomic os made) due never = by_opening (opening_at h place) due
  where
    by_opening : (o : Option Pinned) → IsDueAfter ps h.state o pack cs atomic os made → after_push h.state o pack cs os made ≡ h.state
    by_opening None due = absurd due
    by_opening (Some pinned) due =
        let none = none_done os never in
        let put : conf_put pinned pack cs os ≡ None = none_put pinned pack cs os none in
        undone_stays h.state pinned pack cs os made none put (subst (λ (c : Option CommitAmong). Makes ps h.state c made) put due.makes)
step_stays ps h (Permitted user repo asked answer) due never = given_stays h.state repo asked answer never
step_stays ps h (Looked user) due never = refl

-- ---- repositories that an event isn't of

pub put_apart : (known : ByName Repository) (k : Name) (r : Repository) (q : Name) → ¬ (q ≡ k) → get (insert known k r) q ≡ get known q
put_apart known k r q apart = get-insert nat_list_cmp_total known k r q ∙ by_name (eq_by_cmp (slice_cmp nat_cmp) q k) refl
  where
    by_name : (b : Bool) → eq_by_cmp (slice_cmp nat_cmp) q k ≡ b → cond b (Some r) (get known q) ≡ get known q
    by_name true same = absurd (apart (same_key q k same))
    by_name false other = refl

pub made_apart : (known : ByName Repository) (made : List Name) (q : Name) → ¬ Contains made q → get (placed_in known (made_empty made)) q ≡ get known q
made_apart known [] q apart = refl
made_apart known (n ∷ ns) q apart =
    put_apart (placed_in known (made_empty ns)) n (empty_repository None) q (λ same. apart (subst (λ (m : Name). Contains (n ∷ ns) m) (sym same) (contains_first n ns)))
    ∙ made_apart known ns q (λ has. apart (contains_later n q ns has))

pushed_apart : (state : State) (pinned : Pinned) (pack : List Content) (cs : List Command) (os : List Outcome) (made : List Name) (q : Name)
    → ¬ (q ≡ pinned.repo) → ¬ Contains made q → get (changed state (push_change state pinned pack cs os made)).repositories q ≡ get state.repositories q
unfolding push_change
pushed_apart state pinned pack cs os made q apart unmade = by_done (list_any is_done os)
  where
    next : Repository
    next = record (repository_at state pinned.repo) { objects = with_pack (repository_at state pinned.repo).objects pack; refs = refs_left (repository_at state pinned.repo).refs cs os }

    by_done : (b : Bool) → get (placed_in state.repositories (put_in_place pinned.repo (if b then Some next else None) ++ made_empty made)) q ≡ get state.repositories q
    by_done true = put_apart (placed_in state.repositories (made_empty made)) pinned.repo next q apart ∙ made_apart state.repositories made q unmade
    by_done false = made_apart state.repositories made q unmade

opening_apart : (state : State) (user repo : Name) (answer : EnterKept) (q : Name) → ¬ (q ≡ repo) → get (changed state (made_by user repo answer)).repositories q ≡ get state.repositories q
opening_apart state user repo Granted q apart = refl
opening_apart state user repo Created q apart = put_apart state.repositories repo (empty_repository (Some user)) q apart
opening_apart state user repo (Denied verdict) q apart = refl
opening_apart state user repo NoRepo q apart = refl

given_apart : (state : State) (repo : Name) (asked : PermChange) (answer : PermsKept) (q : Name) → ¬ (q ≡ repo) → get (changed state (given_by state repo asked answer)).repositories q ≡ get state.repositories q
given_apart state repo asked Changed q apart = put_apart state.repositories repo _ q apart
given_apart state repo asked AlreadySo q apart = refl
given_apart state repo asked NotWild q apart = refl
given_apart state repo asked NotCreator q apart = refl
given_apart state repo asked NoSuchRole q apart = refl
given_apart state repo asked Listed q apart = refl

pub step_apart : (h : History) (event : Event) (q : Name) → ¬ IsOf h event q → get (step h event).repositories q ≡ get h.state.repositories q
step_apart h (Entered user repo want answer) q apart = opening_apart h.state user repo answer q apart
step_apart h (Pushed place pack cs atomic os made) q apart = by_opening (opening_at h place) (λ is. apart (inl is)) (λ has. apart (inr has))
  where
    by_opening : (o : Option Pinned) → ¬ IsPinned o q → ¬ Contains made q → get (after_push h.state o pack cs os made).repositories q ≡ get h.state.repositories q
    by_opening None other unmade = refl
    by_opening (Some pinned) other unmade = pushed_apart h.state pinned pack cs os made q other unmade
step_apart h (Permitted user repo asked answer) q apart = given_apart h.state repo asked answer q apart
step_apart h (Looked user) q apart = refl

-- ---- the repository of a push

done_grows : (state : State) (pinned : Pinned) (pack : List Content) (cs : List Command) (os : List Outcome) (made : List Name) → list_any is_done os ≡ true
    → HasGrown pack (repository_at state pinned.repo) (repository_at (changed state (push_change state pinned pack cs os made)) pinned.repo)
unfolding push_change
done_grows state pinned pack cs os made some =
    let is : found_in (placed_in state.repositories (put_in_place pinned.repo (if list_any is_done os then Some next else None) ++ made_empty made)) pinned.repo ≡ next =
    ap (λ (b : Bool). found_in (placed_in state.repositories (put_in_place pinned.repo (if b then Some next else None) ++ made_empty made)) pinned.repo) some
    ∙ insert_here (placed_in state.repositories (made_empty made)) pinned.repo next in
    record {
      objects = ap (λ (r : Repository). r.objects) is;
      creator = ap (λ (r : Repository). r.creator) is;
      roles = ap (λ (r : Repository). r.roles) is;
    }
  where
    next : Repository
    next = record (repository_at state pinned.repo) { objects = with_pack (repository_at state pinned.repo).objects pack; refs = refs_left (repository_at state pinned.repo).refs cs os }

-- ---- laws

module _ (ps : Patterns) (ok : AreTrue ps) where
  pub only_these_change : OnlyTheseChange
  only_these_change = λ admin before entry legal never. behind admin before entry ∙ step_stays ps (history admin before) entry.event (due_last admin before entry legal ps ok) never

  pub others_stay : OthersStay
  others_stay = λ admin before entry name legal apart. ap (λ (s : State). get s.repositories name) (behind admin before entry) ∙ step_apart (history admin before) entry.event name apart

  pub done_brings_its_pack : DoneBringsItsPack
  done_brings_its_pack = λ admin before entry pinned command legal t.
      subst (λ (s : State). HasGrown t.pack (repository_at (replay admin before) pinned.repo) (repository_at s pinned.repo))
      (sym (step_here ps ok admin before entry legal t.place t.pack t.commands t.atomic t.outcomes t.made pinned t.is_push t.opening))
      (done_grows (replay admin before) pinned t.pack t.commands t.outcomes t.made (done_among t.outcomes t.index t.outcome_is))

-- a change of roles
pub roles_change_alone : RolesChangeAlone
roles_change_alone = λ admin before entry user repo asked legal is.
    let was : Repository = repository_at (replay admin before) repo in
    let next : repository_at (replay admin (before ++ entry ∷ [])) repo ≡ record was { roles = roles_after was.roles asked } =
    ap (λ (s : State). repository_at s repo) (behind admin before entry ∙ ap (step (history admin before)) is) ∙ insert_here (replay admin before).repositories repo (record was { roles = roles_after was.roles asked }) in
    subst (λ (r : Repository). r ≡ record was { roles = r.roles }) (sym next) refl
