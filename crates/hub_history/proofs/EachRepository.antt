-- A property of each repository.
use Rattle.std.proofs.Common.{◌≡◌, List, [], ◌∷◌, ◌++◌, ℕ, ◌+◌, refl, sym, ◌∙◌, subst, Bool, true, false, cond, take, drop}
use Rattle.std.proofs.lemmas.List.{take-append-drop}
use Rattle.std.specs.Prelude.{Option, Some, None, if◌then◌else◌}
use Rattle.std.specs.List.{AllByRecursion, list_any}
use Rattle.std.specs.Option.{unwrap_or}
use Rattle.std.specs.Ordering.{nat_cmp, eq_by_cmp}
use Rattle.std.specs.Cmp.Lexicographic.{slice_cmp, nat_list_cmp_total}
use Rattle.std.specs.FinMap.{get, insert, empty, get-insert, get-empty}
use Rattle.base_types.specs.Names.{ByName}
use Rattle.git_object.specs.Content.{Content}
use Rattle.git_object.specs.Object.{FitOnePack}
use Rattle.ref_store.specs.Objects.{with_pack}
use Rattle.ref_store.specs.Refs.{Name}
use Rattle.ref_store.specs.declared.command.Command.{Command}
use Rattle.rule_compile.specs.Patterns.{AreTrue, Patterns}
use Rattle.hub_history.specs.declared.outcome.Outcome.{Outcome}
use Rattle.hub_history.specs.declared.entry.Entry.{Entry}
use Rattle.hub_history.specs.declared.entry.EnterKept.{EnterKept}
use Rattle.hub_history.specs.declared.entry.EnterKept.TheVariants.{Granted, Created, Denied, NoRepo}
use Rattle.hub_history.specs.declared.entry.PermChange.{PermChange}
use Rattle.hub_history.specs.declared.entry.PermsKept.{PermsKept}
use Rattle.hub_history.specs.declared.entry.PermsKept.TheVariants.{Changed, AlreadySo, NotWild, NotCreator, NoSuchRole, Listed}
use Rattle.hub_history.specs.declared.entry.Event.{Event}
use Rattle.hub_history.specs.declared.entry.Event.TheVariants.{Entered, Pushed, Permitted, Looked}
use Rattle.hub_history.specs.History.{History, IsDue, IsDueAfter, IsLegal, Stands, after, after_push, made_empty, new_history, opening_at, push_change, replay}
use Rattle.hub_history.specs.Opening.{Opening, Pinned, made_by}
use Rattle.hub_history.specs.Push.{AreWithinLimits, JudgesAllAtPush, is_done, outcomes_in, refs_left}
use Rattle.hub_history.specs.Roles.{given_by, roles_after}
use Rattle.hub_history.specs.State.{InForce, Repository, State, changed, empty_repository, in_force, placed_in, put_in_place, repository_at, start}
use Rattle.hub_history.proofs.HistoryLemmas.{beginning_legal, history-keeps, some_same}
use Rattle.hub_history.proofs.OpeningLemmas.{pinned_at}

module _ (P : Repository → Type 0) where
  abbrev pub Each : ByName Repository → Type 0
  Each known = (name : Name) (repository : Repository) → get known name ≡ Some repository → P repository

  -- of those that are put in place
  abbrev pub Holds : Name × Repository → Type 0
  Holds placed = P placed.1

  each-insert : (known : ByName Repository) (name : Name) (repository : Repository) → P repository → Each known → Each (insert known name repository)
  each-insert known name repository here each q found is =
      by_name (eq_by_cmp (slice_cmp nat_cmp) q name) (sym (get-insert nat_list_cmp_total known name repository q) ∙ is)
    where
      by_name : (b : Bool) → cond b (Some repository) (get known q) ≡ Some found → P found
      by_name true same = subst P (some_same same) here
      by_name false same = each q found same

  each-placed : (known : ByName Repository) (list : List (Name × Repository)) → AllByRecursion Holds list → Each known → Each (placed_in known list)
  each-placed known [] all each = each
  each-placed known (n ∷ ns) all each = each-insert (placed_in known ns) n.0 n.1 all.0 (each-placed known ns all.1 each)

  each-empty : Each empty
  each-empty q found is = let none = sym (get-empty {X = Repository} (slice_cmp nat_cmp) q) ∙ is in cc

  pub each-start : (admin : Name) → P (empty_repository None) → Each (start admin).repositories
  each-start admin new = each-insert _ _ (empty_repository None) new (each-insert empty _ (empty_repository None) new each-empty)

  pub each_at : (state : State) (name : Name) → P (empty_repository None) → Each state.repositories → P (repository_at state name)
  each_at state name new each = by_get (get state.repositories name) refl
    where
      by_get : (o : Option Repository) → get state.repositories name ≡ o → P (unwrap_or o (empty_repository None))
      by_get None is = new
      by_get (Some repository) is = each name repository is

  pub each-opening : (state : State) (user repo : Name) (answer : EnterKept) → P (empty_repository (Some user)) → Each state.repositories → Each (changed state (made_by user repo answer)).repositories
  each-opening state user repo Granted new each = each
  each-opening state user repo Created new each = each-insert state.repositories repo (empty_repository (Some user)) new each
  each-opening state user repo (Denied verdict) new each = each
  each-opening state user repo NoRepo new each = each

  -- a change of roles keeps it
  abbrev pub IsKeptByRoles : Type 0
  IsKeptByRoles = (repository : Repository) (asked : PermChange) → P repository → P (record repository { roles = roles_after repository.roles asked })

  pub each-given : IsKeptByRoles → (state : State) (repo : Name) (asked : PermChange) (answer : PermsKept) → P (empty_repository None) → Each state.repositories → Each (changed state (given_by state repo asked answer)).repositories
  each-given free state repo asked Changed new each =
      each-insert state.repositories repo _ (free (repository_at state repo) asked (each_at state repo new each)) each
  each-given free state repo asked AlreadySo new each = each
  each-given free state repo asked NotWild new each = each
  each-given free state repo asked NotCreator new each = each
  each-given free state repo asked NoSuchRole new each = each
  each-given free state repo asked Listed new each = each

  all-made : P (empty_repository None) → (names : List Name) → AllByRecursion Holds (made_empty names)
  all-made new [] = tt
  all-made new (name ∷ names) = (new, all-made new names)

  pub each-push : (state : State) (pinned : Pinned) (pack : List Content) (commands : List Command) (outcomes : List Outcome) (made : List Name) → P (empty_repository None)
      → (list_any is_done outcomes ≡ true → P (record (repository_at state pinned.repo) { objects = with_pack (repository_at state pinned.repo).objects pack; refs = refs_left (repository_at state pinned.repo).refs commands outcomes }))
      → Each state.repositories → Each (changed state (push_change state pinned pack commands outcomes made)).repositories
  unfolding push_change
  each-push state pinned pack commands outcomes made new next each = by_done (list_any is_done outcomes) refl
    where
      by_done : (b : Bool) → list_any is_done outcomes ≡ b
          → Each (placed_in state.repositories (put_in_place pinned.repo (if b then Some (record (repository_at state pinned.repo) { objects = with_pack (repository_at state pinned.repo).objects pack; refs = refs_left (repository_at state pinned.repo).refs commands outcomes }) else None) ++ made_empty made))
      by_done true done = each-insert _ pinned.repo _ (next done) (each-placed state.repositories (made_empty made) (all-made new made) each)
      by_done false none = each-placed state.repositories (made_empty made) (all-made new made) each

  -- a push that does a command keeps it
  abbrev pub IsKept : Type 0
  IsKept =
      (ps : Patterns) (force : InForce) (now : Repository) (pinned : Pinned) (pack : List Content) (commands : List Command) (atomic : Bool) (judged : List (Option Outcome))
      → AreWithinLimits commands → FitOnePack pack → JudgesAllAtPush ps force pinned pack commands judged → P now → list_any is_done (outcomes_in now pack commands atomic judged) ≡ true
      → P (record now { objects = with_pack now.objects pack; refs = refs_left now.refs commands (outcomes_in now pack commands atomic judged) })

  each-after : ((creator : Option Name) → P (empty_repository creator)) → IsKeptByRoles → IsKept → (ps : Patterns) (h : History) (event : Event) → IsDue ps h event → Each h.state.repositories → Each (after h event).state.repositories
  each-after new free keeps ps h (Entered user repo want answer) due each = each-opening h.state user repo answer (new (Some user)) each
  each-after new free keeps ps h (Pushed place pack commands atomic outcomes made) due each = by_opening (opening_at h place) due
    where
      by_opening : (o : Option Pinned) → IsDueAfter ps h.state o pack commands atomic outcomes made → Each (after_push h.state o pack commands outcomes made).repositories
      by_opening None due = absurd due
      by_opening (Some pinned) due =
          each-push h.state pinned pack commands outcomes made (new None)
          (λ done. subst (λ (os : List Outcome). P (record (repository_at h.state pinned.repo) { objects = with_pack (repository_at h.state pinned.repo).objects pack; refs = refs_left (repository_at h.state pinned.repo).refs commands os })) (sym due.told)
          (keeps ps (in_force h.state pinned.repo) (repository_at h.state pinned.repo) pinned pack commands atomic due.judged due.within due.fit due.judges (each_at h.state pinned.repo (new None) each)
          (subst (λ (os : List Outcome). list_any is_done os ≡ true) due.told done))) each
  each-after new free keeps ps h (Permitted user repo asked answer) due each = each-given free h.state repo asked answer (new None) each
  each-after new free keeps ps h (Looked user) due each = each

  -- what an empty repository has and each push keeps, each repository has that a legal log leads to
  pub each_replayed : (ps : Patterns) → AreTrue ps → ((creator : Option Name) → P (empty_repository creator)) → IsKeptByRoles → IsKept → (admin : Name) (log : List Entry) → IsLegal admin log → Each (replay admin log).repositories
  each_replayed ps ok new free keeps admin log legal =
      history-keeps ps (λ (h : History). Each h.state.repositories) (each-after new free keeps ps) (new_history admin) log (legal ps ok) (each-start admin (new None))

  -- what each repository has that a legal log leads to, what an opening pinned has
  pub each_pinned : ((admin : Name) (log : List Entry) → IsLegal admin log → Each (replay admin log).repositories) → P (empty_repository None)
      → (admin : Name) (log : List Entry) → IsLegal admin log → (opening : Opening) → Stands opening admin log → P opening.pinned.repository
  each_pinned each new admin log legal opening stands =
      let at = pinned_at admin log opening.place opening.pinned stands in
      subst (λ (p : Pinned). P p.repository) (sym at.pinned_is)
      (each_at (replay admin (take (opening.place + 1) log)) opening.pinned.repo new (each admin (take (opening.place + 1) log) (beginning (opening.place + 1))))
    where
      beginning : (n : ℕ) → IsLegal admin (take n log)
      beginning n = beginning_legal admin (take n log) (drop n log) (subst (IsLegal admin) (sym (take-append-drop n log)) legal)
