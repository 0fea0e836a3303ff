-- What each repository has along a legal log: names for its refs, and not too many objects.
use Rattle.std.proofs.Common.{◌≡◌, ◌≤◌, ◌+◌, ℕ, suc, Bool, true, false, List, [], ◌∷◌, ◌++◌, length, map, drop, take, arith, refl, sym, ◌∙◌, ap, subst}
use Rattle.std.proofs.lemmas.Bool.Decides.{nat_tests}
use Rattle.std.proofs.lemmas.List.{take-append-drop}
use Rattle.std.specs.Prelude.{Option, Some, None, nat_lt, if◌then◌else◌}
use Rattle.std.specs.List.{list_any, slice_get}
use Rattle.std.specs.Option.{unwrap_or}
use Rattle.std.specs.Ordering.{nat_cmp, eq_by_cmp}
use Rattle.std.specs.Cmp.Lexicographic.{slice_cmp}
use Rattle.std.specs.FinMap.{empty, get-empty, insert, remove}
use Rattle.base_types.specs.Names.{ByName}
use Rattle.git_object.specs.Content.{Content}
use Rattle.git_object.specs.declared.object_id.ObjectId.{ObjectId}
use Rattle.ref_store.specs.Objects.{same_id, with_pack}
use Rattle.ref_store.specs.RefName.{is_ref_name}
use Rattle.ref_store.specs.Refs.{HasRefNames, Name, Refs, moved, zero_id}
use Rattle.ref_store.specs.declared.command.Command.{Command}
use Rattle.ref_store.proofs.RefLemmas.{no_ref_names, one_ref_less, one_ref_more}
use Rattle.rule_compile.specs.Patterns.{AreTrue, Patterns}
use Rattle.hub_history.specs.declared.outcome.Outcome.{Outcome}
use Rattle.hub_history.specs.declared.outcome.Outcome.TheVariants.{Collided, Done, Full}
use Rattle.hub_history.specs.declared.entry.Entry.{Entry}
use Rattle.hub_history.specs.declared.entry.EnterKept.{EnterKept}
use Rattle.hub_history.specs.declared.entry.EnterKept.TheVariants.{Granted, Created, Denied, NoRepo}
use Rattle.hub_history.specs.declared.entry.PermChange.{PermChange}
use Rattle.hub_history.specs.declared.entry.PermsKept.{PermsKept}
use Rattle.hub_history.specs.declared.entry.PermsKept.TheVariants.{Changed, AlreadySo, NotWild, NotCreator, NoSuchRole, Listed}
use Rattle.hub_history.specs.declared.entry.Event.{Event}
use Rattle.hub_history.specs.declared.entry.Event.TheVariants.{Entered, Pushed, Permitted, Looked}
use Rattle.hub_history.specs.Collision.{collision}
use Rattle.hub_history.specs.History.{History, IsDue, IsDueAfter, IsDuePush, IsLegal, after_push, made_empty, new_history, opening_at, push_change, replay, step}
use Rattle.hub_history.specs.Laws.{OfEachRepository}
use Rattle.hub_history.specs.Opening.{Pinned, made_by}
use Rattle.hub_history.specs.Push.{conf_put, in_order, is_done, outcomes_in, refs_after, refs_left, together, unless_collided, unless_full}
use Rattle.hub_history.specs.Roles.{given_by}
use Rattle.hub_history.specs.State.{InForce, Repository, State, changed, empty_repository, in_force, placed_in, put_in_place, repository_at, start}
use Rattle.hub_history.proofs.GrowthLemmas.{AreLacking, makes_lacking}
use Rattle.hub_history.proofs.HistoryLemmas.{beginning_legal, history-keeps}
use Rattle.hub_history.proofs.JudgeLemmas.{fits_untold, untold}
use Rattle.hub_history.proofs.MovedLogs.{found_in, insert_apart, insert_here, made_none, same_key}
use Rattle.hub_history.proofs.MovedRefs.{done_by_refs, done_is}
use Rattle.hub_history.proofs.OpeningLemmas.{pinned_at}
use Rattle.hub_history.proofs.PushLemmas.{none_alike}
use Rattle.history_laws.specs.StateLaws.{ObjectsAreFew, RefsAreNamed}

-- ---- a property of objects and refs

module _ (P : List Content → Refs → Type 0) where
  abbrev OfIt : Repository → Type 0
  OfIt repository = P repository.objects repository.refs

  -- of each repository, an empty one where there is none
  abbrev OfAll : ByName Repository → Type 0
  OfAll known = (q : Name) → OfIt (found_in known q)

  put_all : (known : ByName Repository) (k : Name) (r : Repository) → OfIt r → OfAll known → OfAll (insert known k r)
  put_all known k r here all q = by_name (eq_by_cmp (slice_cmp nat_cmp) q k) refl
    where
      by_name : (b : Bool) → eq_by_cmp (slice_cmp nat_cmp) q k ≡ b → OfIt (found_in (insert known k r) q)
      by_name true same = subst OfIt (sym (ap (found_in (insert known k r)) (same_key q k same) ∙ insert_here known k r)) here
      by_name false apart = subst OfIt (sym (insert_apart known k q r apart)) (all q)

  start_all : (admin : Name) → P [] empty → OfAll (start admin).repositories
  start_all admin new = put_all _ _ (empty_repository None) new (put_all empty _ (empty_repository None) new none)
    where
      none : OfAll empty
      none q = subst OfIt (sym (ap (λ (o : Option Repository). unwrap_or o (empty_repository None)) (get-empty {X = Repository} (slice_cmp nat_cmp) q))) new

  -- a push of which a command is done keeps it
  abbrev IsKept : Type 0
  IsKept =
      (ps : Patterns) (state : State) (pinned : Pinned) (pack : List Content) (cs : List Command) (atomic : Bool) (os : List Outcome) (made : List Name) → IsDuePush ps state pinned pack cs atomic os made
      → OfIt (repository_at state pinned.repo) → list_any is_done os ≡ true → P (with_pack (repository_at state pinned.repo).objects pack) (refs_left (repository_at state pinned.repo).refs cs os)

  push_all : (state : State) (pinned : Pinned) (pack : List Content) (cs : List Command) (os : List Outcome) (made : List Name) → AreLacking state made
      → (list_any is_done os ≡ true → P (with_pack (repository_at state pinned.repo).objects pack) (refs_left (repository_at state pinned.repo).refs cs os))
      → OfAll state.repositories → OfAll (changed state (push_change state pinned pack cs os made)).repositories
  unfolding push_change
  push_all state pinned pack cs os made lacking next all = by_done (list_any is_done os) refl
    where
      left : Repository
      left = record (repository_at state pinned.repo) { objects = with_pack (repository_at state pinned.repo).objects pack; refs = refs_left (repository_at state pinned.repo).refs cs os }

      made_all : OfAll (placed_in state.repositories (made_empty made))
      made_all q = subst OfIt (sym (made_none state made lacking q)) (all q)

      by_done : (b : Bool) → list_any is_done os ≡ b → OfAll (placed_in state.repositories (put_in_place pinned.repo (if b then Some left else None) ++ made_empty made))
      by_done true done = put_all (placed_in state.repositories (made_empty made)) pinned.repo left (next done) made_all
      by_done false none = made_all

  module _ (new : P [] empty) (keeps : IsKept) (ps : Patterns) where
    opening_all : (state : State) (user repo : Name) (answer : EnterKept) → OfAll state.repositories → OfAll (changed state (made_by user repo answer)).repositories
    opening_all state user repo Granted all = all
    opening_all state user repo Created all = put_all state.repositories repo (empty_repository (Some user)) new all
    opening_all state user repo (Denied verdict) all = all
    opening_all state user repo NoRepo all = all

    given_all : (state : State) (repo : Name) (asked : PermChange) (answer : PermsKept) → OfAll state.repositories → OfAll (changed state (given_by state repo asked answer)).repositories
    given_all state repo asked Changed all = put_all state.repositories repo _ (all repo) all
    given_all state repo asked AlreadySo all = all
    given_all state repo asked NotWild all = all
    given_all state repo asked NotCreator all = all
    given_all state repo asked NoSuchRole all = all
    given_all state repo asked Listed all = all

    step_all : (h : History) (event : Event) → IsDue ps h event → OfAll h.state.repositories → OfAll (step h event).repositories
    step_all h (Entered user repo want answer) due all = opening_all h.state user repo answer all
    step_all h (Pushed place pack cs atomic os made) due all = by_opening (opening_at h place) due
      where
        by_opening : (o : Option Pinned) → IsDueAfter ps h.state o pack cs atomic os made → OfAll (after_push h.state o pack cs os made).repositories
        by_opening None due = absurd due
        by_opening (Some pinned) due =
            push_all h.state pinned pack cs os made (makes_lacking ps h.state (conf_put pinned pack cs os) made due.makes) (keeps ps h.state pinned pack cs atomic os made due (all pinned.repo)) all
    step_all h (Permitted user repo asked answer) due all = given_all h.state repo asked answer all
    step_all h (Looked user) due all = all

    replay_all : AreTrue ps → (admin : Name) (log : List Entry) → IsLegal admin log → (q : Name) → OfIt (repository_at (replay admin log) q)
    replay_all ok admin log legal = history-keeps ps (λ (h : History). OfAll h.state.repositories) step_all (new_history admin) log (legal ps ok) (start_all admin new)

    of_each : AreTrue ps → OfEachRepository OfIt
    of_each ok admin log legal = (
      λ name repository is. subst OfIt (ap (λ (o : Option Repository). unwrap_or o (empty_repository None)) is) (replay_all ok admin log legal name),
      λ opening stands.
          let at = pinned_at admin log opening.place opening.pinned stands in
          subst (λ (p : Pinned). OfIt p.repository) (sym at.pinned_is) (replay_all ok admin (take (opening.place + 1) log) (beginning (opening.place + 1)) opening.pinned.repo),
    )
      where
        beginning : (n : ℕ) → IsLegal admin (take n log)
        beginning n = beginning_legal admin (take n log) (drop n log) (subst (IsLegal admin) (sym (take-append-drop n log)) legal)

-- ---- names of refs

named_after : (refs : Refs) (c : Command) (b : Bool) → (b ≡ true → is_ref_name c.name ≡ true) → HasRefNames refs → HasRefNames (if b then moved refs c.name c.new else refs)
named_after refs c false good named = named
named_after refs c true good named = by_zero (same_id c.new zero_id)
  where
    by_zero : (b : Bool) → HasRefNames (if b then remove refs c.name else insert refs c.name c.new)
    by_zero true = one_ref_less refs c.name named
    by_zero false = one_ref_more refs c.name c.new (good refl) named

-- commands that are done have good names
abbrev DoneAreNamed : List Command → List Outcome → Type 0
DoneAreNamed cs os = (k : ℕ) (c : Command) → slice_get cs k ≡ Some c → slice_get os k ≡ Some Done → is_ref_name c.name ≡ true

named_left : (refs : Refs) (cs : List Command) (os : List Outcome) → DoneAreNamed cs os → HasRefNames refs → HasRefNames (refs_left refs cs os)
named_left refs [] os good named = named
named_left refs (c ∷ cs) [] good named = named
named_left refs (c ∷ cs) (o ∷ os) good named =
    named_left (refs_after refs c o) cs os (λ k d is done. good (suc k) d is done)
    (named_after refs c (is_done o) (λ done. good 0 c refl (ap (λ (x : Outcome). Some x) (done_is o done))) named)

keeps_named : IsKept (λ (objects : List Content) (refs : Refs). HasRefNames refs)
keeps_named ps state pinned pack cs atomic os made due named done =
    let force : InForce = in_force state pinned.repo in
    named_left (repository_at state pinned.repo).refs cs os
    (λ k c is done.
    let told : slice_get (outcomes_in (repository_at state pinned.repo) pack cs atomic due.judged) k ≡ Some Done = ap (λ (l : List Outcome). slice_get l k) (sym due.told) ∙ done in
    let by = done_by_refs ps force (repository_at state pinned.repo) pinned pack cs atomic due.judged due.judges k c is told in
    (fits_untold ps force pinned pack cs c (untold ps force pinned pack cs c by.untold).command).good) named

-- ---- how many objects

few_told : (now : Repository) (pack : List Content) (cs : List Command) (atomic : Bool) (js : List (Option Outcome)) → list_any is_done (outcomes_in now pack cs atomic js) ≡ true → length (with_pack now.objects pack) ≤ 4294967295
few_told now pack cs atomic js = by_collision (collision now.objects pack)
  where
    count : ℕ
    count = length (with_pack now.objects pack)

    within : nat_lt 4294967295 count ≡ false → count ≤ 4294967295
    within is = grind (arith, nat_tests)

    by_full : (b : Bool) → nat_lt 4294967295 count ≡ b → list_any is_done (if b then map (λ c. Full count) cs else together atomic (in_order now.refs cs js)) ≡ true → count ≤ 4294967295
    by_full true full done = absurd (let bad : true ≡ false = sym done ∙ none_alike (Full count) refl cs in cc)
    by_full false fits done = within fits

    by_collision : (x : Option ObjectId) → list_any is_done (unless_collided x cs (unless_full count cs (together atomic (in_order now.refs cs js)))) ≡ true → count ≤ 4294967295
    by_collision (Some id) done = absurd (let bad : true ≡ false = sym done ∙ none_alike (Collided id) refl cs in cc)
    by_collision None done = by_full (nat_lt 4294967295 count) refl done

keeps_few : IsKept (λ (objects : List Content) (refs : Refs). length objects ≤ 4294967295)
keeps_few ps state pinned pack cs atomic os made due few done = few_told (repository_at state pinned.repo) pack cs atomic due.judged (subst (λ (l : List Outcome). list_any is_done l ≡ true) due.told done)

-- ---- laws

module _ (ps : Patterns) (ok : AreTrue ps) where
  pub refs_are_named : RefsAreNamed
  refs_are_named = of_each (λ (objects : List Content) (refs : Refs). HasRefNames refs) no_ref_names keeps_named ps ok

  pub objects_are_few : ObjectsAreFew
  objects_are_few = of_each (λ (objects : List Content) (refs : Refs). length objects ≤ 4294967295) (omega arith) keeps_few ps ok
