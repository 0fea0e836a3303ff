-- Which repositories there are along a legal log.
use Rattle.std.proofs.Common.{◌≡◌, ◌⊎◌, inl, inr, ◌<◌, ℕ, zero, suc, Bool, true, false, cond, List, [], ◌∷◌, ◌++◌, Contains, filter, length, get_or, arith, refl, sym, ◌∙◌, ap, subst}
use Rattle.std.specs.Prelude.{Option, Some, None, codes, is_none, if◌then◌else◌}
use Rattle.std.specs.List.{list_any}
use Rattle.std.specs.Option.{unwrap_or}
use Rattle.std.specs.Ordering.{nat_cmp, eq_by_cmp}
use Rattle.std.specs.Cmp.Lexicographic.{slice_cmp, nat_list_cmp_total}
use Rattle.std.specs.FinMap.{empty, get, insert, get-insert}
use Rattle.base_types.specs.Names.{ByName}
use Rattle.git_object.specs.Content.{Content}
use Rattle.ref_store.specs.Objects.{with_pack}
use Rattle.ref_store.specs.Refs.{Name}
use Rattle.ref_store.specs.declared.command.Command.{Command}
use Rattle.rule_compile.specs.Flat.{Flat}
use Rattle.rule_compile.specs.Patterns.{AreTrue, Patterns}
use Rattle.access_check.specs.Users.{asked}
use Rattle.access_check.specs.Verdicts.{may_create, unborn_stage}
use Rattle.access_check.specs.declared.verdicts.Verdict.{Verdict}
use Rattle.access_check.specs.declared.verdicts.Verdict.TheVariants.{Allowed, DeniedBy, Fallthru}
use Rattle.access_check.specs.declared.verdicts.Want.{Want}
use Rattle.setup_conf.specs.Laws.{SetupComesToRules}
use Rattle.setup_conf.specs.Setup.{setup_flat}
use Rattle.hub_history.specs.declared.outcome.Outcome.{Outcome}
use Rattle.hub_history.specs.declared.entry.Entry.{Entry}
use Rattle.hub_history.specs.declared.entry.EnterKept.{EnterKept}
use Rattle.hub_history.specs.declared.entry.EnterKept.TheVariants.{Granted, Created, Denied, NoRepo}
use Rattle.hub_history.specs.declared.entry.PermChange.{PermChange}
use Rattle.hub_history.specs.declared.entry.PermsKept.{PermsKept}
use Rattle.hub_history.specs.declared.entry.PermsKept.TheVariants.{Changed, AlreadySo, NotWild, NotCreator, NoSuchRole, Listed}
use Rattle.hub_history.specs.declared.entry.Event.{Event}
use Rattle.hub_history.specs.declared.entry.Event.TheVariants.{Entered, Pushed, Permitted, Looked}
use Rattle.hub_history.specs.Conf.{AreInForce}
use Rattle.hub_history.specs.History.{History, IsDue, IsDueAfter, IsDuePush, IsLegal, after, after_push, history, made_empty, new_history, opening_at, pinned_by, push_change, replay, step}
use Rattle.hub_history.specs.Laws.{OneAnswer}
use Rattle.hub_history.specs.Opening.{IsDueOpening, Pinned, answer_by, by_creation, by_verdict, made_by}
use Rattle.hub_history.specs.Push.{Makes, conf_put, is_done, is_lacking, refs_left}
use Rattle.hub_history.specs.RoleLaws.{AnswersTellOfRoles, creator_in}
use Rattle.hub_history.specs.Roles.{given_by}
use Rattle.hub_history.specs.State.{CommitAmong, Conf, Repository, State, changed, conf_after, empty_repository, placed_in, put_in_place, repository_at, start}
use Rattle.hub_history.proofs.GrowthLemmas.{AreLacking, Follows, grows-step, makes_lacking}
use Rattle.hub_history.proofs.HistoryLemmas.{beginning_legal, history-keeps}
use Rattle.hub_history.proofs.MovedLogs.{behind, due_here, due_last, key_itself, step_here}
use Rattle.hub_history.proofs.OpeningLemmas.{pins_granted}
use Rattle.hub_history.proofs.RoleSets.{contains_first, contains_later, contains_none}
use Rattle.hub_history.proofs.WholeLogs.{opening_last}
use Rattle.history_laws.specs.StateLaws.{IsOf, IsPinned, IsPlainIn, MadeIsOfTheConf, MakesRepository, NewWasMade, PlainAreThere}
use Rattle.history_laws.proofs.ChangeLemmas.{put_apart, step_apart}
use Rattle.history_laws.proofs.DoneLemmas.{push_conf}

-- ---- what a list contains

contains_cases : (y x : Name) (xs : List Name) → Contains (y ∷ xs) x → (y ≡ x) ⊎ Contains xs x
contains_cases y x xs has = by_place has.0 has.1 has.2
  where
    by_place : (k : ℕ) → k < length (y ∷ xs) → get_or (y ∷ xs) k x ≡ x → (y ≡ x) ⊎ Contains xs x
    by_place zero within is = inl is
    by_place (suc k) within is = inr (k, omega (arith, within), is)

module _ (f : Name → Bool) where
  kept_from : (xs : List Name) (x : Name) → Contains (filter f xs) x → Contains xs x
  kept_from [] x has = absurd (contains_none x has)
  kept_from (y ∷ xs) x has = by_test (f y) has (kept_from xs x)
    where
      by_first : (y ≡ x) ⊎ Contains (filter f xs) x → (Contains (filter f xs) x → Contains xs x) → Contains (y ∷ xs) x
      by_first (inl same) rest = subst (λ (z : Name). Contains (y ∷ xs) z) same (contains_first y xs)
      by_first (inr later) rest = contains_later y x xs (rest later)

      by_test : (b : Bool) → Contains (cond b (y ∷ filter f xs) (filter f xs)) x → (Contains (filter f xs) x → Contains xs x) → Contains (y ∷ xs) x
      by_test true has rest = by_first (contains_cases y x (filter f xs) has) rest
      by_test false has rest = contains_later y x xs (rest has)

  kept_in : (xs : List Name) (x : Name) → f x ≡ true → Contains xs x → Contains (filter f xs) x
  kept_in [] x passes has = absurd (contains_none x has)
  kept_in (y ∷ xs) x passes has = by_test (f y) refl (contains_cases y x xs has) (kept_in xs x passes)
    where
      by_test : (b : Bool) → f y ≡ b → (y ≡ x) ⊎ Contains xs x → (Contains xs x → Contains (filter f xs) x) → Contains (cond b (y ∷ filter f xs) (filter f xs)) x
      by_test true is (inl same) rest = subst (λ (z : Name). Contains (y ∷ filter f xs) z) same (contains_first y (filter f xs))
      by_test true is (inr later) rest = contains_later y x (filter f xs) (rest later)
      by_test false is (inl same) rest = let bad : true ≡ false = sym passes ∙ ap f (sym same) ∙ is in cc
      by_test false is (inr later) rest = rest later

-- ---- what is there stays there

abbrev IsThere : State → Name → Type 0
IsThere state name = (repository : Repository) × (get state.repositories name ≡ Some repository)

put_here : (known : ByName Repository) (k : Name) (r : Repository) → get (insert known k r) k ≡ Some r
put_here known k r = get-insert nat_list_cmp_total known k r k ∙ ap (λ (b : Bool). cond b (Some r) (get known k)) (key_itself k)

goes_on : (old new : State) (name : Name) → Follows (get old.repositories name) (get new.repositories name) → IsThere old name → IsThere new name
goes_on old new name follows was = by_get (get new.repositories name) refl (subst (λ (o : Option Repository). Follows o (get new.repositories name)) was.1 follows)
  where
    by_get : (o : Option Repository) → get new.repositories name ≡ o → Follows (Some was.0) o → IsThere new name
    by_get None is follows = absurd follows
    by_get (Some r) is follows = (r, is)

-- what is made is there
made_there : (known : ByName Repository) (made : List Name) (name : Name) → Contains made name → get (placed_in known (made_empty made)) name ≡ Some (empty_repository None)
made_there known [] name has = absurd (contains_none name has)
made_there known (n ∷ ns) name has = by_name (eq_by_cmp (slice_cmp nat_cmp) name n) refl (contains_cases n name ns has) (made_there known ns name)
  where
    by_name : (b : Bool) → eq_by_cmp (slice_cmp nat_cmp) name n ≡ b → (n ≡ name) ⊎ Contains ns name → (Contains ns name → get (placed_in known (made_empty ns)) name ≡ Some (empty_repository None))
        → get (insert (placed_in known (made_empty ns)) n (empty_repository None)) name ≡ Some (empty_repository None)
    by_name true same cases rest =
        get-insert nat_list_cmp_total (placed_in known (made_empty ns)) n (empty_repository None) name ∙ ap (λ (b : Bool). cond b (Some (empty_repository None)) (get (placed_in known (made_empty ns)) name)) same
    by_name false other (inl here) rest = let bad : false ≡ true = sym other ∙ ap (eq_by_cmp (slice_cmp nat_cmp) name) here ∙ key_itself name in cc
    by_name false other (inr later) rest =
        get-insert nat_list_cmp_total (placed_in known (made_empty ns)) n (empty_repository None) name ∙ ap (λ (b : Bool). cond b (Some (empty_repository None)) (get (placed_in known (made_empty ns)) name)) other ∙ rest later

-- behind a push what it made is there, beside the push's own repository
push_makes : (state : State) (pinned : Pinned) (pack : List Content) (cs : List Command) (os : List Outcome) (made : List Name) (name : Name) → ¬ (name ≡ pinned.repo) → Contains made name
    → get (changed state (push_change state pinned pack cs os made)).repositories name ≡ Some (empty_repository None)
unfolding push_change
push_makes state pinned pack cs os made name apart has = by_done (list_any is_done os)
  where
    next : Repository
    next = record (repository_at state pinned.repo) { objects = with_pack (repository_at state pinned.repo).objects pack; refs = refs_left (repository_at state pinned.repo).refs cs os }

    by_done : (b : Bool) → get (placed_in state.repositories (put_in_place pinned.repo (if b then Some next else None) ++ made_empty made)) name ≡ Some (empty_repository None)
    by_done true = put_apart (placed_in state.repositories (made_empty made)) pinned.repo next name apart ∙ made_there state.repositories made name has
    by_done false = made_there state.repositories made name has

-- ---- what an opening pinned is there

never_granted : (v w : Verdict) → Granted ≡ by_verdict v (by_creation w) → ⊥
never_granted (Allowed seq) (Allowed other) is = cc
never_granted (Allowed seq) (DeniedBy other) is = cc
never_granted (Allowed seq) Fallthru is = cc
never_granted (DeniedBy seq) w is = cc
never_granted Fallthru w is = cc

abbrev PinsAreThere : History → Type 0
PinsAreThere h = (place : ℕ) (pinned : Pinned) → opening_at h place ≡ Some pinned → IsThere h.state pinned.repo

module _ (ps : Patterns) where
  granted_there : (state : State) (user repo : Name) (want : Want) → IsDueOpening ps state user repo want Granted → IsThere state repo
  granted_there state user repo want due = by_get (get state.repositories repo) refl due.2
    where
      by_get : (o : Option Repository) → get state.repositories repo ≡ o → Granted ≡ answer_by ps due.0 o user repo want → IsThere state repo
      by_get None is answer = absurd (never_granted (unborn_stage ps due.0 repo user want) (may_create ps due.0 repo user) answer)
      by_get (Some r) is answer = (r, is)

  opened_there : (state : State) (user repo : Name) (want : Want) (answer : EnterKept) → IsDueOpening ps state user repo want answer → (answer ≡ Granted) ⊎ (answer ≡ Created) → IsThere (changed state (made_by user repo answer)) repo
  opened_there state user repo want Granted due granted = granted_there state user repo want due
  opened_there state user repo want Created due granted = (empty_repository (Some user), put_here state.repositories repo (empty_repository (Some user)))
  opened_there state user repo want (Denied verdict) due (inl bad) = cc
  opened_there state user repo want (Denied verdict) due (inr bad) = cc
  opened_there state user repo want NoRepo due (inl bad) = cc
  opened_there state user repo want NoRepo due (inr bad) = cc

  new_there : (h : History) (event : Event) (p : Pinned) → IsDue ps h event → pinned_by (step h event) event ≡ Some p → IsThere (step h event) p.repo
  new_there h (Entered user repo want answer) p due is =
      let granted = pins_granted (step h (Entered user repo want answer)) user repo want answer p is in
      subst (λ (q : Pinned). IsThere (step h (Entered user repo want answer)) q.repo) (sym granted.0) (opened_there h.state user repo want answer due.1 granted.1)
  new_there h (Pushed place pack cs atomic os made) p due is = absurd cc
  new_there h (Permitted user repo asked answer) p due is = absurd cc
  new_there h (Looked user) p due is = absurd cc

  pins_stay : (h : History) (event : Event) → IsDue ps h event → PinsAreThere h → PinsAreThere (after h event)
  pins_stay h event due there place p at = elim (opening_last h.openings (pinned_by (step h event) event) place p at) [
    | inl old ↦ goes_on h.state (step h event) p.repo (grows-step ps h event due p.repo) (there place p old)
    | inr new ↦ new_there h event p due new
  ]

  pins_there : AreTrue ps → (admin : Name) (log : List Entry) → IsLegal admin log → (place : ℕ) (p : Pinned) → opening_at (history admin log) place ≡ Some p → IsThere (replay admin log) p.repo
  pins_there ok admin log legal = history-keeps ps PinsAreThere pins_stay (new_history admin) log (legal ps ok) (λ place p at. cc)

-- ---- what wasn't there

not_there : (state : State) (name : Name) → get state.repositories name ≡ None → ¬ IsThere state name
not_there state name lacks there = let bad = sym lacks ∙ there.1 in cc

-- a change of roles is of a repository that is there
changed_there : (state : State) (asker repo : Name) → creator_in state repo ≡ Some asker → ¬ (get state.repositories repo ≡ None)
changed_there state asker repo creator lacks =
    let bad : None ≡ Some asker = sym (ap (λ (o : Option Repository). (unwrap_or o (empty_repository None)).creator) lacks) ∙ creator in cc

module _ (roles_tell : AnswersTellOfRoles) (ps : Patterns) (ok : AreTrue ps) where
  pub new_was_made : NewWasMade
  new_was_made admin before entry name legal unmade lacks = by_event entry.event refl (due_last admin before entry legal ps ok) unmade
    where
      h : History
      h = history admin before

      by_step : (event : Event) → entry.event ≡ event → get (step h event).repositories name ≡ None → get (replay admin (before ++ entry ∷ [])).repositories name ≡ None
      by_step event is none = ap (λ (s : State). get s.repositories name) (behind admin before entry ∙ ap (step h) is) ∙ none

      apart : (event : Event) → entry.event ≡ event → ¬ IsOf h event name → get (replay admin (before ++ entry ∷ [])).repositories name ≡ None
      apart event is other = by_step event is (step_apart h event name other ∙ lacks)

      by_answer : (user repo : Name) (want : Want) (answer : EnterKept) → ¬ ((name ≡ repo) × (answer ≡ Created)) → get (changed h.state (made_by user repo answer)).repositories name ≡ None
      by_answer user repo want Granted unmade = lacks
      by_answer user repo want Created unmade = put_apart h.state.repositories repo (empty_repository (Some user)) name (λ same. unmade (same, refl)) ∙ lacks
      by_answer user repo want (Denied verdict) unmade = lacks
      by_answer user repo want NoRepo unmade = lacks

      by_kept : (user repo : Name) (asked : PermChange) (answer : PermsKept) → entry.event ≡ Permitted user repo asked answer → get (changed h.state (given_by h.state repo asked answer)).repositories name ≡ None
      by_kept user repo asked Changed is =
          put_apart h.state.repositories repo _ name (λ same. changed_there h.state user repo (roles_tell admin before entry user repo asked Changed legal is).0.0 (ap (get h.state.repositories) (sym same) ∙ lacks)) ∙ lacks
      by_kept user repo asked AlreadySo is = lacks
      by_kept user repo asked NotWild is = lacks
      by_kept user repo asked NotCreator is = lacks
      by_kept user repo asked NoSuchRole is = lacks
      by_kept user repo asked Listed is = lacks

      legal_before : IsLegal admin before
      legal_before = beginning_legal admin before (entry ∷ []) legal

      by_event : (event : Event) → entry.event ≡ event → IsDue ps h event → ¬ MakesRepository event name → get (replay admin (before ++ entry ∷ [])).repositories name ≡ None
      by_event (Entered user repo want answer) is due unmade = by_step (Entered user repo want answer) is (by_answer user repo want answer unmade)
      by_event (Pushed place pack cs atomic os made) is due unmade = apart (Pushed place pack cs atomic os made) is (by_opening (opening_at h place) refl)
        where
          by_opening : (o : Option Pinned) → opening_at h place ≡ o → IsPinned o name ⊎ Contains made name → ⊥
          by_opening o at (inr has) = unmade has
          by_opening None at (inl is) = is
          by_opening (Some pinned) at (inl is) = not_there h.state pinned.repo (ap (get h.state.repositories) (sym is) ∙ lacks) (pins_there ps ok admin before legal_before place pinned at)
      by_event (Permitted user repo asked answer) is due unmade = by_step (Permitted user repo asked answer) is (by_kept user repo asked answer is)
      by_event (Looked user) is due unmade = by_step (Looked user) is lacks

-- ---- what a push made

lacking_at : (state : State) (made : List Name) (name : Name) → AreLacking state made → Contains made name → get state.repositories name ≡ None
lacking_at state [] name all has = absurd (contains_none name has)
lacking_at state (n ∷ ns) name all has = elim (contains_cases n name ns has) [
  | inl same ↦ subst (λ (m : Name). get state.repositories m ≡ None) same all.0
  | inr later ↦ lacking_at state ns name all.1 later
]

-- the rules that are in force by a conf have the plain name
abbrev HasPlain : Patterns → Name → Conf → Type 0
HasPlain ps name conf = (rules : Flat) × AreInForce ps conf rules × Contains rules.plain name

made_plain : (ps : Patterns) (state : State) (put : Option CommitAmong) (made : List Name) (name : Name) → Makes ps state put made → Contains made name → HasPlain ps name (conf_after state.conf put)
made_plain ps state None made name is has = absurd (contains_none name (subst (λ (l : List Name). Contains l name) is has))
made_plain ps state (Some commit) made name makes has = (makes.0, makes.1, kept_from (is_lacking state) makes.0.plain name (subst (λ (l : List Name). Contains l name) makes.2 has))

module _ (ps : Patterns) (ok : AreTrue ps) where
  pub made_is_of_the_conf : MadeIsOfTheConf
  made_is_of_the_conf admin before entry place pack cs atomic os made name legal is has =
      by_opening (opening_at (history admin before) place) refl (subst (λ (event : Event). IsDue ps (history admin before) event) is (due_last admin before entry legal ps ok))
    where
      state : State
      state = replay admin before

      by_opening : (o : Option Pinned) → opening_at (history admin before) place ≡ o → IsDueAfter ps state o pack cs atomic os made
          → (get state.repositories name ≡ None) × (get (replay admin (before ++ entry ∷ [])).repositories name ≡ Some (empty_repository None)) × IsPlainIn (replay admin (before ++ entry ∷ [])) name
      by_opening None at due = absurd due
      by_opening (Some pinned) at due =
          let none = lacking_at state made name (makes_lacking ps state (conf_put pinned pack cs os) made due.makes) has in
          let next = step_here ps ok admin before entry legal place pack cs atomic os made pinned is at in
          let apart : ¬ (name ≡ pinned.repo) = λ same. not_there state pinned.repo (ap (get state.repositories) (sym same) ∙ none) (pins_there ps ok admin before (beginning_legal admin before (entry ∷ []) legal) place pinned at) in (
            none,
            ap (λ (s : State). get s.repositories name) next ∙ push_makes state pinned pack cs os made name apart has,
            λ qs good. subst (HasPlain qs name) (sym (ap (λ (s : State). s.conf) next ∙ push_conf state pinned pack cs os made))
                (made_plain qs state (conf_put pinned pack cs os) made name (due_here qs good admin before entry legal place pack cs atomic os made pinned is at).makes has),
          )

-- ---- plain names of the rules in force

abbrev PlainThere : Patterns → State → Type 0
PlainThere ps state = (rules : Flat) → AreInForce ps state.conf rules → (name : Name) → Contains rules.plain name → IsThere state name

opening_conf : (state : State) (user repo : Name) (answer : EnterKept) → (changed state (made_by user repo answer)).conf ≡ state.conf
opening_conf state user repo Granted = refl
opening_conf state user repo Created = refl
opening_conf state user repo (Denied verdict) = refl
opening_conf state user repo NoRepo = refl

given_conf : (state : State) (repo : Name) (asked : PermChange) (answer : PermsKept) → (changed state (given_by state repo asked answer)).conf ≡ state.conf
given_conf state repo asked Changed = refl
given_conf state repo asked AlreadySo = refl
given_conf state repo asked NotWild = refl
given_conf state repo asked NotCreator = refl
given_conf state repo asked NoSuchRole = refl
given_conf state repo asked Listed = refl

still_there : (known : ByName Repository) (k : Name) (r : Repository) (name : Name) → (was : Repository) × (get known name ≡ Some was) → (is : Repository) × (get (insert known k r) name ≡ Some is)
still_there known k r name was = by_name (eq_by_cmp (slice_cmp nat_cmp) name k) refl
  where
    by_name : (b : Bool) → eq_by_cmp (slice_cmp nat_cmp) name k ≡ b → (is : Repository) × (get (insert known k r) name ≡ Some is)
    by_name true same = (r, get-insert nat_list_cmp_total known k r name ∙ ap (λ (b : Bool). cond b (Some r) (get known name)) same)
    by_name false other = (was.0, get-insert nat_list_cmp_total known k r name ∙ ap (λ (b : Bool). cond b (Some r) (get known name)) other ∙ was.1)

lacks_none : (o : Option Repository) → is_none o ≡ true → o ≡ None
lacks_none None is = refl
lacks_none (Some r) is = absurd cc

has_some : (state : State) (name : Name) → is_lacking state name ≡ false → IsThere state name
has_some state name is = by_get (get state.repositories name) refl is
  where
    by_get : (o : Option Repository) → get state.repositories name ≡ o → is_none o ≡ false → IsThere state name
    by_get None at is = absurd cc
    by_get (Some r) at is = (r, at)

start_there : (admin : Name) (name : Name) → Contains (setup_flat admin).plain name → IsThere (start admin) name
start_there admin name has = by_first (contains_cases (codes "gitolite-admin") name (codes "testing" ∷ []) has)
  where
    first : ByName Repository
    first = insert empty (codes "gitolite-admin") (empty_repository None)

    by_second : (codes "testing" ≡ name) ⊎ Contains [] name → IsThere (start admin) name
    by_second (inl same) = subst (λ (n : Name). IsThere (start admin) n) same (empty_repository None, put_here first (codes "testing") (empty_repository None))
    by_second (inr none) = absurd (contains_none name none)

    by_first : (codes "gitolite-admin" ≡ name) ⊎ Contains (codes "testing" ∷ []) name → IsThere (start admin) name
    by_first (inl same) =
        subst (λ (n : Name). IsThere (start admin) n) same
        (still_there first (codes "testing") (empty_repository None) (codes "gitolite-admin") (empty_repository None, put_here empty (codes "gitolite-admin") (empty_repository None)))
    by_first (inr later) = by_second (contains_cases (codes "testing") name [] later)

module _ (one : OneAnswer) (ps : Patterns) where
  keeps_plain : (h : History) (event : Event) → IsDue ps h event → (step h event).conf ≡ h.state.conf → PlainThere ps h.state → PlainThere ps (step h event)
  keeps_plain h event due same plain = λ rules in_force name has. goes_on h.state (step h event) name (grows-step ps h event due name) (plain rules (subst (λ (c : Conf). AreInForce ps c rules) same in_force) name has)

  push_plain : (h : History) (place : ℕ) (pack : List Content) (cs : List Command) (atomic : Bool) (os : List Outcome) (made : List Name) (pinned : Pinned) → PinsAreThere h → opening_at h place ≡ Some pinned
      → IsDue ps h (Pushed place pack cs atomic os made) → IsDuePush ps h.state pinned pack cs atomic os made → PlainThere ps h.state → PlainThere ps (step h (Pushed place pack cs atomic os made))
  push_plain h place pack cs atomic os made pinned pins at due of plain = by_put (conf_put pinned pack cs os) refl
    where
      event : Event
      event = Pushed place pack cs atomic os made

      step_is : step h event ≡ changed h.state (push_change h.state pinned pack cs os made)
      step_is = ap (λ (o : Option Pinned). after_push h.state o pack cs os made) at

      conf_is : (step h event).conf ≡ conf_after h.state.conf (conf_put pinned pack cs os)
      conf_is = ap (λ (s : State). s.conf) step_is ∙ push_conf h.state pinned pack cs os made

      by_lack : (name : Name) (b : Bool) → is_lacking h.state name ≡ b → (is_lacking h.state name ≡ true → Contains made name) → IsThere (step h event) name
      by_lack name false there has = goes_on h.state (step h event) name (grows-step ps h event due name) (has_some h.state name there)
      by_lack name true lacks has =
          let none = lacks_none (get h.state.repositories name) lacks in
          let apart : ¬ (name ≡ pinned.repo) = λ same. not_there h.state pinned.repo (ap (get h.state.repositories) (sym same) ∙ none) (pins place pinned at) in
          (empty_repository None, ap (λ (s : State). get s.repositories name) step_is ∙ push_makes h.state pinned pack cs os made name apart (has lacks))

      by_put : (put : Option CommitAmong) → conf_put pinned pack cs os ≡ put → PlainThere ps (step h event)
      by_put None none = keeps_plain h event due (conf_is ∙ ap (conf_after h.state.conf) none) plain
      by_put (Some commit) some = λ rules in_force name has.
          let makes : Makes ps h.state (Some commit) made = subst (λ (c : Option CommitAmong). Makes ps h.state c made) some of.makes in
          let force : AreInForce ps (conf_after h.state.conf (Some commit)) rules = subst (λ (c : Conf). AreInForce ps c rules) (conf_is ∙ ap (conf_after h.state.conf) some) in_force in
          let same : rules ≡ makes.0 = one.rules ps (conf_after h.state.conf (Some commit)) rules makes.0 force makes.1 in
          by_lack name (is_lacking h.state name) refl
          (λ lacks. subst (λ (l : List Name). Contains l name) (sym makes.2) (kept_in (is_lacking h.state) makes.0.plain name lacks (subst (λ (r : Flat). Contains r.plain name) same has)))

  plain_step : (h : History) (event : Event) → IsDue ps h event → PinsAreThere h → PlainThere ps h.state → PlainThere ps (step h event)
  plain_step h (Entered user repo want answer) due pins plain = keeps_plain h (Entered user repo want answer) due (opening_conf h.state user repo answer) plain
  plain_step h (Pushed place pack cs atomic os made) due pins plain = by_opening (opening_at h place) refl due
    where
      by_opening : (o : Option Pinned) → opening_at h place ≡ o → IsDueAfter ps h.state o pack cs atomic os made → PlainThere ps (step h (Pushed place pack cs atomic os made))
      by_opening None at of = absurd of
      by_opening (Some pinned) at of = push_plain h place pack cs atomic os made pinned pins at due of plain
  plain_step h (Permitted user repo asked answer) due pins plain = keeps_plain h (Permitted user repo asked answer) due (given_conf h.state repo asked answer) plain
  plain_step h (Looked user) due pins plain = plain

  plain_along : (admin : Name) (log : List Entry) → IsLegal admin log → AreTrue ps → PlainThere ps (start admin) → PlainThere ps (replay admin log)
  plain_along admin log legal ok plain =
      (history-keeps ps (λ (h : History). PinsAreThere h × PlainThere ps h.state) (λ h event due held. (pins_stay ps h event due held.0, plain_step h event due held.0 held.1))
      (new_history admin) log (legal ps ok) (λ place p at. cc, plain)).1

pub plain_are_there : OneAnswer → SetupComesToRules → PlainAreThere
plain_are_there one setup admin log named legal ps ok =
    plain_along one ps admin log legal ok
    (λ rules in_force name has. start_there admin name (subst (λ (r : Flat). Contains r.plain name) (one.rules ps (start admin).conf rules (setup_flat admin) in_force (sym (setup ps ok admin named))) has))
