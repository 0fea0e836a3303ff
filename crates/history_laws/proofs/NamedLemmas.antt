-- Along a legal log each repository, each creator and each holder of a role is named.
use Rattle.std.proofs.Common.{◌≡◌, inl, inr, ℕ, Bool, true, false, not, cond, List, [], ◌∷◌, ◌++◌, filter, refl, sym, ◌∙◌, ap, subst, Contains}
use Rattle.std.specs.Prelude.{Option, Some, None, Result, Ok, Err, codes, if◌then◌else◌}
use Rattle.std.specs.List.{AllByRecursion, list_any}
use Rattle.std.specs.Option.{IfSome, unwrap_or}
use Rattle.std.specs.Ordering.{nat_cmp, eq_by_cmp}
use Rattle.std.specs.Cmp.Lexicographic.{slice_cmp, nat_list_cmp_total}
use Rattle.std.specs.FinMap.{get, insert, empty, get-insert, get-empty}
use Rattle.base_types.specs.Names.{ByName}
use Rattle.git_object.specs.Content.{Content}
use Rattle.conf_lex.specs.Names.{is_repo_name, is_user_name}
use Rattle.conf_lex.specs.RepoWords.{repo_word}
use Rattle.conf_groups.specs.Splicing.{spliced}
use Rattle.conf_groups.specs.declared.conf_file.ConfFile.{ConfFile}
use Rattle.conf_groups.specs.declared.fault.ConfFault.{ConfFault}
use Rattle.conf_groups.specs.declared.placed.Placed.{Placed}
use Rattle.ref_store.specs.Objects.{with_pack}
use Rattle.ref_store.specs.Refs.{Name}
use Rattle.ref_store.specs.declared.command.Command.{Command}
use Rattle.rule_compile.specs.Flat.{Flat, after_splicing, flat}
use Rattle.rule_compile.specs.Patterns.{AreTrue, Patterns}
use Rattle.rule_compile.proofs.RoleLemmas.{declared_is_role_name}
use Rattle.rule_compile.specs.Roles.{declares, is_role_name}
use Rattle.rule_compile.specs.Words.{is_all, repo_of}
use Rattle.rule_compile.specs.declared.rule.RepoWord.TheVariants as repo
use Rattle.rule_laws.specs.Laws.{IsWorded, PlainAreWorded}
use Rattle.wild_perms.specs.Answers.{refused_by}
use Rattle.wild_perms.specs.declared.answer.PermsAnswer.TheVariants as perms
use Rattle.wild_perms.specs.declared.role.RoleEntry.{RoleEntry}
use Rattle.hub_history.specs.declared.outcome.Outcome.{Outcome}
use Rattle.hub_history.specs.declared.entry.EnterKept.{EnterKept}
use Rattle.hub_history.specs.declared.entry.EnterKept.TheVariants.{Granted, Created, Denied, NoRepo}
use Rattle.hub_history.specs.declared.entry.PermChange.{PermChange}
use Rattle.hub_history.specs.declared.entry.PermChange.TheVariants as change
use Rattle.hub_history.specs.declared.entry.PermsKept.{PermsKept}
use Rattle.hub_history.specs.declared.entry.PermsKept.TheVariants.{Changed, AlreadySo, NotWild, NotCreator, NoSuchRole, Listed}
use Rattle.hub_history.specs.declared.entry.Event.{Event}
use Rattle.hub_history.specs.declared.entry.Event.TheVariants.{Entered, Pushed, Permitted, Looked}
use Rattle.hub_history.specs.Conf.{ComesTo}
use Rattle.hub_history.specs.History.{AreNames, History, IsDue, IsDueAfter, IsOfUser, after, after_push, made_empty, new_history, opening_at, pinned_by, push_change, step}
use Rattle.hub_history.specs.Opening.{Pinned, made_by}
use Rattle.hub_history.specs.Push.{Makes, conf_put, is_done, is_lacking, refs_left}
use Rattle.hub_history.specs.Roles.{IsDueChange, entry_of, given_by, has_entry, roles_after, unless_refused}
use Rattle.hub_history.specs.State.{CommitAmong, Repository, State, changed, empty_repository, placed_in, put_in_place, repository_at, start}
use Rattle.hub_history.proofs.HistoryLemmas.{history-keeps, some_same}
use Rattle.hub_history.proofs.MovedLogs.{same_key}
use Rattle.hub_history.proofs.OpeningLemmas.{pins_granted}
use Rattle.hub_history.proofs.RoleSets.{contains_first, contains_later, contains_none, with_has, without_has}
use Rattle.hub_history.proofs.WholeLogs.{opening_last}
use Rattle.history_laws.specs.Named.{AllAreNamed, IsNamed}

-- ---- the plain names of a conf

-- a word that stands for a plain name has one
plain_of : (text name : List ℕ) → repo.Plain name ≡ repo_of text → is_repo_name name ≡ true
plain_of text name is = by_all (is_all text) is
  where
    by_name : (b : Bool) → is_repo_name (repo_word text) ≡ b → repo.Plain name ≡ (if b then repo.Plain (repo_word text) else repo.Pattern (repo_word text)) → is_repo_name name ≡ true
    by_name true good is = let same : name ≡ repo_word text = cc in ap is_repo_name same ∙ good
    by_name false bad is = absurd cc

    by_all : (b : Bool) → repo.Plain name ≡ (if b then repo.All else (if is_repo_name (repo_word text) then repo.Plain (repo_word text) else repo.Pattern (repo_word text))) → is_repo_name name ≡ true
    by_all true is = absurd cc
    by_all false is = by_name (is_repo_name (repo_word text)) refl is

module _ (plain_are_worded : PlainAreWorded) (ps : Patterns) (ok : AreTrue ps) where
  plain_named : (files : List ConfFile) (rules : Flat) → flat ps files ≡ Ok rules → (name : List ℕ) → Contains rules.plain name → is_repo_name name ≡ true
  plain_named files rules is name has = by_spliced (spliced files) refl
    where
      worded : (placed : List Placed) → IsWorded placed (repo.Plain name) → is_repo_name name ≡ true
      worded placed (before, line, words, behind, says, has) = plain_of has.0 name has.2

      by_spliced : (s : Result (List Placed) ConfFault) → spliced files ≡ s → is_repo_name name ≡ true
      by_spliced (Ok placed) splices = worded placed ((plain_are_worded ps files placed rules ok splices is name).0 has)
      by_spliced (Err fault) splices = let clash : Err _ ≡ Ok rules = sym (ap (after_splicing ps) splices) ∙ is in absurd cc

  -- of what a conf at a commit comes to
  come_named : (objects : List Content) (commit : _) (rules : Flat) → ComesTo ps objects commit (Ok rules) → (name : List ℕ) → Contains rules.plain name → is_repo_name name ≡ true
  come_named objects commit rules (Ok files, tells, of_conf, is) = plain_named files rules (sym is)
  come_named objects commit rules (Err fault, tells, of_conf, is) = λ name has. absurd cc

-- ---- repositories that are put in place

abbrev AllNamed : ByName Repository → Type 0
AllNamed known = (name : Name) (repository : Repository) → get known name ≡ Some repository → IsNamed name repository

abbrev PlacedNamed : Name × Repository → Type 0
PlacedNamed placed = IsNamed placed.0 placed.1

-- an empty repository, made by somebody or by nobody
new_named : (name : Name) (creator : Option Name) → is_repo_name name ≡ true → IfSome creator (λ user. is_user_name user ≡ true) → IsNamed name (empty_repository creator)
new_named name creator good made = record { repo = good; creator = made; holders = λ held has. absurd (contains_none held has); roles = λ held has. absurd (contains_none held has) }

put_named : (known : ByName Repository) (name : Name) (repository : Repository) → IsNamed name repository → AllNamed known → AllNamed (insert known name repository)
put_named known name repository here all q found is = by_name (eq_by_cmp (slice_cmp nat_cmp) q name) refl (sym (get-insert nat_list_cmp_total known name repository q) ∙ is)
  where
    by_name : (b : Bool) → eq_by_cmp (slice_cmp nat_cmp) q name ≡ b → cond b (Some repository) (get known q) ≡ Some found → IsNamed q found
    by_name true same is = subst (λ (n : Name). IsNamed n found) (sym (same_key q name same)) (subst (IsNamed name) (some_same is) here)
    by_name false apart is = all q found is

placed_named : (known : ByName Repository) (list : List (Name × Repository)) → AllByRecursion PlacedNamed list → AllNamed known → AllNamed (placed_in known list)
placed_named known [] here all = all
placed_named known (n ∷ ns) here all = put_named (placed_in known ns) n.0 n.1 here.0 (placed_named known ns here.1 all)

start_named : (admin : Name) → AllNamed (start admin).repositories
start_named admin = put_named _ _ _ (new_named (codes "testing") None refl tt) (put_named empty _ _ (new_named (codes "gitolite-admin") None refl tt) none)
  where
    none : AllNamed empty
    none q found is = let absent = sym (get-empty {X = Repository} (slice_cmp nat_cmp) q) ∙ is in cc

-- one that may be absent
named_at : (state : State) (name : Name) → is_repo_name name ≡ true → AllNamed state.repositories → IsNamed name (repository_at state name)
named_at state name good all = by_get (get state.repositories name) refl
  where
    by_get : (o : Option Repository) → get state.repositories name ≡ o → IsNamed name (unwrap_or o (empty_repository None))
    by_get None is = new_named name None good tt
    by_get (Some repository) is = all name repository is

-- ---- what a conf makes

lacking_named : (state : State) (names : List Name) → ((name : Name) → Contains names name → is_repo_name name ≡ true) → AllByRecursion PlacedNamed (made_empty (filter (is_lacking state) names))
lacking_named state [] good = tt
lacking_named state (n ∷ ns) good = by_test (is_lacking state n) (lacking_named state ns (λ name has. good name (contains_later n name ns has)))
  where
    by_test : (b : Bool) → AllByRecursion PlacedNamed (made_empty (filter (is_lacking state) ns)) → AllByRecursion PlacedNamed (made_empty (cond b (n ∷ filter (is_lacking state) ns) (filter (is_lacking state) ns)))
    by_test true rest = (new_named n None (good n (contains_first n ns)) tt, rest)
    by_test false rest = rest

made_named : PlainAreWorded → (ps : Patterns) (ok : AreTrue ps) (state : State) (put : Option CommitAmong) (made : List Name) → Makes ps state put made → AllByRecursion PlacedNamed (made_empty made)
made_named worded ps ok state None made is = subst (λ (names : List Name). AllByRecursion PlacedNamed (made_empty names)) (sym is) tt
made_named worded ps ok state (Some commit) made makes =
    subst (λ (names : List Name). AllByRecursion PlacedNamed (made_empty names)) (sym makes.2) (lacking_named state makes.0.plain (come_named worded ps ok commit.objects commit.commit makes.0 makes.1))

-- ---- along a log

record StaysNamed (h : History) : Type 0 where
  all : AllNamed h.state.repositories
  pins : (place : ℕ) (pinned : Pinned) → opening_at h place ≡ Some pinned → is_repo_name pinned.repo ≡ true

opening_named : (state : State) (user repo : Name) (answer : EnterKept) → AreNames user repo → AllNamed state.repositories → AllNamed (changed state (made_by user repo answer)).repositories
opening_named state user repo Granted names all = all
opening_named state user repo Created names all = put_named state.repositories repo (empty_repository (Some user)) (new_named repo (Some user) names.asked_for names.asker) all
opening_named state user repo (Denied verdict) names all = all
opening_named state user repo NoRepo names all = all

roles_named : (roles : List RoleEntry) (asked : PermChange) → IsOfUser asked → ((held : RoleEntry) → Contains roles held → is_user_name held.user ≡ true)
    → (held : RoleEntry) → Contains (roles_after roles asked) held → is_user_name held.user ≡ true
roles_named roles (change.Grant role user) of_user good held has =
    elim (with_has roles (entry_of role user) held has) [
      | inl same ↦ ap (λ (e : RoleEntry). is_user_name e.user) same ∙ of_user
      | inr old ↦ good held old
    ]
roles_named roles (change.Revoke role user) of_user good held has = good held (without_has roles (entry_of role user) held has).0
roles_named roles change.List of_user good held has = good held has

-- what is given or taken is a role's name
abbrev AsksRole : PermChange → Type 0
AsksRole (change.Grant role user) = is_role_name role ≡ true
AsksRole (change.Revoke role user) = is_role_name role ≡ true
AsksRole change.List = Unit {0}

words_named : (roles : List RoleEntry) (asked : PermChange) → AsksRole asked → ((held : RoleEntry) → Contains roles held → is_role_name held.role ≡ true)
    → (held : RoleEntry) → Contains (roles_after roles asked) held → is_role_name held.role ≡ true
words_named roles (change.Grant role user) is_role good held has =
    elim (with_has roles (entry_of role user) held has) [
      | inl same ↦ ap (λ (e : RoleEntry). is_role_name e.role) same ∙ is_role
      | inr old ↦ good held old
    ]
words_named roles (change.Revoke role user) is_role good held has = good held (without_has roles (entry_of role user) held has).0
words_named roles change.List is_role good held has = good held has

-- what changes roles is of a word that is declared, and so of a role's name
changed_named : (ps : Patterns) (state : State) (user repo : Name) (asked : PermChange) → IsDueChange ps state user repo asked Changed → AsksRole asked
changed_named ps state user repo (change.Grant role whom) due =
    by_declared (declares ps due.0.options role repo (repository_at state repo).creator) refl (has_entry (repository_at state repo).roles (entry_of role whom)) due.2
  where
    by_declared : (b : Bool) → declares ps due.0.options role repo (repository_at state repo).creator ≡ b → (so : Bool)
        → Some Changed ≡ unless_refused (if not b then Some perms.NoSuchRole else refused_by (repository_at state repo).creator user) so → is_role_name role ≡ true
    by_declared true is so told = declared_is_role_name ps due.0.options role repo (repository_at state repo).creator is
    by_declared false is so told = absurd cc
changed_named ps state user repo (change.Revoke role whom) due =
    by_declared (declares ps due.0.options role repo (repository_at state repo).creator) refl (not (has_entry (repository_at state repo).roles (entry_of role whom))) due.2
  where
    by_declared : (b : Bool) → declares ps due.0.options role repo (repository_at state repo).creator ≡ b → (so : Bool)
        → Some Changed ≡ unless_refused (if not b then Some perms.NoSuchRole else refused_by (repository_at state repo).creator user) so → is_role_name role ≡ true
    by_declared true is so told = declared_is_role_name ps due.0.options role repo (repository_at state repo).creator is
    by_declared false is so told = absurd cc
changed_named ps state user repo change.List due = tt

given_named : (ps : Patterns) (state : State) (user repo : Name) (asked : PermChange) (answer : PermsKept) → AreNames user repo → IsOfUser asked → IsDueChange ps state user repo asked answer → AllNamed state.repositories → AllNamed (changed state (given_by state repo asked answer)).repositories
given_named ps state user repo asked Changed names of_user due all =
    let old = named_at state repo names.asked_for all in
    put_named state.repositories repo (record (repository_at state repo) { roles = roles_after (repository_at state repo).roles asked })
    (record { repo = old.repo; creator = old.creator; holders = roles_named (repository_at state repo).roles asked of_user old.holders; roles = words_named (repository_at state repo).roles asked (changed_named ps state user repo asked due) old.roles }) all
given_named ps state user repo asked AlreadySo names of_user due all = all
given_named ps state user repo asked NotWild names of_user due all = all
given_named ps state user repo asked NotCreator names of_user due all = all
given_named ps state user repo asked NoSuchRole names of_user due all = all
given_named ps state user repo asked Listed names of_user due all = all

push_named : (state : State) (pinned : Pinned) (pack : List Content) (commands : List Command) (outcomes : List Outcome) (made : List Name) → is_repo_name pinned.repo ≡ true → AllByRecursion PlacedNamed (made_empty made)
    → AllNamed state.repositories → AllNamed (changed state (push_change state pinned pack commands outcomes made)).repositories
unfolding push_change
push_named state pinned pack commands outcomes made good news all = by_done (list_any is_done outcomes)
  where
    next : Repository
    next = record (repository_at state pinned.repo) { objects = with_pack (repository_at state pinned.repo).objects pack; refs = refs_left (repository_at state pinned.repo).refs commands outcomes }

    by_done : (b : Bool) → AllNamed (placed_in state.repositories (put_in_place pinned.repo (if b then Some next else None) ++ made_empty made))
    by_done true =
        let old = named_at state pinned.repo good all in
        put_named (placed_in state.repositories (made_empty made)) pinned.repo next (record { repo = old.repo; creator = old.creator; holders = old.holders; roles = old.roles }) (placed_named state.repositories (made_empty made) news all)
    by_done false = placed_named state.repositories (made_empty made) news all

module _ (worded : PlainAreWorded) (ps : Patterns) (ok : AreTrue ps) where
  step_named : (h : History) (event : Event) → IsDue ps h event → StaysNamed h → AllNamed (step h event).repositories
  step_named h (Entered user repo want answer) due held = opening_named h.state user repo answer due.0 held.all
  step_named h (Pushed place pack commands atomic outcomes made) due held = by_opening (opening_at h place) refl due
    where
      by_opening : (o : Option Pinned) → opening_at h place ≡ o → IsDueAfter ps h.state o pack commands atomic outcomes made → AllNamed (after_push h.state o pack commands outcomes made).repositories
      by_opening None at due = absurd due
      by_opening (Some pinned) at due = push_named h.state pinned pack commands outcomes made (held.pins place pinned at) (made_named worded ps ok h.state (conf_put pinned pack commands outcomes) made due.makes) held.all
  step_named h (Permitted user repo asked answer) due held = given_named ps h.state user repo asked answer due.0 due.1 due.3 held.all
  step_named h (Looked user) due held = held.all

  -- what an event pins
  pin_named : (h : History) (state : State) (event : Event) (p : Pinned) → IsDue ps h event → pinned_by state event ≡ Some p → is_repo_name p.repo ≡ true
  pin_named h state (Entered user repo want answer) p due is = ap (λ (q : Pinned). is_repo_name q.repo) (pins_granted state user repo want answer p is).0 ∙ due.0.asked_for
  pin_named h state (Pushed place pack commands atomic outcomes made) p due is = absurd cc
  pin_named h state (Permitted user repo asked answer) p due is = absurd cc
  pin_named h state (Looked user) p due is = absurd cc

  stays_named : (h : History) (event : Event) → IsDue ps h event → StaysNamed h → StaysNamed (after h event)
  stays_named h event due held = record {
    all = step_named h event due held;
    pins = λ place p at. elim (opening_last h.openings (pinned_by (step h event) event) place p at) [
      | inl old ↦ held.pins place p old
      | inr new ↦ pin_named h (step h event) event p due new
    ];
  }

pub all_are_named : PlainAreWorded → (ps : Patterns) → AreTrue ps → AllAreNamed
all_are_named worded ps ok admin log legal name repository is =
    (history-keeps ps StaysNamed (stays_named worded ps ok) (new_history admin) log (legal ps ok) (record { all = start_named admin; pins = λ place p at. absurd cc })).all name repository is
