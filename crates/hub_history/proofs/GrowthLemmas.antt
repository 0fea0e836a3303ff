-- Repositories only grow.
use Rattle.std.proofs.Common.{◌≡◌, List, [], ◌∷◌, ◌++◌, refl, sym, ◌∙◌, ap, subst, Bool, true, false, cond, append_assoc, append-nil, filter}
use Rattle.std.specs.Prelude.{Option, Some, None, if◌then◌else◌, is_none}
use Rattle.std.specs.List.{AllByRecursion, list_any}
use Rattle.std.specs.Option.{unwrap_or}
use Rattle.std.specs.Ordering.{nat_cmp, eq_by_cmp}
use Rattle.std.specs.Cmp.Lexicographic.{slice_cmp, nat_list_cmp_total, texts_ties}
use Rattle.std.specs.FinMap.{get, insert, get-insert}
use Rattle.base_types.specs.Names.{ByName}
use Rattle.git_object.specs.Content.{Content}
use Rattle.ref_store.specs.Objects.{with_pack}
use Rattle.ref_store.specs.Refs.{Name}
use Rattle.ref_store.specs.declared.command.Command.{Command}
use Rattle.ref_store.proofs.ObjectLemmas.{same_bytes}
use Rattle.rule_compile.specs.Patterns.{AreTrue, Patterns}
use Rattle.access_check.specs.Users.{asked}
use Rattle.access_check.specs.Verdicts.{first_stage}
use Rattle.access_check.specs.declared.verdicts.Verdict.{Verdict}
use Rattle.access_check.specs.declared.verdicts.Verdict.TheVariants.{Allowed, DeniedBy, Fallthru}
use Rattle.access_check.specs.declared.verdicts.Want.{Want}
use Rattle.hub_history.specs.declared.outcome.Outcome.{Outcome}
use Rattle.hub_history.specs.declared.entry.Entry.{Entry}
use Rattle.hub_history.specs.declared.entry.EnterKept.{EnterKept}
use Rattle.hub_history.specs.declared.entry.EnterKept.TheVariants.{Granted, Created, Denied, NoRepo}
use Rattle.hub_history.specs.declared.entry.PermChange.{PermChange}
use Rattle.hub_history.specs.declared.entry.PermsKept.{PermsKept}
use Rattle.hub_history.specs.declared.entry.PermsKept.TheVariants.{Changed, AlreadySo, NotWild, NotCreator, NoSuchRole, Listed}
use Rattle.hub_history.specs.declared.entry.Event.{Event}
use Rattle.hub_history.specs.declared.entry.Event.TheVariants.{Entered, Pushed, Permitted, Looked}
use Rattle.hub_history.specs.History.{History, IsDue, IsDueAfter, IsLegal, IsLegalFrom, after, after_push, history, history_from, made_empty, new_history, opening_at, push_change, replay, step}
use Rattle.hub_history.specs.Opening.{IsDueOpening, Pinned, answer_by, by_verdict, made_by}
use Rattle.hub_history.specs.Push.{Makes, conf_put, is_done, is_lacking, refs_left}
use Rattle.hub_history.specs.Roles.{given_by, roles_after}
use Rattle.hub_history.specs.State.{CommitAmong, Repository, State, changed, empty_repository, placed_in, put_in_place, repository_at, wild_of}
use Rattle.hub_history.proofs.HistoryLemmas.{history_from-append, legal_behind}
use Rattle.hub_history.proofs.GrownObjects.{with_pack-more}
use Rattle.hub_history.proofs.WholeRefs.{Begins}

-- ---- lists

pub begins_itself : (os : List Content) → Begins os os
begins_itself os = ([], sym (append-nil os))

pub begins_through : (a b c : List Content) → Begins a b → Begins b c → Begins a c
begins_through a b c ab bc = (ab.0 ++ bc.0, bc.1 ∙ ap (λ os. os ++ bc.0) ab.1 ∙ append_assoc a ab.0 bc.0)

-- ---- what a repository becomes

-- It goes on as a repository that is there with the same creator, whose objects begin with those that it had;
-- or it isn't there.
pub record GoesOn (was is : Repository) : Type 0 where
  pub objects : Begins was.objects is.objects
  pub creator : is.creator ≡ was.creator

pub goes_itself : (r : Repository) → GoesOn r r
goes_itself r = record { objects = begins_itself r.objects; creator = refl }

goes_through : (a b c : Repository) → GoesOn a b → GoesOn b c → GoesOn a c
goes_through a b c ab bc = record { objects = begins_through a.objects b.objects c.objects ab.objects bc.objects; creator = bc.creator ∙ ab.creator }

-- what is there by a name goes on, and stays there
abbrev pub Follows : Option Repository → Option Repository → Type 0
Follows None now = Unit {0}
Follows (Some was) None = ⊥
Follows (Some was) (Some is) = GoesOn was is

follows_itself : (o : Option Repository) → Follows o o
follows_itself None = tt
follows_itself (Some r) = goes_itself r

follows_through : (a b c : Option Repository) → Follows a b → Follows b c → Follows a c
follows_through None b c ab bc = tt
follows_through (Some x) None c ab bc = absurd ab
follows_through (Some x) (Some y) None ab bc = absurd bc
follows_through (Some x) (Some y) (Some z) ab bc = goes_through x y z ab bc

-- each repository goes on
abbrev pub Grows : State → State → Type 0
Grows old new = (name : Name) → Follows (get old.repositories name) (get new.repositories name)

-- ---- what is put in place

-- a repository that is put in place goes on as what is there by its name
abbrev pub Fits : ByName Repository → Name × Repository → Type 0
Fits known placed = Follows (get known placed.0) (Some placed.1)

module _ (known : ByName Repository) where
  insert_follows : (later : ByName Repository) (name : Name) (repository : Repository) → Follows (get known name) (Some repository) → (q : Name) → Follows (get known q) (get later q) → Follows (get known q) (get (insert later name repository) q)
  insert_follows later name repository fits q rest =
      subst (Follows (get known q)) (sym (get-insert nat_list_cmp_total later name repository q)) (by_name (eq_by_cmp (slice_cmp nat_cmp) q name) refl)
    where
      by_name : (b : Bool) → eq_by_cmp (slice_cmp nat_cmp) q name ≡ b → Follows (get known q) (cond b (Some repository) (get later q))
      by_name true same = subst (λ (n : Name). Follows (get known n) (Some repository)) (sym (same_bytes q name (texts_ties q name ∙ same))) fits
      by_name false other = rest

  pub placed_follows : (list : List (Name × Repository)) → AllByRecursion (Fits known) list → (q : Name) → Follows (get known q) (get (placed_in known list) q)
  placed_follows [] all q = follows_itself (get known q)
  placed_follows (n ∷ ns) all q = insert_follows (placed_in known ns) n.0 n.1 all.0 q (placed_follows ns all.1 q)

-- ---- openings

never_created : (v : Verdict) → Created ≡ by_verdict v Granted → ⊥
never_created (Allowed seq) is = cc
never_created (DeniedBy seq) is = cc
never_created Fallthru is = cc

-- a repository that is made wasn't there
pub made_anew : (ps : Patterns) (state : State) (user repo : Name) (want : Want) → IsDueOpening ps state user repo want Created → get state.repositories repo ≡ None
made_anew ps state user repo want due = by_get (get state.repositories repo) refl due.2
  where
    by_get : (o : Option Repository) → get state.repositories repo ≡ o → Created ≡ answer_by ps due.0 o user repo want → o ≡ None
    by_get None is answer = refl
    by_get (Some r) is answer = absurd (never_created (first_stage ps due.0 (asked ps due.0 (wild_of r) repo user) want) answer)

grows-opening : (ps : Patterns) (state : State) (user repo : Name) (want : Want) (answer : EnterKept) → IsDueOpening ps state user repo want answer → Grows state (changed state (made_by user repo answer))
grows-opening ps state user repo want Granted due q = follows_itself (get state.repositories q)
grows-opening ps state user repo want Created due q =
    insert_follows state.repositories state.repositories repo (empty_repository (Some user)) (subst (λ (o : Option Repository). Follows o (Some (empty_repository (Some user)))) (sym (made_anew ps state user repo want due)) tt) q (follows_itself (get state.repositories q))
grows-opening ps state user repo want (Denied verdict) due q = follows_itself (get state.repositories q)
grows-opening ps state user repo want NoRepo due q = follows_itself (get state.repositories q)

-- ---- roles

same_as : (state : State) (repo : Name) (next : Repository) → GoesOn (repository_at state repo) next → Follows (get state.repositories repo) (Some next)
same_as state repo next goes = by_get (get state.repositories repo) refl
  where
    by_get : (o : Option Repository) → get state.repositories repo ≡ o → Follows o (Some next)
    by_get None is = tt
    by_get (Some r) is = subst (λ (s : Repository). GoesOn s next) (ap (λ (o : Option Repository). unwrap_or o (empty_repository None)) is) goes

pub grows-given : (state : State) (repo : Name) (asked : PermChange) (answer : PermsKept) → Grows state (changed state (given_by state repo asked answer))
grows-given state repo asked Changed q =
    insert_follows state.repositories state.repositories repo _
    (same_as state repo (record (repository_at state repo) { roles = roles_after (repository_at state repo).roles asked }) (record { objects = begins_itself (repository_at state repo).objects; creator = refl })) q (follows_itself (get state.repositories q))
grows-given state repo asked AlreadySo q = follows_itself (get state.repositories q)
grows-given state repo asked NotWild q = follows_itself (get state.repositories q)
grows-given state repo asked NotCreator q = follows_itself (get state.repositories q)
grows-given state repo asked NoSuchRole q = follows_itself (get state.repositories q)
grows-given state repo asked Listed q = follows_itself (get state.repositories q)

-- ---- pushes

-- what a conf makes wasn't there
abbrev pub AreLacking : State → List Name → Type 0
AreLacking state names = AllByRecursion (λ (name : Name). get state.repositories name ≡ None) names

lacking_none : (o : Option Repository) → is_none o ≡ true → o ≡ None
lacking_none None is = refl
lacking_none (Some r) is = absurd cc

lacking_filtered : (state : State) (names : List Name) → AreLacking state (filter (is_lacking state) names)
lacking_filtered state [] = tt
lacking_filtered state (n ∷ ns) = by_test (is_lacking state n) refl (lacking_filtered state ns)
  where
    by_test : (b : Bool) → is_lacking state n ≡ b → AreLacking state (filter (is_lacking state) ns) → AreLacking state (cond b (n ∷ filter (is_lacking state) ns) (filter (is_lacking state) ns))
    by_test true lacks rest = (lacking_none (get state.repositories n) lacks, rest)
    by_test false there rest = rest

pub makes_lacking : (ps : Patterns) (state : State) (put : Option CommitAmong) (made : List Name) → Makes ps state put made → AreLacking state made
makes_lacking ps state None made is = subst (AreLacking state) (sym is) tt
makes_lacking ps state (Some commit) made makes = subst (AreLacking state) (sym makes.2) (lacking_filtered state makes.0.plain)

made_fit : (state : State) (made : List Name) → AreLacking state made → AllByRecursion (Fits state.repositories) (made_empty made)
made_fit state [] all = tt
made_fit state (n ∷ ns) all = (subst (λ (o : Option Repository). Follows o (Some (empty_repository None))) (sym all.0) tt, made_fit state ns all.1)

pub grows-push : (state : State) (pinned : Pinned) (pack : List Content) (commands : List Command) (outcomes : List Outcome) (made : List Name) → AreLacking state made → Grows state (changed state (push_change state pinned pack commands outcomes made))
unfolding push_change
grows-push state pinned pack commands outcomes made lacking q = by_done (list_any is_done outcomes)
  where
    by_done : (b : Bool) → Follows (get state.repositories q) (get (placed_in state.repositories (put_in_place pinned.repo (if b then Some (record (repository_at state pinned.repo) { objects = with_pack (repository_at state pinned.repo).objects pack; refs = refs_left (repository_at state pinned.repo).refs commands outcomes }) else None) ++ made_empty made)) q)
    by_done true =
        insert_follows state.repositories (placed_in state.repositories (made_empty made)) pinned.repo _
        (same_as state pinned.repo _ (record { objects = with_pack-more (repository_at state pinned.repo).objects pack; creator = refl })) q (placed_follows state.repositories (made_empty made) (made_fit state made lacking) q)
    by_done false = placed_follows state.repositories (made_empty made) (made_fit state made lacking) q

-- ---- along a log

module _ (ps : Patterns) where
  pub grows-step : (h : History) (event : Event) → IsDue ps h event → Grows h.state (step h event)
  grows-step h (Entered user repo want answer) due = grows-opening ps h.state user repo want answer due.1
  grows-step h (Pushed place pack commands atomic outcomes made) due = by_opening (opening_at h place) due
    where
      by_opening : (o : Option Pinned) → IsDueAfter ps h.state o pack commands atomic outcomes made → Grows h.state (after_push h.state o pack commands outcomes made)
      by_opening None due = absurd due
      by_opening (Some pinned) due = grows-push h.state pinned pack commands outcomes made (makes_lacking ps h.state (conf_put pinned pack commands outcomes) made due.makes)
  grows-step h (Permitted user repo asked answer) due = grows-given h.state repo asked answer
  grows-step h (Looked user) due = λ q. follows_itself (get h.state.repositories q)

  grows-log : (h : History) (more : List Entry) → IsLegalFrom ps h more → Grows h.state (history_from h more).state
  grows-log h [] legal q = follows_itself (get h.state.repositories q)
  grows-log h (e ∷ more) legal q = follows_through (get h.state.repositories q) (get (step h e.event).repositories q) (get (history_from (after h e.event) more).state.repositories q) (grows-step h e.event legal.0 q) (grows-log (after h e.event) more legal.1 q)

  pub log_grows : AreTrue ps → (admin : Name) (log more : List Entry) → IsLegal admin (log ++ more) → Grows (replay admin log) (replay admin (log ++ more))
  log_grows ok admin log more legal =
      subst (λ (h : History). Grows (replay admin log) h.state) (sym (history_from-append (new_history admin) log more)) (grows-log (history admin log) more (legal_behind ps (new_history admin) log more (legal ps ok)))

-- what follows of the repositories by their names
pub objects_follow : (old new : State) → Grows old new → (name : Name) → Begins (repository_at old name).objects (repository_at new name).objects
objects_follow old new grows name = by_get (get old.repositories name) (get new.repositories name) (grows name)
  where
    by_get : (a b : Option Repository) → Follows a b → Begins (unwrap_or a (empty_repository None)).objects (unwrap_or b (empty_repository None)).objects
    by_get None b follows = ((unwrap_or b (empty_repository None)).objects, refl)
    by_get (Some was) None follows = absurd follows
    by_get (Some was) (Some is) follows = follows.objects

pub stays_there : (old new : State) → Grows old new → (name : Name) (was : Repository) → get old.repositories name ≡ Some was → (is : Repository) × (get new.repositories name ≡ Some is) × (is.creator ≡ was.creator)
stays_there old new grows name was there = by_get (get new.repositories name) refl (subst (λ (o : Option Repository). Follows o (get new.repositories name)) there (grows name))
  where
    by_get : (o : Option Repository) → get new.repositories name ≡ o → Follows (Some was) o → (is : Repository) × (get new.repositories name ≡ Some is) × (is.creator ≡ was.creator)
    by_get None here follows = absurd follows
    by_get (Some is) here follows = (is, here, follows.creator)
