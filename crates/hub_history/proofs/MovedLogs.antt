-- What happens to a ref along a log.
use Rattle.std.proofs.Common.{◌≡◌, ℕ, Bool, true, false, cond, ◌&&◌, ◌||◌, List, [], ◌∷◌, ◌++◌, refl, sym, ◌∙◌, ap, subst}
use Rattle.std.specs.Prelude.{Option, Some, None, if◌then◌else◌}
use Rattle.std.specs.List.{list_any, slice_get}
use Rattle.std.specs.Option.{unwrap_or}
use Rattle.std.specs.Ordering.{nat_cmp, eq_by_cmp}
use Rattle.std.specs.Cmp.Lexicographic.{bytes_decides, slice_cmp, nat_list_cmp_total, texts_ties}
use Rattle.std.specs.FinMap.{get, insert, get-insert}
use Rattle.base_types.specs.Names.{ByName}
use Rattle.git_object.specs.Content.{Content}
use Rattle.git_object.specs.declared.object_id.ObjectId.{ObjectId}
use Rattle.ancestry.specs.declared.facts.Facts.{Facts}
use Rattle.ref_store.specs.Objects.{with_pack}
use Rattle.ref_store.specs.Refs.{Name, value}
use Rattle.ref_store.specs.declared.command.Command.{Command}
use Rattle.rule_compile.specs.Flat.{Flat}
use Rattle.rule_compile.specs.Patterns.{AreTrue, Patterns}
use Rattle.rule_compile.specs.declared.rule.Rule.{Rule}
use Rattle.access_check.specs.Users.{Asked, asked}
use Rattle.access_check.specs.declared.verdicts.Want.{Want}
use Rattle.vref.specs.Facts.{AreFacts}
use Rattle.update_check.specs.Laws.{ExactlyWhereLet, LetsBeMade}
use Rattle.update_check.specs.Rules.{RulesSay}
use Rattle.update_check.specs.declared.refusal.Refusal.{Refusal}
use Rattle.update_check.specs.declared.refusal.Refusal.TheVariants as refusal
use Rattle.hub_history.specs.declared.outcome.Outcome.{Outcome}
use Rattle.hub_history.specs.declared.outcome.Outcome.TheVariants.{Done, Stale}
use Rattle.hub_history.specs.declared.entry.Entry.{Entry}
use Rattle.hub_history.specs.declared.entry.EnterKept.{EnterKept}
use Rattle.hub_history.specs.declared.entry.EnterKept.TheVariants.{Granted, Created, Denied, NoRepo}
use Rattle.hub_history.specs.declared.entry.PermChange.{PermChange}
use Rattle.hub_history.specs.declared.entry.PermsKept.{PermsKept}
use Rattle.hub_history.specs.declared.entry.PermsKept.TheVariants.{Changed, AlreadySo, NotWild, NotCreator, NoSuchRole, Listed}
use Rattle.hub_history.specs.declared.entry.Event.{Event}
use Rattle.hub_history.specs.declared.entry.Event.TheVariants.{Entered, Pushed, Permitted, Looked}
use Rattle.hub_history.specs.Conf.{AreInForce}
use Rattle.hub_history.specs.History.{History, IsDue, IsDueAfter, IsDuePush, IsLegal, after_push, history, made_empty, new_history, opening_at, push_change, replay, step}
use Rattle.hub_history.specs.Laws.{TellsCommand, ref_in}
use Rattle.hub_history.specs.Opening.{IsDueOpening, Pinned, made_by}
use Rattle.hub_history.specs.Push.{JudgesAtPush, Makes, conf_put, is_done, is_of_conf, outcome_now, outcome_of, outcomes_in, refs_left}
use Rattle.hub_history.specs.Roles.{given_by, roles_after}
use Rattle.hub_history.specs.State.{CommitAmong, InForce, Repository, State, changed, empty_repository, in_force, placed_in, put_in_place, repository_at, wild_of}
use Rattle.hub_history.proofs.GrowthLemmas.{AreLacking, made_anew, makes_lacking}
use Rattle.hub_history.proofs.HistoryLemmas.{history_from-append, legal_behind}
use Rattle.hub_history.proofs.JudgeLemmas.{IsUntold, untold}
use Rattle.hub_history.proofs.MovedRefs.{changed_by, done_among, done_by_refs, done_is, done_met, none_done, stale_met}

-- ---- names

pub same_key : (q k : Name) → eq_by_cmp (slice_cmp nat_cmp) q k ≡ true → q ≡ k
same_key q k same = (bytes_decides q k).0 (texts_ties q k ∙ same)

pub key_itself : (k : Name) → eq_by_cmp (slice_cmp nat_cmp) k k ≡ true
key_itself k = sym (texts_ties k k) ∙ (bytes_decides k k).1 refl

-- ---- a repository in its place

abbrev pub found_in : ByName Repository → Name → Repository
found_in known name = unwrap_or (get known name) (empty_repository None)

pub insert_here : (known : ByName Repository) (k : Name) (r : Repository) → found_in (insert known k r) k ≡ r
insert_here known k r = ap (λ (o : Option Repository). unwrap_or o (empty_repository None)) (get-insert nat_list_cmp_total known k r k ∙ ap (λ (b : Bool). cond b (Some r) (get known k)) (key_itself k))

pub insert_apart : (known : ByName Repository) (k q : Name) (r : Repository) → eq_by_cmp (slice_cmp nat_cmp) q k ≡ false → found_in (insert known k r) q ≡ found_in known q
insert_apart known k q r apart = ap (λ (o : Option Repository). unwrap_or o (empty_repository None)) (get-insert nat_list_cmp_total known k r q ∙ ap (λ (b : Bool). cond b (Some r) (get known q)) apart)

-- an empty repository that is put where none is changes what is found nowhere
insert_empty : (known : ByName Repository) (later : ByName Repository) (k q : Name) → found_in known k ≡ empty_repository None → found_in later q ≡ found_in known q → found_in (insert later k (empty_repository None)) q ≡ found_in known q
insert_empty known later k q none rest = by_name (eq_by_cmp (slice_cmp nat_cmp) q k) refl
  where
    by_name : (b : Bool) → eq_by_cmp (slice_cmp nat_cmp) q k ≡ b → found_in (insert later k (empty_repository None)) q ≡ found_in known q
    by_name false apart = insert_apart later k q (empty_repository None) apart ∙ rest
    by_name true same = let here : q ≡ k = same_key q k same in ap (found_in (insert later k (empty_repository None))) here ∙ insert_here later k (empty_repository None) ∙ sym none ∙ ap (found_in known) (sym here)

pub made_none : (state : State) (made : List Name) → AreLacking state made → (q : Name) → found_in (placed_in state.repositories (made_empty made)) q ≡ found_in state.repositories q
made_none state [] lacking q = refl
made_none state (n ∷ ns) lacking q =
    insert_empty state.repositories (placed_in state.repositories (made_empty ns)) n q (ap (λ (o : Option Repository). unwrap_or o (empty_repository None)) lacking.0) (made_none state ns lacking.1 q)

-- ---- what moves no ref

opening_moves_none : (ps : Patterns) (state : State) (user repo : Name) (want : Want) (answer : EnterKept) → IsDueOpening ps state user repo want answer → (q name : Name) → ref_in (changed state (made_by user repo answer)) q name ≡ ref_in state q name
opening_moves_none ps state user repo want Granted due q name = refl
opening_moves_none ps state user repo want (Denied verdict) due q name = refl
opening_moves_none ps state user repo want NoRepo due q name = refl
opening_moves_none ps state user repo want Created due q name = by_name (eq_by_cmp (slice_cmp nat_cmp) q repo) refl
  where
    by_name : (b : Bool) → eq_by_cmp (slice_cmp nat_cmp) q repo ≡ b → value (found_in (insert state.repositories repo (empty_repository (Some user))) q).refs name ≡ value (found_in state.repositories q).refs name
    by_name false apart = ap (λ (r : Repository). value r.refs name) (insert_apart state.repositories repo q (empty_repository (Some user)) apart)
    by_name true same =
        let here : q ≡ repo = same_key q repo same in
        let after_is : found_in (insert state.repositories repo (empty_repository (Some user))) q ≡ empty_repository (Some user) = ap (found_in (insert state.repositories repo (empty_repository (Some user)))) here ∙ insert_here state.repositories repo (empty_repository (Some user)) in
        let before_is : found_in state.repositories q ≡ empty_repository None = ap (found_in state.repositories) here ∙ ap (λ (o : Option Repository). unwrap_or o (empty_repository None)) (made_anew ps state user repo want due) in
        ap (λ (r : Repository). value r.refs name) after_is ∙ ap (λ (r : Repository). value r.refs name) (sym before_is)

given_moves_none : (state : State) (repo : Name) (asked : PermChange) (answer : PermsKept) (q name : Name) → ref_in (changed state (given_by state repo asked answer)) q name ≡ ref_in state q name
given_moves_none state repo asked AlreadySo q name = refl
given_moves_none state repo asked NotWild q name = refl
given_moves_none state repo asked NotCreator q name = refl
given_moves_none state repo asked NoSuchRole q name = refl
given_moves_none state repo asked Listed q name = refl
given_moves_none state repo asked Changed q name = by_name (eq_by_cmp (slice_cmp nat_cmp) q repo) refl
  where
    next : Repository
    next = record (repository_at state repo) { roles = roles_after (repository_at state repo).roles asked }

    by_name : (b : Bool) → eq_by_cmp (slice_cmp nat_cmp) q repo ≡ b → value (found_in (insert state.repositories repo next) q).refs name ≡ value (found_in state.repositories q).refs name
    by_name false apart = ap (λ (r : Repository). value r.refs name) (insert_apart state.repositories repo q next apart)
    by_name true same =
        let here : q ≡ repo = same_key q repo same in
        ap (λ (n : Name). value (found_in (insert state.repositories repo next) n).refs name) here
        ∙ ap (λ (r : Repository). value r.refs name) (insert_here state.repositories repo next)
        ∙ ap (λ (n : Name). value (found_in state.repositories n).refs name) (sym here)

-- ---- what a push leaves

module _ (state : State) (pinned : Pinned) (pack : List Content) (cs : List Command) (os : List Outcome) (made : List Name) where
  abbrev now : Repository
  now = repository_at state pinned.repo

  abbrev next : Repository
  next = record now { objects = with_pack now.objects pack; refs = refs_left now.refs cs os }

  pushed_done : list_any is_done os ≡ true → (name : Name) → ref_in (changed state (push_change state pinned pack cs os made)) pinned.repo name ≡ value (refs_left now.refs cs os) name
  unfolding push_change
  pushed_done some name =
      ap (λ (b : Bool). value (found_in (placed_in state.repositories (put_in_place pinned.repo (if b then Some next else None) ++ made_empty made)) pinned.repo).refs name) some
      ∙ ap (λ (r : Repository). value r.refs name) (insert_here (placed_in state.repositories (made_empty made)) pinned.repo next)

  pushed_apart : AreLacking state made → (q name : Name) → eq_by_cmp (slice_cmp nat_cmp) q pinned.repo ≡ false → ref_in (changed state (push_change state pinned pack cs os made)) q name ≡ ref_in state q name
  unfolding push_change
  pushed_apart lacking q name apart = by_done (list_any is_done os)
    where
      by_done : (b : Bool) → value (found_in (placed_in state.repositories (put_in_place pinned.repo (if b then Some next else None) ++ made_empty made)) q).refs name ≡ value (found_in state.repositories q).refs name
      by_done true = ap (λ (r : Repository). value r.refs name) (insert_apart (placed_in state.repositories (made_empty made)) pinned.repo q next apart ∙ made_none state made lacking q)
      by_done false = ap (λ (r : Repository). value r.refs name) (made_none state made lacking q)

  pushed_none : AreLacking state made → list_any is_done os ≡ false → (q name : Name) → ref_in (changed state (push_change state pinned pack cs os made)) q name ≡ ref_in state q name
  unfolding push_change
  pushed_none lacking none q name =
      ap (λ (b : Bool). value (found_in (placed_in state.repositories (put_in_place pinned.repo (if b then Some next else None) ++ made_empty made)) q).refs name) none
      ∙ ap (λ (r : Repository). value r.refs name) (made_none state made lacking q)

  nothing_changes : list_any is_done os ≡ false → conf_put pinned pack cs os ≡ None → made ≡ [] → changed state (push_change state pinned pack cs os made) ≡ state
  unfolding push_change
  nothing_changes none put none_made =
      ap (λ (b : Bool). changed state (record { repositories = put_in_place pinned.repo (if b then Some next else None) ++ made_empty made; conf = conf_put pinned pack cs os })) none
      ∙ ap (λ (c : Option CommitAmong). changed state (record { repositories = made_empty made; conf = c })) put
      ∙ ap (λ (m : List Name). changed state (record { repositories = made_empty m; conf = None })) none_made

-- where none is done no conf is put in force
pub none_put : (pinned : Pinned) (pack : List Content) (cs : List Command) (os : List Outcome) → list_any is_done os ≡ false → conf_put pinned pack cs os ≡ None
none_put pinned pack [] os none = refl
none_put pinned pack (c ∷ cs) [] none = refl
none_put pinned pack (c ∷ cs) (o ∷ os) none = by_done (is_done o) refl none (none_put pinned pack cs os)
  where
    after_of : (b : Bool) → (conf_put pinned pack cs os ≡ None) → (if b && false then Some (record { objects = pinned.repository.objects ++ pack; commit = c.new }) else conf_put pinned pack cs os) ≡ None
    after_of true rest = rest
    after_of false rest = rest

    by_done : (b : Bool) → is_done o ≡ b → (b || list_any is_done os) ≡ false → (list_any is_done os ≡ false → conf_put pinned pack cs os ≡ None)
        → (if is_of_conf pinned.repo c.name && is_done o then Some (record { objects = pinned.repository.objects ++ pack; commit = c.new }) else conf_put pinned pack cs os) ≡ None
    by_done true is any rest = absurd cc
    by_done false is any rest = ap (λ (d : Bool). if is_of_conf pinned.repo c.name && d then Some (record { objects = pinned.repository.objects ++ pack; commit = c.new }) else conf_put pinned pack cs os) is ∙ after_of (is_of_conf pinned.repo c.name) (rest any)

-- ---- the last entry of a log

pub behind : (admin : Name) (before : List Entry) (entry : Entry) → replay admin (before ++ entry ∷ []) ≡ step (history admin before) entry.event
behind admin before entry = ap (λ (h : History). h.state) (history_from-append (new_history admin) before (entry ∷ []))

pub due_last : (admin : Name) (before : List Entry) (entry : Entry) → IsLegal admin (before ++ entry ∷ []) → (ps : Patterns) → AreTrue ps → IsDue ps (history admin before) entry.event
due_last admin before entry legal ps ok = (legal_behind ps (new_history admin) before (entry ∷ []) (legal ps ok)).0

-- a push that is due, by its opening
module _ (ps : Patterns) (ok : AreTrue ps) (admin : Name) (before : List Entry) (entry : Entry) (legal : IsLegal admin (before ++ entry ∷ []))
    (place : ℕ) (pack : List Content) (cs : List Command) (atomic : Bool) (os : List Outcome) (made : List Name) (pinned : Pinned)
    (is_push : entry.event ≡ Pushed place pack cs atomic os made) (opening : opening_at (history admin before) place ≡ Some pinned) where
  abbrev state : State
  state = replay admin before

  pub due_here : IsDuePush ps state pinned pack cs atomic os made
  due_here =
      let due : IsDue ps (history admin before) (Pushed place pack cs atomic os made) = subst (IsDue ps (history admin before)) is_push (due_last admin before entry legal ps ok) in
      subst (λ (o : Option Pinned). IsDueAfter ps state o pack cs atomic os made) opening due

  pub lacking_here : AreLacking state made
  lacking_here = makes_lacking ps state (conf_put pinned pack cs os) made due_here.makes

  pub step_here : replay admin (before ++ entry ∷ []) ≡ changed state (push_change state pinned pack cs os made)
  step_here =
      behind admin before entry
      ∙ ap (step (history admin before)) is_push
      ∙ ap (λ (o : Option Pinned). after_push state o pack cs os made) opening

  abbrev pub force_here : InForce
  force_here = in_force state pinned.repo

  abbrev due_outcomes : List Outcome
  due_outcomes = outcomes_in (repository_at state pinned.repo) pack cs atomic due_here.judged

  at_told : (k : ℕ) (o : Outcome) → slice_get os k ≡ Some o → slice_get due_outcomes k ≡ Some o
  at_told k o is = ap (λ (l : List Outcome). slice_get l k) (sym due_here.told) ∙ is

  pub done_here : (k : ℕ) (c : Command) → slice_get cs k ≡ Some c → slice_get os k ≡ Some Done
      → (ref_in state pinned.repo c.name ≡ c.old) × (ref_in (replay admin (before ++ entry ∷ [])) pinned.repo c.name ≡ c.new)
  done_here k c is done =
      let met = done_met ps force_here (repository_at state pinned.repo) pinned pack cs atomic due_here.judged due_here.judges k c is (at_told k Done done) in (
        met.0,
        ap (λ (s : State). ref_in s pinned.repo c.name) step_here
            ∙ pushed_done state pinned pack cs os made (done_among os k done) c.name
            ∙ ap (λ (l : List Outcome). value (refs_left (repository_at state pinned.repo).refs cs l) c.name) due_here.told
            ∙ met.1,
      )

  pub stale_here : (k : ℕ) (c : Command) (v : ObjectId) → slice_get cs k ≡ Some c → slice_get os k ≡ Some (Stale v) → (v ≡ ref_in state pinned.repo c.name) × ¬ (v ≡ c.old)
  stale_here k c v is stale = stale_met ps force_here (repository_at state pinned.repo) pinned pack cs atomic due_here.judged due_here.judges k c v is (at_told k (Stale v) stale)

  -- neither the opening says anything of a command that is done nor the rules just before the push
  pub untold_here : (k : ℕ) (c : Command) → slice_get cs k ≡ Some c → slice_get os k ≡ Some Done → JudgesAtPush ps force_here pinned pack cs c None
  untold_here k c is done = (done_by_refs ps force_here (repository_at state pinned.repo) pinned pack cs atomic due_here.judged due_here.judges k c is (at_told k Done done)).untold

  abbrev ChangedBy : Name → Name → Type 0
  ChangedBy repo name = (p : Pinned) × (c : Command) × TellsCommand admin before entry p c Done × (p.repo ≡ repo) × (c.name ≡ name)

  pub changed_here : (repo name : Name) → ¬ (ref_in (replay admin (before ++ entry ∷ [])) repo name ≡ ref_in state repo name) → ChangedBy repo name
  changed_here repo name differs = by_repo (eq_by_cmp (slice_cmp nat_cmp) repo pinned.repo) refl
    where
      by_done : (b : Bool) → list_any is_done os ≡ b → pinned.repo ≡ repo → ChangedBy repo name
      by_done false none same = absurd (differs (ap (λ (s : State). ref_in s repo name) step_here ∙ pushed_none state pinned pack cs os made lacking_here none repo name))
      by_done true some same =
          let moved_now : ref_in (replay admin (before ++ entry ∷ [])) pinned.repo name ≡ value (refs_left (repository_at state pinned.repo).refs cs os) name =
          ap (λ (s : State). ref_in s pinned.repo name) step_here ∙ pushed_done state pinned pack cs os made some name in
          let found = changed_by (repository_at state pinned.repo).refs cs os name (λ alike.
          differs (ap (λ (r : Name). ref_in (replay admin (before ++ entry ∷ [])) r name) (sym same) ∙ moved_now ∙ alike ∙ ap (λ (r : Name). ref_in state r name) same)) in (
            pinned,
            found.1,
            record {
              place = place;
              pack = pack;
              commands = cs;
              atomic = atomic;
              outcomes = os;
              made = made;
              is_push = is_push;
              opening = opening;
              index = found.0;
              command_is = found.2;
              outcome_is = found.3;
            },
            same,
            found.4,
          )

      by_repo : (b : Bool) → eq_by_cmp (slice_cmp nat_cmp) repo pinned.repo ≡ b → ChangedBy repo name
      by_repo false apart = absurd (differs (ap (λ (s : State). ref_in s repo name) step_here ∙ pushed_apart state pinned pack cs os made lacking_here repo name apart))
      by_repo true same = by_done (list_any is_done os) refl (sym (same_key repo pinned.repo same))

-- ---- laws

module _ (ps : Patterns) (ok : AreTrue ps) (admin : Name) (before : List Entry) (entry : Entry) (legal : IsLegal admin (before ++ entry ∷ [])) where
  pub done_moves : (pinned : Pinned) (command : Command) → TellsCommand admin before entry pinned command Done
      → (ref_in (replay admin before) pinned.repo command.name ≡ command.old) × (ref_in (replay admin (before ++ entry ∷ [])) pinned.repo command.name ≡ command.new)
  done_moves pinned command t = done_here ps ok admin before entry legal t.place t.pack t.commands t.atomic t.outcomes t.made pinned t.is_push t.opening t.index command t.command_is t.outcome_is

  pub stale_is : (pinned : Pinned) (command : Command) (is : ObjectId) → TellsCommand admin before entry pinned command (Stale is) → (is ≡ ref_in (replay admin before) pinned.repo command.name) × ¬ (is ≡ command.old)
  stale_is pinned command is t = stale_here ps ok admin before entry legal t.place t.pack t.commands t.atomic t.outcomes t.made pinned t.is_push t.opening t.index command is t.command_is t.outcome_is

  pub changes_are_done : (repo name : Name) → ¬ (ref_in (replay admin (before ++ entry ∷ [])) repo name ≡ ref_in (replay admin before) repo name)
      → (p : Pinned) × (c : Command) × TellsCommand admin before entry p c Done × (p.repo ≡ repo) × (c.name ≡ name)
  changes_are_done repo name differs = by_event entry.event refl
    where
      by_opening : (place : ℕ) (pack : List Content) (cs : List Command) (atomic : Bool) (os : List Outcome) (made : List Name) (o : Option Pinned) → entry.event ≡ Pushed place pack cs atomic os made → opening_at (history admin before) place ≡ o
          → IsDueAfter ps (replay admin before) o pack cs atomic os made → (p : Pinned) × (c : Command) × TellsCommand admin before entry p c Done × (p.repo ≡ repo) × (c.name ≡ name)
      by_opening place pack cs atomic os made None is at due = absurd due
      by_opening place pack cs atomic os made (Some pinned) is at due = changed_here ps ok admin before entry legal place pack cs atomic os made pinned is at repo name differs

      same_step : (event : Event) → entry.event ≡ event → ref_in (step (history admin before) event) repo name ≡ ref_in (replay admin before) repo name → (p : Pinned) × (c : Command) × TellsCommand admin before entry p c Done × (p.repo ≡ repo) × (c.name ≡ name)
      same_step event is stays = absurd (differs (ap (λ (s : State). ref_in s repo name) (behind admin before entry ∙ ap (step (history admin before)) is) ∙ stays))

      due_of : (event : Event) → entry.event ≡ event → IsDue ps (history admin before) event
      due_of event is = subst (IsDue ps (history admin before)) is (due_last admin before entry legal ps ok)

      by_event : (event : Event) → entry.event ≡ event → (p : Pinned) × (c : Command) × TellsCommand admin before entry p c Done × (p.repo ≡ repo) × (c.name ≡ name)
      by_event (Entered user to want answer) is =
          same_step (Entered user to want answer) is (opening_moves_none ps (replay admin before) user to want answer (due_of (Entered user to want answer) is).1 repo name)
      by_event (Pushed place pack cs atomic os made) is = by_opening place pack cs atomic os made (opening_at (history admin before) place) is refl (due_of (Pushed place pack cs atomic os made) is)
      by_event (Permitted user to asked answer) is = same_step (Permitted user to asked answer) is (given_moves_none (replay admin before) to asked answer repo name)
      by_event (Looked user) is = same_step (Looked user) is refl

-- rules that say nothing of a change let it be made
module _ (exactly : (ps : Patterns) (rules : List Rule) (a : Asked) (objects : List Content) (change : Command) → ExactlyWhereLet ps rules a objects change) (ps : Patterns) where
  lets_silent : (rules : List Rule) (a : Asked) (objects : List Content) (change : Command) (refused : Option Refusal) → refused ≡ None → RulesSay ps rules a objects change refused
      → (facts : Facts) → AreFacts objects change.name change.old change.new facts → LetsBeMade ps rules a objects change facts
  lets_silent rules a objects change refused none says facts are = (exactly ps rules a objects change).only facts are (subst (RulesSay ps rules a objects change) none says)

  none_refused : (o : Option Refusal) → None ≡ outcome_of o → o ≡ None
  none_refused None is = refl
  none_refused (Some (refusal.Denied verdict letter name)) is = absurd cc
  none_refused (Some refusal.ManyPaths) is = absurd cc

  none_refused_now : (o : Option Refusal) → None ≡ outcome_now o → o ≡ None
  none_refused_now None is = refl
  none_refused_now (Some (refusal.Denied verdict letter name)) is = absurd cc
  none_refused_now (Some refusal.ManyPaths) is = absurd cc

  -- a command that is done was let be made
  module _ (ok : AreTrue ps) (admin : Name) (before : List Entry) (entry : Entry) (legal : IsLegal admin (before ++ entry ∷ [])) (pinned : Pinned) (command : Command) (t : TellsCommand admin before entry pinned command Done) where
    abbrev objects : List Content
    objects = pinned.repository.objects ++ t.pack

    none_done_told : IsUntold ps (in_force (replay admin before) pinned.repo) pinned t.pack t.commands command
    none_done_told =
        untold ps (in_force (replay admin before) pinned.repo) pinned t.pack t.commands command (untold_here ps ok admin before entry legal t.place t.pack t.commands t.atomic t.outcomes t.made pinned t.is_push t.opening t.index command t.command_is t.outcome_is)

    pub done_let :
        (rules : Flat) × AreInForce ps pinned.conf rules × ((facts : Facts) → AreFacts objects command.name command.old command.new facts
        → LetsBeMade ps rules.rules (asked ps rules (wild_of pinned.repository) pinned.repo pinned.user) objects command facts)
    done_let =
        let rules = none_done_told.rules in
        (rules.0, rules.2, lets_silent rules.0.rules (asked ps rules.0 (wild_of pinned.repository) pinned.repo pinned.user) objects command rules.1 (none_refused rules.1 rules.4) rules.3)

    pub done_let_now :
        (rules : Flat) × AreInForce ps (replay admin before).conf rules × ((facts : Facts) → AreFacts objects command.name command.old command.new facts
        → LetsBeMade ps rules.rules (asked ps rules (wild_of (repository_at (replay admin before) pinned.repo)) pinned.repo pinned.user) objects command facts)
    done_let_now =
        let rules = none_done_told.now in
        (rules.0, rules.2, lets_silent rules.0.rules (asked ps rules.0 (wild_of (repository_at (replay admin before) pinned.repo)) pinned.repo pinned.user) objects command rules.1 (none_refused_now rules.1 rules.4) rules.3)

pub refused_atomic : (ps : Patterns) (ok : AreTrue ps) (admin : Name) (before : List Entry) (caller place : ℕ) (pack : List Content) (commands : List Command) (outcomes : List Outcome) (made : List Name) (index : ℕ) (outcome : Outcome)
    → IsLegal admin (before ++ record { caller = caller; event = Pushed place pack commands true outcomes made } ∷ []) → slice_get outcomes index ≡ Some outcome → ¬ (outcome ≡ Done)
    → replay admin (before ++ record { caller = caller; event = Pushed place pack commands true outcomes made } ∷ []) ≡ replay admin before
refused_atomic ps ok admin before caller place pack commands outcomes made index outcome legal at refused =
    by_opening (opening_at (history admin before) place) refl (due_last admin before (record { caller = caller; event = Pushed place pack commands true outcomes made }) legal ps ok)
  where
    entry : Entry
    entry = record { caller = caller; event = Pushed place pack commands true outcomes made }

    not_done : (b : Bool) → is_done outcome ≡ b → b ≡ false
    not_done true is = absurd (refused (done_is outcome is))
    not_done false is = refl

    by_opening : (o : Option Pinned) → opening_at (history admin before) place ≡ o → IsDueAfter ps (replay admin before) o pack commands true outcomes made → replay admin (before ++ entry ∷ []) ≡ replay admin before
    by_opening None is due = absurd due
    by_opening (Some pinned) is due =
        let none : list_any is_done outcomes ≡ false =
        ap (list_any is_done) due.told ∙ none_done (repository_at (replay admin before) pinned.repo) pack commands due.judged index outcome (ap (λ (l : List Outcome). slice_get l index) (sym due.told) ∙ at) (not_done (is_done outcome) refl) in
        let put : conf_put pinned pack commands outcomes ≡ None = none_put pinned pack commands outcomes none in
        let none_made : made ≡ [] = subst (λ (c : Option CommitAmong). Makes ps (replay admin before) c made) put due.makes in
        step_here ps ok admin before entry legal place pack commands true outcomes made pinned refl is ∙ nothing_changes (replay admin before) pinned pack commands outcomes made none put none_made
