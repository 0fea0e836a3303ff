-- The conf in force along a log.
use Rattle.std.proofs.Common.{◌≡◌, ℕ, suc, Bool, true, false, ◌&&◌, List, [], ◌∷◌, ◌++◌, refl, sym, ◌∙◌, ap, subst}
use Rattle.std.specs.Prelude.{Option, Some, None, if◌then◌else◌}
use Rattle.std.specs.List.{slice_get}
use Rattle.git_object.specs.Content.{Content}
use Rattle.ref_store.specs.Refs.{Name}
use Rattle.ref_store.specs.declared.command.Command.{Command}
use Rattle.ref_store.proofs.ObjectLemmas.{same_bytes}
use Rattle.rule_compile.specs.Patterns.{AreTrue, Patterns}
use Rattle.hub_history.specs.declared.outcome.Outcome.{Outcome}
use Rattle.hub_history.specs.declared.outcome.Outcome.TheVariants.{Done}
use Rattle.hub_history.specs.declared.entry.Entry.{Entry}
use Rattle.hub_history.specs.declared.entry.EnterKept.{EnterKept}
use Rattle.hub_history.specs.declared.entry.EnterKept.TheVariants.{Granted, Created, Denied, NoRepo}
use Rattle.hub_history.specs.declared.entry.PermChange.{PermChange}
use Rattle.hub_history.specs.declared.entry.PermsKept.{PermsKept}
use Rattle.hub_history.specs.declared.entry.PermsKept.TheVariants.{Changed, AlreadySo, NotWild, NotCreator, NoSuchRole, Listed}
use Rattle.hub_history.specs.declared.entry.Event.{Event}
use Rattle.hub_history.specs.declared.entry.Event.TheVariants.{Entered, Pushed, Permitted, Looked}
use Rattle.hub_history.specs.Conf.{AreInForce}
use Rattle.hub_history.specs.History.{History, IsDue, IsDueAfter, IsLegal, after_push, history, new_history, opening_at, push_change, replay, step}
use Rattle.hub_history.specs.Laws.{HasRules, TellsCommand}
use Rattle.hub_history.specs.Opening.{Pinned, made_by}
use Rattle.hub_history.specs.Push.{Makes, conf_put, is_done, is_of_conf}
use Rattle.hub_history.specs.Roles.{given_by}
use Rattle.hub_history.specs.State.{CommitAmong, Conf, State, changed, conf_after, conf_branch, conf_repository, same_name, start}
use Rattle.hub_history.proofs.HistoryLemmas.{history-keeps}
use Rattle.hub_history.proofs.MovedLogs.{behind}
use Rattle.hub_history.proofs.MovedRefs.{done_is}

-- ---- what changes no conf

opening_conf : (state : State) (user repo : Name) (answer : EnterKept) → (changed state (made_by user repo answer)).conf ≡ state.conf
opening_conf state user repo Granted = refl
opening_conf state user repo Created = refl
opening_conf state user repo (Denied verdict) = refl
opening_conf state user repo NoRepo = refl

given_conf : (state : State) (repo : Name) (asked : PermChange) (answer : PermsKept) → (changed state (given_by state repo asked answer)).conf ≡ state.conf
given_conf state repo asked Changed = refl
given_conf state repo asked AlreadySo = refl
given_conf state repo asked NotWild = refl
given_conf state repo asked NotCreator = refl
given_conf state repo asked NoSuchRole = refl
given_conf state repo asked Listed = refl

push_conf : (state : State) (pinned : Pinned) (pack : List Content) (cs : List Command) (os : List Outcome) (made : List Name) → (changed state (push_change state pinned pack cs os made)).conf ≡ conf_after state.conf (conf_put pinned pack cs os)
unfolding push_change
push_conf state pinned pack cs os made = refl

-- ---- it stays good

module _ (ps : Patterns) where
  good_after : (state : State) (put : Option CommitAmong) (made : List Name) → Makes ps state put made → HasRules ps state → HasRules ps (record state { conf = conf_after state.conf put })
  good_after state None made makes good = good
  good_after state (Some commit) made makes good = (makes.0, makes.1)

  same_conf : (old new : State) → new.conf ≡ old.conf → HasRules ps old → HasRules ps new
  same_conf old new same good = (good.0, subst (λ (c : Conf). AreInForce ps c good.0) (sym same) good.1)

  good_step : (h : History) (event : Event) → IsDue ps h event → HasRules ps h.state → HasRules ps (step h event)
  good_step h (Entered user repo want answer) due good = same_conf h.state (step h (Entered user repo want answer)) (opening_conf h.state user repo answer) good
  good_step h (Pushed place pack cs atomic os made) due good = by_opening (opening_at h place) due
    where
      by_opening : (o : Option Pinned) → IsDueAfter ps h.state o pack cs atomic os made → HasRules ps (after_push h.state o pack cs os made)
      by_opening None due = absurd due
      by_opening (Some pinned) due =
          same_conf (record h.state { conf = conf_after h.state.conf (conf_put pinned pack cs os) }) (changed h.state (push_change h.state pinned pack cs os made)) (push_conf h.state pinned pack cs os made)
          (good_after h.state (conf_put pinned pack cs os) made due.makes good)
  good_step h (Permitted user repo asked answer) due good = same_conf h.state (step h (Permitted user repo asked answer)) (given_conf h.state repo asked answer) good
  good_step h (Looked user) due good = good

  pub stays_good : AreTrue ps → (admin : Name) (log : List Entry) → IsLegal admin log → HasRules ps (start admin) → HasRules ps (replay admin log)
  stays_good ok admin log legal good = history-keeps ps (λ (h : History). HasRules ps h.state) good_step (new_history admin) log (legal ps ok) good

-- ---- what changes it

-- the command by which a conf is put in force
record IsPut (pinned : Pinned) (pack : List Content) (cs : List Command) (os : List Outcome) (commit : CommitAmong) : Type 0 where
  index : ℕ
  command : Command
  command_is : slice_get cs index ≡ Some command
  outcome_is : slice_get os index ≡ Some Done
  repo_is : pinned.repo ≡ conf_repository
  name_is : command.name ≡ conf_branch
  commit_is : commit ≡ record { objects = pinned.repository.objects ++ pack; commit = command.new }

both_true : (a b : Bool) → (a && b) ≡ true → (a ≡ true) × (b ≡ true)
both_true true b is = (refl, is)
both_true false b is = absurd cc

some_is : {a b : CommitAmong} → Some a ≡ Some b → b ≡ a
some_is {a} {b} same = cc

put_is : (pinned : Pinned) (pack : List Content) (cs : List Command) (os : List Outcome) (commit : CommitAmong) → conf_put pinned pack cs os ≡ Some commit → IsPut pinned pack cs os commit
put_is pinned pack [] os commit is = absurd cc
put_is pinned pack (c ∷ cs) [] commit is = absurd cc
put_is pinned pack (c ∷ cs) (o ∷ os) commit is = by_test (is_of_conf pinned.repo c.name && is_done o) refl is (put_is pinned pack cs os commit)
  where
    by_test : (b : Bool) → (is_of_conf pinned.repo c.name && is_done o) ≡ b
        → (if b then Some (record { objects = pinned.repository.objects ++ pack; commit = c.new }) else conf_put pinned pack cs os) ≡ Some commit
        → (conf_put pinned pack cs os ≡ Some commit → IsPut pinned pack cs os commit) → IsPut pinned pack (c ∷ cs) (o ∷ os) commit
    by_test true test put rest =
        let parts = both_true (is_of_conf pinned.repo c.name) (is_done o) test in
        let names = both_true (same_name conf_repository pinned.repo) (same_name conf_branch c.name) parts.0 in
        record {
          index = 0;
          command = c;
          command_is = refl;
          outcome_is = ap (λ (x : Outcome). Some x) (done_is o parts.1);
          repo_is = sym (same_bytes conf_repository pinned.repo names.0);
          name_is = sym (same_bytes conf_branch c.name names.1);
          commit_is = some_is put;
        }
    by_test false test put rest =
        let later = rest put in
        record {
          index = suc later.index;
          command = later.command;
          command_is = later.command_is;
          outcome_is = later.outcome_is;
          repo_is = later.repo_is;
          name_is = later.name_is;
          commit_is = later.commit_is;
        }

module _ (admin : Name) (before : List Entry) (entry : Entry) (differs : ¬ ((replay admin (before ++ entry ∷ [])).conf ≡ (replay admin before).conf)) where
  pub conf_changes :
      (pinned : Pinned) × (command : Command) × (tells : TellsCommand admin before entry pinned command Done) × (pinned.repo ≡ conf_repository) × (command.name ≡ conf_branch)
      × ((replay admin (before ++ entry ∷ [])).conf.pushed ≡ Some (record { objects = pinned.repository.objects ++ tells.pack; commit = command.new }))
  conf_changes = by_event entry.event refl
    where
      stays : (event : Event) → entry.event ≡ event → (step (history admin before) event).conf ≡ (replay admin before).conf → ⊥
      stays event is same = differs (ap (λ (s : State). s.conf) (behind admin before entry ∙ ap (step (history admin before)) is) ∙ same)

      by_event : (event : Event) → entry.event ≡ event
          → (pinned : Pinned) × (command : Command) × (tells : TellsCommand admin before entry pinned command Done) × (pinned.repo ≡ conf_repository) × (command.name ≡ conf_branch)
          × ((replay admin (before ++ entry ∷ [])).conf.pushed ≡ Some (record { objects = pinned.repository.objects ++ tells.pack; commit = command.new }))
      by_event (Entered user to want answer) is = absurd (stays (Entered user to want answer) is (opening_conf (replay admin before) user to answer))
      by_event (Permitted user to asked answer) is = absurd (stays (Permitted user to asked answer) is (given_conf (replay admin before) to asked answer))
      by_event (Looked user) is = absurd (stays (Looked user) is refl)
      by_event (Pushed place pack cs atomic os made) is = by_opening (opening_at (history admin before) place) refl
        where
          conf_is : (o : Option Pinned) → opening_at (history admin before) place ≡ o → (replay admin (before ++ entry ∷ [])).conf ≡ (after_push (replay admin before) o pack cs os made).conf
          conf_is o at = ap (λ (s : State). s.conf) (behind admin before entry ∙ ap (step (history admin before)) is) ∙ ap (λ (p : Option Pinned). (after_push (replay admin before) p pack cs os made).conf) at

          by_put : (pinned : Pinned) → opening_at (history admin before) place ≡ Some pinned → (put : Option CommitAmong) → conf_put pinned pack cs os ≡ put
              → (p : Pinned) × (command : Command) × (tells : TellsCommand admin before entry p command Done) × (p.repo ≡ conf_repository) × (command.name ≡ conf_branch)
              × ((replay admin (before ++ entry ∷ [])).conf.pushed ≡ Some (record { objects = p.repository.objects ++ tells.pack; commit = command.new }))
          by_put pinned at None none = absurd (differs (conf_is (Some pinned) at ∙ push_conf (replay admin before) pinned pack cs os made ∙ ap (conf_after (replay admin before).conf) none))
          by_put pinned at (Some commit) some =
              let found = put_is pinned pack cs os commit some in (
                pinned,
                found.command,
                record {
                  place = place;
                  pack = pack;
                  commands = cs;
                  atomic = atomic;
                  outcomes = os;
                  made = made;
                  is_push = is;
                  opening = at;
                  index = found.index;
                  command_is = found.command_is;
                  outcome_is = found.outcome_is;
                },
                found.repo_is,
                found.name_is,
                ap (λ (c : Conf). c.pushed) (conf_is (Some pinned) at ∙ push_conf (replay admin before) pinned pack cs os made ∙ ap (conf_after (replay admin before).conf) some)
                    ∙ ap (λ (c : CommitAmong). Some c) found.commit_is,
              )

          by_opening : (o : Option Pinned) → opening_at (history admin before) place ≡ o
              → (p : Pinned) × (command : Command) × (tells : TellsCommand admin before entry p command Done) × (p.repo ≡ conf_repository) × (command.name ≡ conf_branch)
              × ((replay admin (before ++ entry ∷ [])).conf.pushed ≡ Some (record { objects = p.repository.objects ++ tells.pack; commit = command.new }))
          by_opening None at = absurd (differs (conf_is None at))
          by_opening (Some pinned) at = by_put pinned at (conf_put pinned pack cs os) refl
