-- What a command that is done says of the conf and of its opening; and that pushes are at openings for
-- writing.
use Rattle.std.proofs.Common.{◌≡◌, ◌≤◌, ℕ, zero, suc, Bool, true, false, ◌&&◌, List, [], ◌∷◌, ◌++◌, refl, sym, ◌∙◌, ap, subst}
use Rattle.std.specs.Prelude.{Option, Some, None, if◌then◌else◌}
use Rattle.std.specs.List.{count_by, slice_get}
use Rattle.git_object.specs.Content.{Content}
use Rattle.ref_store.specs.Refs.{Name, value}
use Rattle.ref_store.specs.declared.command.Command.{Command}
use Rattle.ref_store.proofs.ObjectLemmas.{id_is}
use Rattle.rule_compile.specs.Patterns.{AreTrue, Patterns}
use Rattle.hub_history.specs.declared.outcome.Outcome.{Outcome}
use Rattle.hub_history.specs.declared.outcome.Outcome.TheVariants.{Done}
use Rattle.hub_history.specs.declared.entry.Entry.{Entry}
use Rattle.hub_history.specs.declared.entry.Event.{Event}
use Rattle.hub_history.specs.History.{IsDue, IsDueAfter, IsLegal, history, opening_at, push_change, replay}
use Rattle.hub_history.specs.Laws.{TellsCommand}
use Rattle.hub_history.specs.Opening.{Pinned}
use Rattle.hub_history.specs.Push.{JudgesAtPush, conf_put, is_done, is_of_conf}
use Rattle.hub_history.specs.State.{CommitAmong, Conf, InForce, State, changed, conf_after, conf_branch, conf_repository, in_force, same_name}
use Rattle.hub_history.proofs.HistoryLemmas.{some_same}
use Rattle.hub_history.proofs.JudgeLemmas.{fits_untold, once_untold, untold}
use Rattle.hub_history.proofs.MovedLogs.{due_last, step_here, untold_here}
use Rattle.hub_history.proofs.MovedRefs.{is_for, none_before}
use Rattle.hub_history.proofs.OpeningLemmas.{pinned_at}
use Rattle.history_laws.specs.StateLaws.{DoneConfIsInForce, DoneWasAdvertised, IsForWriting, PushesAreForWriting}

-- ---- the conf that is put in force

-- a conf at this id
abbrev pub conf_at : Pinned → List Content → Command → CommitAmong
conf_at pinned pack c = record { objects = pinned.repository.objects ++ pack; commit = c.new }

and_false : (b : Bool) → (b && false) ≡ false
and_false true = refl
and_false false = refl

-- a command for another ref is none for the conf's branch
no_conf : (repo : Name) (c d : Command) → c.name ≡ conf_branch → is_for c.name d ≡ false → is_of_conf repo d.name ≡ false
no_conf repo c d for_conf other =
    ap (λ (b : Bool). same_name conf_repository repo && b) (ap (λ (n : Name). same_name n d.name) (sym for_conf) ∙ other) ∙ and_false (same_name conf_repository repo)

-- the only command for the conf's branch, where it is done, puts the conf at its new value in force
put_done : (pinned : Pinned) (pack : List Content) (cs : List Command) (os : List Outcome) (k : ℕ) (c : Command) → pinned.repo ≡ conf_repository → c.name ≡ conf_branch
    → count_by (is_for c.name) cs ≤ 1 → slice_get cs k ≡ Some c → slice_get os k ≡ Some Done → conf_put pinned pack cs os ≡ Some (conf_at pinned pack c)
put_done pinned pack [] os k c repo_is name_is once is done = absurd cc
put_done pinned pack (d ∷ cs) [] k c repo_is name_is once is done = absurd cc
put_done pinned pack (d ∷ cs) (o ∷ os) zero c repo_is name_is once is done =
    ap (λ (e : Command). if is_of_conf pinned.repo e.name && is_done o then Some (conf_at pinned pack e) else conf_put pinned pack cs os) (some_same is)
    ∙ ap (λ (b : Bool). if b && is_done o then Some (conf_at pinned pack c) else conf_put pinned pack cs os) of_conf
    ∙ ap (λ (x : Outcome). if is_done x then Some (conf_at pinned pack c) else conf_put pinned pack cs os) (some_same done)
  where
    of_conf : is_of_conf pinned.repo c.name ≡ true
    of_conf = ap (λ (n : Name). same_name conf_repository n && same_name conf_branch c.name) repo_is ∙ ap (λ (n : Name). same_name conf_branch n) name_is
put_done pinned pack (d ∷ cs) (o ∷ os) (suc k) c repo_is name_is once is done =
    let before = none_before d cs k c is once in
    ap (λ (b : Bool). if b && is_done o then Some (conf_at pinned pack d) else conf_put pinned pack cs os) (no_conf pinned.repo c d name_is before.0)
    ∙ put_done pinned pack cs os k c repo_is name_is before.1 is done

pub push_conf : (state : State) (pinned : Pinned) (pack : List Content) (cs : List Command) (os : List Outcome) (made : List Name) → (changed state (push_change state pinned pack cs os made)).conf ≡ conf_after state.conf (conf_put pinned pack cs os)
unfolding push_change
push_conf state pinned pack cs os made = refl

-- ---- laws

module _ (ps : Patterns) (ok : AreTrue ps) where
  module _ (admin : Name) (before : List Entry) (entry : Entry) (legal : IsLegal admin (before ++ entry ∷ [])) (pinned : Pinned) (command : Command) (t : TellsCommand admin before entry pinned command Done) where
    abbrev force : InForce
    force = in_force (replay admin before) pinned.repo

    -- neither the opening says anything of a command that is done nor the rules just before the push
    says_nothing : JudgesAtPush ps force pinned t.pack t.commands command None
    says_nothing = untold_here ps ok admin before entry legal t.place t.pack t.commands t.atomic t.outcomes t.made pinned t.is_push t.opening t.index command t.command_is t.outcome_is

    conf_is : pinned.repo ≡ conf_repository → command.name ≡ conf_branch → (replay admin (before ++ entry ∷ [])).conf.pushed ≡ Some (conf_at pinned t.pack command)
    conf_is repo_is name_is =
        ap (λ (s : State). s.conf.pushed) (step_here ps ok admin before entry legal t.place t.pack t.commands t.atomic t.outcomes t.made pinned t.is_push t.opening)
        ∙ ap (λ (c : Conf). c.pushed) (push_conf (replay admin before) pinned t.pack t.commands t.outcomes t.made)
        ∙ ap (λ (put : Option CommitAmong). (conf_after (replay admin before).conf put).pushed)
        (put_done pinned t.pack t.commands t.outcomes t.index command repo_is name_is (once_untold ps force pinned t.pack t.commands command says_nothing) t.command_is t.outcome_is)

    advertised : value pinned.repository.refs command.name ≡ command.old
    advertised = id_is (value pinned.repository.refs command.name) command.old (fits_untold ps force pinned t.pack t.commands command (untold ps force pinned t.pack t.commands command says_nothing).command).current

  pub done_conf_is_in_force : DoneConfIsInForce
  done_conf_is_in_force = λ admin before entry pinned command legal t repo_is name_is. conf_is admin before entry legal pinned command t repo_is name_is

  pub done_was_advertised : DoneWasAdvertised
  done_was_advertised = λ admin before entry pinned command legal t. advertised admin before entry legal pinned command t

  for_writing : (admin : Name) (before : List Entry) (place : ℕ) (pack : List Content) (cs : List Command) (atomic : Bool) (os : List Outcome) (made : List Name) (o : Option Pinned)
      → opening_at (history admin before) place ≡ o → IsDueAfter ps (replay admin before) o pack cs atomic os made → IsForWriting admin before place pack cs
  for_writing admin before place pack cs atomic os made None at due = absurd due
  for_writing admin before place pack cs atomic os made (Some pinned) at due =
      record { pinned = pinned; opening = at; is_opening = pinned_at admin before place pinned at; writes = due.for_writing; within = due.within; fit = due.fit }

  pub pushes_are_for_writing : PushesAreForWriting
  pushes_are_for_writing = λ admin before entry place pack cs atomic os made legal is.
      for_writing admin before place pack cs atomic os made (opening_at (history admin before) place) refl
      (subst (λ (event : Event). IsDue ps (history admin before) event) is (due_last admin before entry legal ps ok))
