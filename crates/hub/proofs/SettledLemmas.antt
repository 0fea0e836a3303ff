-- A push that is settled: what it records is due, and what it puts in place.
use Rattle.std.proofs.Common.{◌≡◌, Bool, List, [], ◌∷◌, ◌++◌, length, refl, sym, ◌∙◌, ap, ap₂, subst, arith}
use Rattle.std.specs.Prelude.{Option, None, Some, filter}
use Rattle.std.specs.Option.{unwrap_or}
use Rattle.git_object.specs.Content.{Content}
use Rattle.ref_store.specs.Refs.{Name}
use Rattle.ref_store.specs.declared.command.Command.{Command}
use Rattle.rule_compile.specs.Flat.{Flat}
use Rattle.rule_compile.specs.Patterns.{AreTrue, Patterns}
use Rattle.access_check.specs.declared.verdicts.Want.TheVariants.{Write}
use Rattle.hub_history.specs.declared.entry.Event.TheVariants.{Pushed}
use Rattle.hub_history.specs.declared.outcome.Outcome.{Outcome}
use Rattle.hub_history.specs.Conf.{AreInForce}
use Rattle.hub_history.specs.History.{IsDueAfter, Stands, after_push, history, made_empty, push_change, step}
use Rattle.hub_history.specs.Laws.{IsDueBehind}
use Rattle.hub_history.specs.Opening.{Opening, Pinned}
use Rattle.git_object.specs.Object.{FitOnePack}
use Rattle.hub_history.specs.Push.{AreWithinLimits, JudgesAtPush, Makes, conf_put, is_lacking, repository_left, outcomes_in}
use Rattle.hub_history.specs.State.{CommitAmong, Conf, InForce, Repository, in_force, placed_in, put_in_place, repository_at}
use Rattle.hub_history.proofs.HistoryLemmas.{some_same}
use Rattle.hub_history.proofs.JudgeLemmas.{as_many}
use Rattle.hub_history.proofs.PushLemmas.{length-outcomes}
use Rattle.push_judging.specs.Judged.{AreTold, confs_of}
use Rattle.hub.specs.Hub.{HubView, state_of, stored}
use Rattle.hub.specs.Puts.{conf_by, conf_chosen}
use Rattle.hub.proofs.ConfLemmas.{admin_stays, conf_followed, pinned_admin}
use Rattle.hub.proofs.PushLemmas.{chosen_put, judgement_fits}

length-confs : (pinned : Pinned) (pack : List Content) (cs : List Command) (js : List (Option Outcome)) → length js ≡ length cs → length (confs_of pinned pack cs js) ≡ length cs
length-confs pinned pack [] js alike = refl
length-confs pinned pack (c ∷ cs) [] alike = absurd (omega (arith, alike))
length-confs pinned pack (c ∷ cs) (j ∷ js) alike = omega (arith, length-confs pinned pack cs js (omega (arith, alike)))

-- ---- the repositories that a conf makes

module _ (ps : Patterns) (hub : HubView) (made : List Name) where
  pub makes_lacking : (conf : Conf) (rules : Flat) → AreInForce ps conf rules → made ≡ filter (is_lacking (state_of hub)) rules.plain → (pushed : Option CommitAmong) → Some conf ≡ conf_by hub.admin pushed → Makes ps (state_of hub) pushed made
  makes_lacking conf rules force is None put = absurd cc
  makes_lacking conf rules force is (Some p) put = (rules, subst (λ (c : Conf). AreInForce ps c rules) (some_same put) force, is)

  pub makes_none : made ≡ [] → (pushed : Option CommitAmong) → None ≡ conf_by hub.admin pushed → Makes ps (state_of hub) pushed made
  makes_none is None put = is
  makes_none is (Some p) put = absurd cc

-- ---- the push

module _ (hub : HubView) (pin : Opening) (stands : Stands pin hub.admin hub.log) (pack : List Content) (commands : List Command) (atomic : Bool) (judged : List (Option Outcome)) (confs : List (Option Conf))
    (are : AreTold (in_force (state_of hub) pin.pinned.repo) pin.pinned pack commands judged confs) where
  abbrev force : InForce
  force = in_force (state_of hub) pin.pinned.repo

  abbrev pub settled_os : List Outcome
  settled_os = outcomes_in (repository_at (state_of hub) pin.pinned.repo) pack commands atomic judged

  pub confs_alike : (ps : Patterns) → AreTrue ps → length confs ≡ length commands
  confs_alike ps ok = ap length are.confs_are ∙ length-confs pin.pinned pack commands judged (as_many (JudgesAtPush ps force pin.pinned pack commands) commands judged (are.outcomes_are ps ok))

  pub told_alike : (ps : Patterns) → AreTrue ps → length settled_os ≡ length commands
  told_alike ps ok = length-outcomes (repository_at (state_of hub) pin.pinned.repo) pack commands atomic judged (as_many (JudgesAtPush ps force pin.pinned pack commands) commands judged (are.outcomes_are ps ok))

  -- the conf that is chosen is the one that the push puts in force
  pub chosen_conf : (ps : Patterns) → AreTrue ps → conf_chosen pin.pinned.repo commands settled_os confs ≡ conf_by hub.admin (conf_put pin.pinned pack commands settled_os)
  chosen_conf ps ok =
      ap (conf_chosen pin.pinned.repo commands settled_os) are.confs_are
      ∙ chosen_put pin.pinned pack (repository_at (state_of hub) pin.pinned.repo) commands atomic judged (judgement_fits ps force pin.pinned pack commands judged (are.outcomes_are ps ok))
      ∙ ap (λ (a : Name). conf_by a (conf_put pin.pinned pack commands settled_os)) (pinned_admin hub.admin hub.log pin stands)

  pub settled_due : pin.pinned.want ≡ Write → AreWithinLimits commands → FitOnePack pack → (os : List Outcome) → os ≡ settled_os → (made : List Name)
      → ((ps : Patterns) → AreTrue ps → Makes ps (state_of hub) (conf_put pin.pinned pack commands os) made) → IsDueBehind hub.admin hub.log (Pushed pin.place pack commands atomic os made)
  settled_due write within fit os told made makes = λ ps ok.
      subst (λ (o : Option Pinned). IsDueAfter ps (state_of hub) o pack commands atomic os made) (sym stands)
      (record { for_writing = write; within = within; fit = fit; judged = judged; judges = are.outcomes_are ps ok; told = told; makes = makes ps ok })

  pub settled_step : (os : List Outcome) (made : List Name) (next : Option Repository) → next ≡ repository_left (repository_at (state_of hub) pin.pinned.repo) pack commands os
      → (changes : List (Name × Repository)) → changes ≡ put_in_place pin.pinned.repo next ++ made_empty made → (conf : Option Conf) → conf ≡ conf_by hub.admin (conf_put pin.pinned pack commands os)
      → step (history hub.admin hub.log) (Pushed pin.place pack commands atomic os made) ≡ stored (placed_in (state_of hub).repositories changes) (unwrap_or conf (state_of hub).conf)
  unfolding push_change
  settled_step os made next is changes puts conf put =
      ap (λ (o : Option Pinned). after_push (state_of hub) o pack commands os made) stands
      ∙ ap₂ stored
      (ap (placed_in (state_of hub).repositories) (ap (λ (n : Option Repository). put_in_place pin.pinned.repo n ++ made_empty made) (sym is) ∙ sym puts))
      (conf_followed (state_of hub).conf hub.admin (admin_stays hub.admin hub.log) (conf_put pin.pinned pack commands os) ∙ ap (λ (c : Option Conf). unwrap_or c (state_of hub).conf) (sym put))
