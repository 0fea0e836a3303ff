-- What is found out of a push by its opening, the pack and the commands alone.
use Rattle.std.specs.Prelude.{◌≡◌, ◌&&◌, List, [], ◌∷◌, ◌++◌, Option, None, Some, is_none, if◌then◌else◌}
use Rattle.std.specs.List.{AllZip}
use Rattle.std.specs.Option.{IfSome}
use Rattle.git_object.specs.Content.{Content}
use Rattle.ancestry.specs.declared.facts.Facts.{Facts}
use Rattle.ref_store.specs.declared.command.Command.{Command}
use Rattle.rule_compile.specs.Patterns.{AreTrue, Patterns}
use Rattle.vref.specs.Facts.{AreFacts}
use Rattle.wild_perms.specs.Roles.{WildView}
use Rattle.hub_history.specs.declared.outcome.Outcome.{Outcome}
use Rattle.hub_history.specs.Opening.{Pinned}
use Rattle.hub_history.specs.Push.{JudgesAll, JudgesAllAtPush, is_of_conf}
use Rattle.hub_history.specs.State.{Conf, InForce}

-- what each command is told by the conf at the opening, and by a creator and roles, and the conf that each
-- would put in force
pub record JudgedAgain : Type 0 where
  pub wild : WildView
  pub outcomes : List (Option Outcome)
  pub confs : List (Option Conf)

-- what each command is told by the opening, if anything; the conf that each would put in force, if it would;
-- the facts of each change; the opening's objects, and the same with the pack's behind them; what was found
-- out by other roles, if it was
pub record Judgement : Type 0 where
  pub outcomes : List (Option Outcome)
  pub confs : List (Option Conf)
  pub facts : List Facts
  pub before : List Content
  pub objects : List Content
  pub again : Option JudgedAgain

-- the conf at a command's new value
abbrev pub conf_at : Pinned → List Content → Command → Conf
conf_at pinned pack command = record { admin = pinned.conf.admin; pushed = Some (record { objects = pinned.repository.objects ++ pack; commit = command.new }) }

-- a command for the conf's branch that is told nothing would put the conf at its new value in force
abbrev pub conf_of : Pinned → List Content → Command → Option Outcome → Option Conf
conf_of pinned pack command told = if is_of_conf pinned.repo command.name && is_none told then Some (conf_at pinned pack command) else None

abbrev pub confs_of : Pinned → List Content → List Command → List (Option Outcome) → List (Option Conf)
confs_of pinned pack [] told = []
confs_of pinned pack (c ∷ cs) [] = []
confs_of pinned pack (c ∷ cs) (t ∷ ts) = conf_of pinned pack c t ∷ confs_of pinned pack cs ts

-- what is left of a conf where a command is told something after all
abbrev pub conf_kept : Option Conf → Option Outcome → Option Conf
conf_kept conf told = if is_none told then conf else None

-- these are the facts of changes
abbrev pub AreFactsOf : List Content → List Command → List Facts → Type 0
AreFactsOf objects commands facts = AllZip (λ (change : Command) (facts : Facts). AreFacts objects change.name change.old change.new facts) commands facts

-- this is what the commands of a push are told by its opening and by what is in force just before it, and
-- these are the confs that they would put in force
pub record AreTold (force : InForce) (pinned : Pinned) (pack : List Content) (commands : List Command) (outcomes : List (Option Outcome)) (confs : List (Option Conf)) : Type 0 where
  pub outcomes_are : (patterns : Patterns) → AreTrue patterns → JudgesAllAtPush patterns force pinned pack commands outcomes
  pub confs_are : confs ≡ confs_of pinned pack commands outcomes

-- this is the judgement of a push
pub record IsJudgement (pinned : Pinned) (pack : List Content) (commands : List Command) (j : Judgement) : Type 0 where
  pub outcomes : (patterns : Patterns) → AreTrue patterns → JudgesAll patterns pinned pack commands j.outcomes
  pub confs : j.confs ≡ confs_of pinned pack commands j.outcomes
  pub facts : AreFactsOf (pinned.repository.objects ++ pack) commands j.facts
  pub before : j.before ≡ pinned.repository.objects
  pub objects : j.objects ≡ pinned.repository.objects ++ pack
  pub again : IfSome j.again (λ a. AreTold (record { conf = pinned.conf; wild = a.wild }) pinned pack commands a.outcomes a.confs)
