-- What is said of one command by an opening, row by row.
use Rattle.std.specs.Prelude.{◌≡◌, Bool, true, false, List, ◌++◌, Option, None, Some}
use Rattle.git_object.specs.Content.{Content}
use Rattle.conf_groups.specs.declared.fault.ConfKind.{ConfKind}
use Rattle.conf_groups.specs.declared.fault.ConfKind.TheVariants as kind
use Rattle.ref_store.specs.declared.command.Command.{Command}
use Rattle.rule_compile.specs.Patterns.{AreTrue, Patterns}
use Rattle.rule_compile.specs.declared.fault.PolicyFault.{PolicyFault}
use Rattle.rule_compile.specs.declared.fault.PolicyFault.TheVariants.{Splicing, Rules}
use Rattle.access_check.specs.Users.{asked}
use Rattle.update_check.specs.Check.{CheckView, asked_by}
use Rattle.update_check.specs.Rules.{RulesSay}
use Rattle.update_check.specs.Table.{End, First}
use Rattle.update_check.specs.declared.refusal.Refusal.{Refusal}
use Rattle.hub_history.specs.declared.outcome.Outcome.{Outcome}
use Rattle.hub_history.specs.Conf.{AreInForce}
use Rattle.hub_history.specs.Opening.{Pinned}
use Rattle.hub_history.specs.Push.{ByConf, ByRules, by_command, by_new_value, outcome_now, outcome_of}
use Rattle.hub_history.specs.State.{InForce}

-- a check by the rules that are in force, for who opened the repository
pub record IsCheckOf (force : InForce) (pinned : Pinned) (check : CheckView) : Type 0 where
  pub rules : (patterns : Patterns) → AreTrue patterns → AreInForce patterns force.conf check.flat
  pub asks : (patterns : Patterns) → asked_by patterns check ≡ asked patterns check.flat force.wild pinned.repo pinned.user

-- what a check says of a command, as an outcome
abbrev pub SaysByRules : Patterns → CheckView → List Content → Command → Option Outcome → Type 0
SaysByRules patterns check objects command said =
    (refused : Option Refusal) × RulesSay patterns check.flat.rules (asked_by patterns check) objects command refused × (said ≡ outcome_of refused)

-- the same where the rules are those just before the push
abbrev pub SaysNow : Patterns → CheckView → List Content → Command → Option Outcome → Type 0
SaysNow patterns check objects command said =
    (refused : Option Refusal) × RulesSay patterns check.flat.rules (asked_by patterns check) objects command refused × (said ≡ outcome_now refused)

-- what a command is told at the push: what the opening said of it, and where it said nothing what the rules
-- just before the push say
abbrev pub TellsNow : Patterns → CheckView → List Content → Command → Option Outcome → Option Outcome → Type 0
TellsNow patterns check objects command (Some o) found = found ≡ Some o
TellsNow patterns check objects command None found = SaysNow patterns check objects command found

-- the rows in their order, where it is known whether several commands are for the ref
abbrev pub Tells : Patterns → Pinned → List Content → Bool → Command → Option Outcome → Type 0
Tells patterns pinned pack twice command found =
    First (λ said. said ≡ by_command pinned twice command)
    (First (λ said. said ≡ by_new_value (pinned.repository.objects ++ pack) command)
    (First (ByRules patterns pinned (pinned.repository.objects ++ pack) command)
    (First (ByConf patterns pinned (pinned.repository.objects ++ pack) command)
    End))) found

-- ---- out of memory

abbrev pub is_memory : ConfKind → Bool
is_memory kind.NoMemory = true
is_memory other = false

-- the fault is that memory ran out
abbrev pub is_no_memory : PolicyFault → Bool
is_no_memory (Splicing e) = is_memory e.kind
is_no_memory (Rules e) = false
