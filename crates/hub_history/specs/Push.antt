-- A push: the outcome of each of its commands, and the repository that it leaves.
use Rattle.std.specs.Prelude.{◌≡◌, ℕ, ◌<◌, ◌≤◌, ◌&&◌, Bool, true, false, not, nat_eq, nat_le, nat_lt, List, [], ◌∷◌, ◌++◌, codes, map, filter, length, Option, None, Some, is_none, if◌then◌else◌, Result, Ok, Err}
use Rattle.std.specs.List.{AllByRecursion, AllZip, count_by, list_any, position, starts_with}
use Rattle.std.specs.FinMap.{get}
use Rattle.git_object.specs.Content.{Content}
use Rattle.git_object.specs.declared.kind.Kind.{Kind}
use Rattle.git_object.specs.declared.kind.Kind.TheVariants.{Commit}
use Rattle.git_object.specs.declared.object_id.ObjectId.{ObjectId}
use Rattle.ancestry.specs.Wholeness.{missing, wrong}
use Rattle.ref_store.specs.Objects.{same_id, with_pack}
use Rattle.ref_store.specs.RefName.{is_ref_name}
use Rattle.ref_store.specs.Refs.{Name, Refs, first_at_odds, moved, value, zero_id}
use Rattle.ref_store.specs.declared.command.Command.{Command}
use Rattle.rule_compile.specs.Flat.{Flat}
use Rattle.rule_compile.specs.Patterns.{Patterns}
use Rattle.rule_compile.specs.declared.fault.PolicyFault.{PolicyFault}
use Rattle.access_check.specs.Users.{asked}
use Rattle.update_check.specs.Rules.{RulesSay}
use Rattle.update_check.specs.Table.{End, First}
use Rattle.update_check.specs.declared.refusal.Refusal.{Refusal}
use Rattle.update_check.specs.declared.refusal.Refusal.TheVariants as refusal
use Rattle.hub_history.specs.declared.outcome.Outcome.{Outcome}
use Rattle.hub_history.specs.declared.outcome.Outcome.TheVariants.{Done, BadName, Twice, NoChange, NotAdvertised, Missing, WrongKind, Denied, ManyPaths, ConfRefused, DeniedNow, ManyPathsNow, Stale, DirFile, AtomicOther, Collided, Full}
use Rattle.hub_history.specs.Collision.{collision}
use Rattle.hub_history.specs.Conf.{AreInForce, ComesTo}
use Rattle.hub_history.specs.Opening.{Pinned}
use Rattle.hub_history.specs.State.{CommitAmong, InForce, Repository, State, conf_branch, conf_repository, same_name, wild_of}

-- a push has 1 to 10,000 commands, each with a text of at most 1,024 bytes for its ref
pub record AreWithinLimits (commands : List Command) : Type 0 where
  pub some : 0 < length commands
  pub few : length commands ≤ 10000
  pub short : AllByRecursion (λ (c : Command). length c.name ≤ 1024) commands

-- I. By the opening, the pack and the commands alone

-- two commands or more are for this ref
abbrev pub is_named_twice : List Command → Name → Bool
is_named_twice commands name = nat_le 2 (count_by (λ (c : Command). same_name name c.name) commands)

-- what a ref's value is to be: of a branch a commit
abbrev pub kind_at : Name → Option Kind
kind_at name = if starts_with nat_eq name (codes "refs/heads/") then Some Commit else None

-- each ref's value leads only to objects that are there and of the kinds wanted; a branch is at a commit
abbrev pub HasWholeRefs : Repository → Type 0
HasWholeRefs repository =
    (name : Name) (id : ObjectId) → get repository.refs name ≡ Some id
    → (missing repository.objects id (kind_at name) ≡ None) × (wrong repository.objects id (kind_at name) ≡ None)

-- I. 1. What the command itself and the ref as it was say

abbrev pub by_command : Pinned → Bool → Command → Option Outcome
by_command pinned twice command =
    if not (is_ref_name command.name) then Some BadName
    else if twice then Some Twice
    else if same_id command.old command.new then Some NoChange
    else if not (same_id (value pinned.repository.refs command.name) command.old) then Some (NotAdvertised (value pinned.repository.refs command.name))
    else None

-- I. 2. What its new value leads to: something is missing, or of a wrong kind. A delete leads nowhere.

abbrev pub by_walk : Option ObjectId → Option ObjectId → Option Outcome
by_walk (Some id) wrong = Some (Missing id)
by_walk None (Some id) = Some (WrongKind id)
by_walk None None = None

abbrev pub by_new_value : List Content → Command → Option Outcome
by_new_value objects command =
    if same_id command.new zero_id then None
    else by_walk (missing objects command.new (kind_at command.name)) (wrong objects command.new (kind_at command.name))

-- I. 3. What the rules that were in force at the opening say of it, for who opened the repository

abbrev pub outcome_of : Option Refusal → Option Outcome
outcome_of None = None
outcome_of (Some (refusal.Denied verdict letter name)) = Some (Denied verdict letter name)
outcome_of (Some refusal.ManyPaths) = Some ManyPaths

abbrev pub ByRules : Patterns → Pinned → List Content → Command → Option Outcome → Type 0
ByRules patterns pinned objects command said =
    (rules : Flat) × (refused : Option Refusal) × AreInForce patterns pinned.conf rules
    × RulesSay patterns rules.rules (asked patterns rules (wild_of pinned.repository) pinned.repo pinned.user) objects command refused × (said ≡ outcome_of refused)

-- I. 4. What the conf at its new value says, where that is to be in force. A delete leaves none.

abbrev pub is_of_conf : Name → Name → Bool
is_of_conf repo name = same_name conf_repository repo && same_name conf_branch name

abbrev pub by_conf : Result Flat PolicyFault → Option Outcome
by_conf (Ok rules) = None
by_conf (Err fault) = Some (ConfRefused fault)

abbrev pub ByConfIf : Bool → Patterns → List Content → Command → Option Outcome → Type 0
ByConfIf false patterns objects command said = said ≡ None
ByConfIf true patterns objects command said = (comes : Result Flat PolicyFault) × ComesTo patterns objects command.new comes × (said ≡ by_conf comes)

abbrev pub ByConf : Patterns → Pinned → List Content → Command → Option Outcome → Type 0
ByConf patterns pinned objects command said = ByConfIf (is_of_conf pinned.repo command.name) patterns objects command said

-- the outcome of one command by the opening, if there is one: the first of these
abbrev pub Judges : Patterns → Pinned → List Content → List Command → Command → Option Outcome → Type 0
Judges patterns pinned pack commands command found =
    First (λ said. said ≡ by_command pinned (is_named_twice commands command.name) command)
    (First (λ said. said ≡ by_new_value (pinned.repository.objects ++ pack) command)
    (First (ByRules patterns pinned (pinned.repository.objects ++ pack) command)
    (First (ByConf patterns pinned (pinned.repository.objects ++ pack) command)
    End))) found

-- the outcomes of all commands by the opening
abbrev pub JudgesAll : Patterns → Pinned → List Content → List Command → List (Option Outcome) → Type 0
JudgesAll patterns pinned pack commands found = AllZip (Judges patterns pinned pack commands) commands found

-- II. By the rules just before the push too: a change that they don't let be made, for who opened the
-- repository, is refused as well

abbrev pub outcome_now : Option Refusal → Option Outcome
outcome_now None = None
outcome_now (Some (refusal.Denied verdict letter name)) = Some (DeniedNow verdict letter name)
outcome_now (Some refusal.ManyPaths) = Some ManyPathsNow

abbrev pub ByRulesNow : Patterns → InForce → Pinned → List Content → Command → Option Outcome → Type 0
ByRulesNow patterns now pinned objects command said =
    (rules : Flat) × (refused : Option Refusal) × AreInForce patterns now.conf rules
    × RulesSay patterns rules.rules (asked patterns rules now.wild pinned.repo pinned.user) objects command refused × (said ≡ outcome_now refused)

-- the outcome of one command by the opening and by what is in force just before the push, if there is one:
-- the first of these
abbrev pub JudgesAtPush : Patterns → InForce → Pinned → List Content → List Command → Command → Option Outcome → Type 0
JudgesAtPush patterns now pinned pack commands command found =
    First (Judges patterns pinned pack commands command)
    (First (ByRulesNow patterns now pinned (pinned.repository.objects ++ pack) command)
    End) found

-- the outcomes of all commands by both
abbrev pub JudgesAllAtPush : Patterns → InForce → Pinned → List Content → List Command → List (Option Outcome) → Type 0
JudgesAllAtPush patterns now pinned pack commands found = AllZip (JudgesAtPush patterns now pinned pack commands) commands found

-- III. By the refs just before, as the push's earlier commands leave them

-- a create beside a ref that is a directory of it or stands below it
abbrev pub by_directory : Option Name → Outcome
by_directory None = Done
by_directory (Some r) = DirFile r

abbrev pub by_refs : Refs → Command → Option Outcome → Outcome
by_refs refs command (Some outcome) = outcome
by_refs refs command None =
    if not (same_id (value refs command.name) command.old) then Stale (value refs command.name)
    else if same_id command.old zero_id then by_directory (first_at_odds refs command.name)
    else Done

abbrev pub is_done : Outcome → Bool
is_done Done = true
is_done _ = false

-- the number by which an outcome is known, whatever it holds
abbrev pub outcome_number : Outcome → ℕ
outcome_number Done = 1
outcome_number BadName = 2
outcome_number Twice = 3
outcome_number NoChange = 4
outcome_number (NotAdvertised id) = 5
outcome_number (Missing id) = 6
outcome_number (WrongKind id) = 7
outcome_number (Denied verdict letter name) = 8
outcome_number ManyPaths = 9
outcome_number (ConfRefused fault) = 10
outcome_number (Stale id) = 11
outcome_number (DirFile r) = 12
outcome_number (AtomicOther place) = 13
outcome_number (Collided id) = 14
outcome_number (DeniedNow verdict letter name) = 15
outcome_number ManyPathsNow = 16
outcome_number (Full count) = 17

-- a command that is done moves its ref
abbrev pub refs_after : Refs → Command → Outcome → Refs
refs_after refs command outcome = if is_done outcome then moved refs command.name command.new else refs

-- the outcomes of the commands in order
abbrev pub in_order : Refs → List Command → List (Option Outcome) → List Outcome
in_order refs [] judgements = []
in_order refs (c ∷ cs) [] = []
in_order refs (c ∷ cs) (j ∷ js) = by_refs refs c j ∷ in_order (refs_after refs c (by_refs refs c j)) cs js

-- IV. Together, where the push is atomic

-- what a command is told beside the first refusal
abbrev pub beside : ℕ → Outcome → Outcome
beside first outcome = if is_done outcome then AtomicOther first else outcome

abbrev pub beside_first : Option ℕ → List Outcome → List Outcome
beside_first None outcomes = outcomes
beside_first (Some first) outcomes = map (beside first) outcomes

-- where an atomic push has a refusal, the commands that have none name the first that has one, counted from 0
abbrev pub together : Bool → List Outcome → List Outcome
together atomic outcomes = if atomic then beside_first (position (λ o. not (is_done o)) outcomes) outcomes else outcomes

-- V. Before all of that: an object that differs from one of its name, and too many objects. Then every
-- command is told so

abbrev pub unless_collided : Option ObjectId → List Command → List Outcome → List Outcome
unless_collided (Some id) commands outcomes = map (λ c. Collided id) commands
unless_collided None commands outcomes = outcomes

abbrev pub unless_full : ℕ → List Command → List Outcome → List Outcome
unless_full count commands outcomes = if nat_lt 4294967295 count then map (λ c. Full count) commands else outcomes

-- the outcomes of a push into a repository as it is just before
abbrev pub outcomes_in : Repository → List Content → List Command → Bool → List (Option Outcome) → List Outcome
outcomes_in now pack commands atomic judgements =
    unless_collided (collision now.objects pack) commands
    (unless_full (length (with_pack now.objects pack)) commands
    (together atomic (in_order now.refs commands judgements)))

-- VI. What the outcomes leave

abbrev pub refs_left : Refs → List Command → List Outcome → Refs
refs_left refs [] outcomes = refs
refs_left refs (c ∷ cs) [] = refs
refs_left refs (c ∷ cs) (o ∷ os) = refs_left (refs_after refs c o) cs os

-- the repository that a push leaves, where a command is done: the refs of the commands that are done, and
-- these objects
abbrev pub repository_left_with : Repository → List Content → List Command → List Outcome → Option Repository
repository_left_with now objects commands outcomes =
    if list_any is_done outcomes
    then Some (record now { objects = objects; refs = refs_left now.refs commands outcomes })
    else None

-- the objects are its own with the pack's
abbrev pub repository_left : Repository → List Content → List Command → List Outcome → Option Repository
repository_left now pack commands outcomes = repository_left_with now (with_pack now.objects pack) commands outcomes

-- the commit whose conf is in force behind a push: the new value of the command for the conf's branch, if
-- that is done, among the objects at the opening with the pack's
abbrev pub conf_put : Pinned → List Content → List Command → List Outcome → Option CommitAmong
conf_put pinned pack [] outcomes = None
conf_put pinned pack (c ∷ cs) [] = None
conf_put pinned pack (c ∷ cs) (o ∷ os) =
    if is_of_conf pinned.repo c.name && is_done o then Some (record { objects = pinned.repository.objects ++ pack; commit = c.new }) else conf_put pinned pack cs os

-- the plain repositories that a conf names and that aren't there
abbrev pub is_lacking : State → Name → Bool
is_lacking state name = is_none (get state.repositories name)

abbrev pub Makes : Patterns → State → Option CommitAmong → List Name → Type 0
Makes patterns state None made = made ≡ []
Makes patterns state (Some pushed) made = (rules : Flat) × ComesTo patterns pushed.objects pushed.commit (Ok rules) × (made ≡ filter (is_lacking state) rules.plain)
