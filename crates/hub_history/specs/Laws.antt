-- Laws of the definitions.
use Rattle.std.specs.Prelude.{◌≡◌, ◌↔◌, ◌⊎◌, ℕ, ◌+◌, ◌<◌, ◌≤◌, Bool, true, List, [], ◌∷◌, ◌++◌, length, take, Option, Some}
use Rattle.std.specs.List.{All, slice_get}
use Rattle.std.specs.FinMap.{get}
use Rattle.git_object.specs.Content.{Content}
use Rattle.git_object.specs.Object.{IsPackable}
use Rattle.git_object.specs.declared.object_id.ObjectId.{ObjectId}
use Rattle.conf_lex.specs.Names.{is_user_name}
use Rattle.ancestry.specs.declared.facts.Facts.{Facts}
use Rattle.ref_store.specs.Objects.{HasNamesOnce}
use Rattle.ref_store.specs.Refs.{AreAtOdds, HasNoZero, HasRefsApart, IsLe, Name, Refs, value, zero_id}
use Rattle.ref_store.specs.declared.command.Command.{Command}
use Rattle.rule_compile.specs.Flat.{Flat}
use Rattle.rule_compile.specs.Patterns.{AreTrue, Patterns}
use Rattle.access_check.specs.Users.{asked}
use Rattle.access_check.specs.declared.verdicts.Want.{Want}
use Rattle.vref.specs.Facts.{AreFacts}
use Rattle.update_check.specs.Laws.{LetsBeMade}
use Rattle.hub_history.specs.declared.entry.Entry.{Entry}
use Rattle.hub_history.specs.declared.entry.EnterKept.{EnterKept}
use Rattle.hub_history.specs.declared.entry.EnterKept.TheVariants.{Granted, Created}
use Rattle.hub_history.specs.declared.entry.PermChange.{PermChange}
use Rattle.hub_history.specs.declared.entry.PermsKept.{PermsKept}
use Rattle.hub_history.specs.declared.entry.Event.{Event}
use Rattle.hub_history.specs.declared.entry.Event.TheVariants.{Entered, Pushed}
use Rattle.hub_history.specs.declared.outcome.Outcome.{Outcome}
use Rattle.hub_history.specs.declared.outcome.Outcome.TheVariants.{AtomicOther, DirFile, Done, Stale}
use Rattle.hub_history.specs.Conf.{AreInForce}
use Rattle.hub_history.specs.History.{IsDue, IsDuePush, IsLegal, Stands, history, opening_at, pinned_by, replay}
use Rattle.hub_history.specs.Opening.{IsDueOpening, Opening, Pinned, pinned_in}
use Rattle.hub_history.specs.Push.{HasWholeRefs, Judges}
use Rattle.hub_history.specs.Roles.{IsDueChange}
use Rattle.hub_history.specs.State.{Conf, HasShortNames, Repository, State, conf_branch, conf_repository, repository_at, wild_of}

-- ---- logs and their beginnings

-- the answer that an event records behind a log is due, whatever answers about patterns are true
abbrev pub IsDueBehind : Name → List Entry → Event → Type 0
IsDueBehind admin log event = (patterns : Patterns) → AreTrue patterns → IsDue patterns (history admin log) event

-- a log is legal exactly where, for each place, the answer recorded there is due on the history of the
-- entries before that place
abbrev pub LegalByPlaces : Type 0
LegalByPlaces =
    (admin : Name) (log : List Entry) → IsLegal admin log ↔ ((place : ℕ) (entry : Entry) → slice_get log place ≡ Some entry → IsDueBehind admin (take place log) entry.event)

-- a beginning of a legal log is legal
abbrev pub BeginningIsLegal : Type 0
BeginningIsLegal = (admin : Name) (log more : List Entry) → IsLegal admin (log ++ more) → IsLegal admin log

-- the state at a place isn't changed by what is appended
abbrev pub StateStays : Type 0
StateStays = (admin : Name) (log more : List Entry) (place : ℕ) → place ≤ length log → replay admin (take place (log ++ more)) ≡ replay admin (take place log)

-- an opening that stands goes on standing, whatever is appended
abbrev pub OpeningStays : Type 0
OpeningStays = (admin : Name) (log more : List Entry) (opening : Opening) → Stands opening admin log → Stands opening admin (log ++ more)

-- what the opening at a place pins is what the state has after the entries up to and including that place
abbrev pub PinsOfItsPlace : Type 0
PinsOfItsPlace =
    (admin : Name) (before : List Entry) (entry : Entry) (more : List Entry)
    → opening_at (history admin (before ++ entry ∷ more)) (length before) ≡ pinned_by (replay admin (before ++ entry ∷ [])) entry.event

-- at a place of a log an opening stands that was granted, and this is what it pinned: what the state had
-- after the entries up to and including it
pub record IsOpeningAt (admin : Name) (log : List Entry) (place : ℕ) (pinned : Pinned) : Type 0 where
  pub caller : ℕ
  pub answer : EnterKept
  pub stands : slice_get log place ≡ Some (record { caller = caller; event = Entered pinned.user pinned.repo pinned.want answer })
  pub granted : (answer ≡ Granted) ⊎ (answer ≡ Created)
  pub pinned_is : pinned ≡ pinned_in (replay admin (take (place + 1) log)) pinned.user pinned.repo pinned.want

-- a pin that stands is of such an opening
abbrev pub PinsAreOfOpenings : Type 0
PinsAreOfOpenings = (admin : Name) (log : List Entry) (opening : Opening) → Stands opening admin log → IsOpeningAt admin log opening.place opening.pinned

-- ---- what a legal log leads to

-- this holds of each repository that a legal log leads to, and of each that its openings pinned
abbrev pub OfEachRepository : (Repository → Type 0) → Type 0
OfEachRepository P =
    (admin : Name) (log : List Entry) → IsLegal admin log
    → ((name : Name) (repository : Repository) → get (replay admin log).repositories name ≡ Some repository → P repository)
    × ((opening : Opening) → Stands opening admin log → P opening.pinned.repository)

-- no two objects of a repository have one name
abbrev pub NamesStayOnce : Type 0
NamesStayOnce = OfEachRepository (λ repository. HasNamesOnce repository.objects)

-- each object of a repository is of its kind's form, and not too long
abbrev pub ObjectsAreFormed : Type 0
ObjectsAreFormed = OfEachRepository (λ repository. All IsPackable repository.objects)

-- no ref's name has more than 1,024 bytes
abbrev pub NamesStayShort : Type 0
NamesStayShort = OfEachRepository (λ repository. HasShortNames repository.refs)

-- each ref's value is whole in its repository's objects, and a branch is at a commit
abbrev pub RefsStayWhole : Type 0
RefsStayWhole = OfEachRepository HasWholeRefs

-- no ref of a repository is a directory of another
abbrev pub RefsStayApart : Type 0
RefsStayApart = OfEachRepository (λ repository. HasRefsApart repository.refs)

-- no ref has the value zero, which stands for none
abbrev pub RefsStayNonzero : Type 0
RefsStayNonzero = OfEachRepository (λ repository. HasNoZero repository.refs)

-- ---- what happens to a ref

-- a ref's value in a repository, zero where there is none
abbrev pub ref_in : State → Name → Name → ObjectId
ref_in state repo name = value (repository_at state repo).refs name

-- an entry behind a log is a push into a repository after this opening, and one of its commands has this
-- outcome
pub record TellsCommand (admin : Name) (before : List Entry) (entry : Entry) (pinned : Pinned) (command : Command) (outcome : Outcome) : Type 0 where
  pub place : ℕ
  pub pack : List Content
  pub commands : List Command
  pub atomic : Bool
  pub outcomes : List Outcome
  pub made : List Name
  pub is_push : entry.event ≡ Pushed place pack commands atomic outcomes made
  pub opening : opening_at (history admin before) place ≡ Some pinned
  pub index : ℕ
  pub command_is : slice_get commands index ≡ Some command
  pub outcome_is : slice_get outcomes index ≡ Some outcome

-- A command that is done was let be made by the rules that were in force at its opening, for who opened the
-- repository.
abbrev pub DoneIsLet : Type 0
DoneIsLet =
    (admin : Name) (before : List Entry) (entry : Entry) (pinned : Pinned) (command : Command) → IsLegal admin (before ++ entry ∷ [])
    → (tells : TellsCommand admin before entry pinned command Done) → (patterns : Patterns) → AreTrue patterns
    → (rules : Flat) × AreInForce patterns pinned.conf rules × ((facts : Facts) → AreFacts (pinned.repository.objects ++ tells.pack) command.name command.old command.new facts
    → LetsBeMade patterns rules.rules (asked patterns rules (wild_of pinned.repository) pinned.repo pinned.user) (pinned.repository.objects ++ tells.pack) command facts)

-- So it was by the rules in force just before the push, by the creator and the roles that the repository had
-- then.
abbrev pub DoneIsLetNow : Type 0
DoneIsLetNow =
    (admin : Name) (before : List Entry) (entry : Entry) (pinned : Pinned) (command : Command) → IsLegal admin (before ++ entry ∷ [])
    → (tells : TellsCommand admin before entry pinned command Done) → (patterns : Patterns) → AreTrue patterns
    → (rules : Flat) × AreInForce patterns (replay admin before).conf rules × ((facts : Facts) → AreFacts (pinned.repository.objects ++ tells.pack) command.name command.old command.new facts
    → LetsBeMade patterns rules.rules (asked patterns rules (wild_of (repository_at (replay admin before) pinned.repo)) pinned.repo pinned.user) (pinned.repository.objects ++ tells.pack) command facts)

-- a command that is done moves its ref from the old value, which that had just before the push, to the new
-- one
abbrev pub DoneMoves : Type 0
DoneMoves =
    (admin : Name) (before : List Entry) (entry : Entry) (pinned : Pinned) (command : Command) → IsLegal admin (before ++ entry ∷ []) → TellsCommand admin before entry pinned command Done
    → (ref_in (replay admin before) pinned.repo command.name ≡ command.old) × (ref_in (replay admin (before ++ entry ∷ [])) pinned.repo command.name ≡ command.new)

-- and a ref's value changes nowhere else
abbrev pub ChangesAreDone : Type 0
ChangesAreDone =
    (admin : Name) (before : List Entry) (entry : Entry) (repo name : Name) → IsLegal admin (before ++ entry ∷ [])
    → ¬ (ref_in (replay admin (before ++ entry ∷ [])) repo name ≡ ref_in (replay admin before) repo name)
    → (pinned : Pinned) × (command : Command) × TellsCommand admin before entry pinned command Done × (pinned.repo ≡ repo) × (command.name ≡ name)

-- a command that is stale is told the value that its ref had just before the push, which isn't the old one
abbrev pub StaleIsStale : Type 0
StaleIsStale =
    (admin : Name) (before : List Entry) (entry : Entry) (pinned : Pinned) (command : Command) (is : ObjectId) → IsLegal admin (before ++ entry ∷ [])
    → TellsCommand admin before entry pinned command (Stale is) → (is ≡ ref_in (replay admin before) pinned.repo command.name) × ¬ (is ≡ command.old)

-- a command has no refusal of its own: it is done, or is told only that another of its atomic push is refused
abbrev pub HasNoRefusal : Outcome → Type 0
HasNoRefusal outcome = (outcome ≡ Done) ⊎ ((first : ℕ) × (outcome ≡ AtomicOther first))

-- the moment just before a command of a push: the refs just before the push, the push's commands with their
-- outcomes, and the command's place among them
pub record Moment : Type 0 where
  pub refs : Refs
  pub commands : List Command
  pub outcomes : List Outcome
  pub index : ℕ

-- an earlier command of the push moves the ref to this value, and has no refusal of its own
pub record IsMovedBefore (moment : Moment) (name : Name) (id : ObjectId) : Type 0 where
  pub command : Command
  pub outcome : Outcome
  pub place : ℕ
  pub earlier : place < moment.index
  pub command_is : slice_get moment.commands place ≡ Some command
  pub outcome_is : slice_get moment.outcomes place ≡ Some outcome
  pub unrefused : HasNoRefusal outcome
  pub for_ref : command.name ≡ name
  pub to : command.new ≡ id

-- no such command does
abbrev pub IsUnmovedBefore : Moment → Name → Type 0
IsUnmovedBefore moment name = (id : ObjectId) → ¬ IsMovedBefore moment name id

-- a ref's value at the moment, zero where there is none: the one that an earlier command moves it to, and
-- where none does the one just before the push
abbrev pub IsValueAt : Moment → Name → ObjectId → Type 0
IsValueAt moment name id = IsMovedBefore moment name id ⊎ (IsUnmovedBefore moment name × (value moment.refs name ≡ id))

-- a ref is there at the moment
abbrev pub IsThereAt : Moment → Name → Type 0
IsThereAt moment name = (id : ObjectId) × IsValueAt moment name id × ¬ (id ≡ zero_id)

-- A command creates a ref that isn't there, and this one is in its way: of the refs that are there it is the
-- least, in byte order, that is a directory of the other or stands below it
pub record IsInTheWay (moment : Moment) (command : Command) (r : Name) : Type 0 where
  pub create : command.old ≡ zero_id
  pub absent : value moment.refs command.name ≡ zero_id
  pub unmoved : IsUnmovedBefore moment command.name
  pub there : IsThereAt moment r
  pub at_odds : AreAtOdds r command.name
  pub least : (q : Name) → IsThereAt moment q → AreAtOdds q command.name → IsLe r q

-- the moment just before a command of a push behind a log
abbrev pub moment_of : {admin : Name} {before : List Entry} {entry : Entry} {pinned : Pinned} {command : Command} {outcome : Outcome} → TellsCommand admin before entry pinned command outcome → Moment
moment_of {admin} {before} {entry} {pinned} tells = record { refs = (repository_at (replay admin before) pinned.repo).refs; commands = tells.commands; outcomes = tells.outcomes; index = tells.index }

-- a command that is told of a directory conflict is told of the ref that is in its way
abbrev pub DirFileIsInTheWay : Type 0
DirFileIsInTheWay =
    (admin : Name) (before : List Entry) (entry : Entry) (pinned : Pinned) (command : Command) (r : Name) → IsLegal admin (before ++ entry ∷ [])
    → (tells : TellsCommand admin before entry pinned command (DirFile r)) → IsInTheWay (moment_of tells) command r

-- a create that is done has no ref in its way
abbrev pub DoneHasNoneInTheWay : Type 0
DoneHasNoneInTheWay =
    (admin : Name) (before : List Entry) (entry : Entry) (pinned : Pinned) (command : Command) → IsLegal admin (before ++ entry ∷ [])
    → (tells : TellsCommand admin before entry pinned command Done) → command.old ≡ zero_id → (q : Name) → IsThereAt (moment_of tells) q → ¬ AreAtOdds q command.name

-- an atomic push of which a command isn't done changes nothing
abbrev pub RefusedAtomicChangesNothing : Type 0
RefusedAtomicChangesNothing =
    (admin : Name) (before : List Entry) (caller place : ℕ) (pack : List Content) (commands : List Command) (outcomes : List Outcome) (made : List Name) (index : ℕ) (outcome : Outcome)
    → IsLegal admin (before ++ record { caller = caller; event = Pushed place pack commands true outcomes made } ∷ []) → slice_get outcomes index ≡ Some outcome → ¬ (outcome ≡ Done)
    → replay admin (before ++ record { caller = caller; event = Pushed place pack commands true outcomes made } ∷ []) ≡ replay admin before

-- a repository's objects only grow: those that it has after a log begin those that it has after more
abbrev pub ObjectsOnlyGrow : Type 0
ObjectsOnlyGrow = (admin : Name) (log more : List Entry) → IsLegal admin (log ++ more) → (repo : Name) → (added : List Content) × ((repository_at (replay admin (log ++ more)) repo).objects ≡ (repository_at (replay admin log) repo).objects ++ added)

-- a repository never goes away, and its creator stays
abbrev pub RepositoriesStay : Type 0
RepositoriesStay =
    (admin : Name) (log more : List Entry) → IsLegal admin (log ++ more) → (repo : Name) (was : Repository) → get (replay admin log).repositories repo ≡ Some was
    → (is : Repository) × (get (replay admin (log ++ more)).repositories repo ≡ Some is) × (is.creator ≡ was.creator)

-- ---- the conf in force

-- some rules are in force
abbrev pub HasRules : Patterns → State → Type 0
HasRules patterns state = (rules : Flat) × AreInForce patterns state.conf rules

-- whoever the admin is, the conf in force behind each legal log comes to rules
abbrev pub ConfStaysGood : Type 0
ConfStaysGood = (admin : Name) (log : List Entry) → is_user_name admin ≡ true → IsLegal admin log → (patterns : Patterns) → AreTrue patterns → HasRules patterns (replay admin log)

-- it is another at an entry only where a command for the conf's branch is done there, and then it is the one
-- at that command's new value
abbrev pub ConfChangesAreDone : Type 0
ConfChangesAreDone =
    (admin : Name) (before : List Entry) (entry : Entry) → ¬ ((replay admin (before ++ entry ∷ [])).conf ≡ (replay admin before).conf)
    → (pinned : Pinned) × (command : Command) × (tells : TellsCommand admin before entry pinned command Done) × (pinned.repo ≡ conf_repository) × (command.name ≡ conf_branch)
    × ((replay admin (before ++ entry ∷ [])).conf.pushed ≡ Some (record { objects = pinned.repository.objects ++ tells.pack; commit = command.new }))

-- ---- one answer

-- there is one rule list in force, and one answer to each request
pub record OneAnswer : Type 0 where
  pub rules : (patterns : Patterns) (conf : Conf) (one other : Flat) → AreInForce patterns conf one → AreInForce patterns conf other → one ≡ other
  pub opening : (patterns : Patterns) (state : State) (user repo : Name) (want : Want) (one other : EnterKept)
      → IsDueOpening patterns state user repo want one → IsDueOpening patterns state user repo want other → one ≡ other
  pub judgement : (patterns : Patterns) (pinned : Pinned) (pack : List Content) (commands : List Command) (command : Command) (one other : Option Outcome)
      → Judges patterns pinned pack commands command one → Judges patterns pinned pack commands command other → one ≡ other
  pub push : (patterns : Patterns) (state : State) (pinned : Pinned) (pack : List Content) (commands : List Command) (atomic : Bool) (one other : List Outcome) (made others : List Name)
      → IsDuePush patterns state pinned pack commands atomic one made → IsDuePush patterns state pinned pack commands atomic other others → (one ≡ other) × (made ≡ others)
  pub change : (patterns : Patterns) (state : State) (user repo : Name) (asked : PermChange) (one other : PermsKept)
      → IsDueChange patterns state user repo asked one → IsDueChange patterns state user repo asked other → one ≡ other
