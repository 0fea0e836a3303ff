-- Laws of legal logs: what changes the state, and what doesn't.
use Rattle.std.specs.Prelude.{◌≡◌, ◌⊎◌, ℕ, ◌≤◌, Bool, true, List, [], ◌∷◌, ◌++◌, length, map, Option, None, Some, Contains}
use Rattle.std.specs.List.{slice_get}
use Rattle.std.specs.FinMap.{get}
use Rattle.git_object.specs.Content.{Content}
use Rattle.git_object.specs.Object.{FitOnePack}
use Rattle.conf_lex.specs.Names.{is_user_name}
use Rattle.ancestry.specs.declared.facts.Facts.{Facts}
use Rattle.ref_store.specs.Objects.{with_pack}
use Rattle.ref_store.specs.Refs.{HasRefNames, Name, value}
use Rattle.ref_store.specs.declared.command.Command.{Command}
use Rattle.rule_compile.specs.Flat.{Flat}
use Rattle.rule_compile.specs.Patterns.{AreTrue, Patterns}
use Rattle.access_check.specs.declared.verdicts.Want.TheVariants.{Write}
use Rattle.vref.specs.Facts.{AreFacts}
use Rattle.update_check.specs.Laws.{LetsBeMade}
use Rattle.hub_history.specs.declared.entry.EnterKept.TheVariants.{Created}
use Rattle.hub_history.specs.declared.entry.Entry.{Entry}
use Rattle.hub_history.specs.declared.entry.Event.{Event}
use Rattle.hub_history.specs.declared.entry.Event.TheVariants.{Entered, Looked, Permitted, Pushed}
use Rattle.hub_history.specs.declared.entry.PermChange.{PermChange}
use Rattle.hub_history.specs.declared.entry.PermsKept.TheVariants.{Changed}
use Rattle.hub_history.specs.declared.outcome.Outcome.{Outcome}
use Rattle.hub_history.specs.declared.outcome.Outcome.TheVariants.{Done}
use Rattle.hub_history.specs.Conf.{AreInForce}
use Rattle.hub_history.specs.History.{AreNames, HasShortRole, History, IsDue, IsLegal, IsOfUser, history, opening_at, replay}
use Rattle.hub_history.specs.Laws.{IsOpeningAt, OfEachRepository, TellsCommand}
use Rattle.hub_history.specs.Opening.{Pinned, pinned_in_force}
use Rattle.hub_history.specs.Push.{AreWithinLimits, JudgesAllAtPush}
use Rattle.hub_history.specs.Requests.{Enter, Look, Permit, Push, Request, request_of}
use Rattle.hub_history.specs.State.{InForce, Repository, State, conf_branch, conf_repository, empty_repository, in_force, repository_at}
use Rattle.history_laws.specs.Laws.{IsPastTheOpening, IsPastTheRules, asked_by, objects_of}

-- ---- the conf in force

-- A command for the conf's branch that is done brings the conf at its new value into force.
abbrev pub DoneConfIsInForce : Type 0
DoneConfIsInForce =
    (admin : Name) (before : List Entry) (entry : Entry) (pinned : Pinned) (command : Command) → IsLegal admin (before ++ entry ∷ [])
    → (tells : TellsCommand admin before entry pinned command Done) → pinned.repo ≡ conf_repository → command.name ≡ conf_branch
    → (replay admin (before ++ entry ∷ [])).conf.pushed ≡ Some (record { objects = objects_of tells; commit = command.new })

-- ---- what changes the state

-- a command is done
abbrev pub HasDone : List Outcome → Type 0
HasDone outcomes = (index : ℕ) × (slice_get outcomes index ≡ Some Done)

-- an event may change the state: it is an opening that made a repository, a push of which a command is done,
-- or a change of roles that is done
abbrev pub MayChange : Event → Type 0
MayChange (Entered user repo want answer) = answer ≡ Created
MayChange (Pushed place pack commands atomic outcomes made) = HasDone outcomes
MayChange (Permitted user repo asked answer) = answer ≡ Changed
MayChange (Looked user) = ⊥

-- Every other event leaves the state as it was; so a push of which no command is done leaves no object.
abbrev pub OnlyTheseChange : Type 0
OnlyTheseChange =
    (admin : Name) (before : List Entry) (entry : Entry) → IsLegal admin (before ++ entry ∷ []) → ¬ MayChange entry.event → replay admin (before ++ entry ∷ []) ≡ replay admin before

-- an opening pinned the repository of this name
abbrev pub IsPinned : Option Pinned → Name → Type 0
IsPinned None name = ⊥
IsPinned (Some pinned) name = name ≡ pinned.repo

-- an event is of this repository: it is the one that is opened, or whose roles are asked for; for a push the
-- one that was opened, or one that its conf makes
abbrev pub IsOf : History → Event → Name → Type 0
IsOf h (Entered user repo want answer) name = name ≡ repo
IsOf h (Pushed place pack commands atomic outcomes made) name = IsPinned (opening_at h place) name ⊎ Contains made name
IsOf h (Permitted user repo asked answer) name = name ≡ repo
IsOf h (Looked user) name = ⊥

-- An event changes, makes and takes no other repository.
abbrev pub OthersStay : Type 0
OthersStay =
    (admin : Name) (before : List Entry) (entry : Entry) (name : Name) → IsLegal admin (before ++ entry ∷ []) → ¬ IsOf (history admin before) entry.event name
    → get (replay admin (before ++ entry ∷ [])).repositories name ≡ get (replay admin before).repositories name

-- a repository has a pack's objects with those that it had, and its creator and roles are what they were
pub record HasGrown (pack : List Content) (was is : Repository) : Type 0 where
  pub objects : is.objects ≡ with_pack was.objects pack
  pub creator : is.creator ≡ was.creator
  pub roles : is.roles ≡ was.roles

-- A push of which a command is done leaves its repository so.
abbrev pub DoneBringsItsPack : Type 0
DoneBringsItsPack =
    (admin : Name) (before : List Entry) (entry : Entry) (pinned : Pinned) (command : Command) → IsLegal admin (before ++ entry ∷ []) → (tells : TellsCommand admin before entry pinned command Done)
    → HasGrown tells.pack (repository_at (replay admin before) pinned.repo) (repository_at (replay admin (before ++ entry ∷ [])) pinned.repo)

-- A change of roles that is done changes nothing of its repository but the roles.
abbrev pub RolesChangeAlone : Type 0
RolesChangeAlone =
    (admin : Name) (before : List Entry) (entry : Entry) (user repo : Name) (asked : PermChange) → IsLegal admin (before ++ entry ∷ []) → entry.event ≡ Permitted user repo asked Changed
    → repository_at (replay admin (before ++ entry ∷ [])) repo ≡ record (repository_at (replay admin before) repo) { roles = (repository_at (replay admin (before ++ entry ∷ [])) repo).roles }

-- ---- pushes and their openings

-- An opening for writing, which was granted or made its repository, is in the log at this place; a push has
-- commands within the limits, and objects that fit one pack.
pub record IsForWriting (admin : Name) (log : List Entry) (place : ℕ) (pack : List Content) (commands : List Command) : Type 0 where
  pub pinned : Pinned
  pub opening : opening_at (history admin log) place ≡ Some pinned
  pub is_opening : IsOpeningAt admin log place pinned
  pub writes : pinned.want ≡ Write
  pub within : AreWithinLimits commands
  pub fit : FitOnePack pack

-- Each push is after such an opening, and within these limits.
abbrev pub PushesAreForWriting : Type 0
PushesAreForWriting =
    (admin : Name) (before : List Entry) (entry : Entry) (place : ℕ) (pack : List Content) (commands : List Command) (atomic : Bool) (outcomes : List Outcome) (made : List Name)
    → IsLegal admin (before ++ entry ∷ []) → entry.event ≡ Pushed place pack commands atomic outcomes made → IsForWriting admin before place pack commands

-- The old value of a command that is done is the one that its ref had at the opening, where it was
-- advertised.
abbrev pub DoneWasAdvertised : Type 0
DoneWasAdvertised =
    (admin : Name) (before : List Entry) (entry : Entry) (pinned : Pinned) (command : Command) → IsLegal admin (before ++ entry ∷ []) → TellsCommand admin before entry pinned command Done
    → value pinned.repository.refs command.name ≡ command.old

-- ---- which repositories there are

-- an event makes this repository: it is an opening that made it, or a push that records it as made by its
-- conf
abbrev pub MakesRepository : Event → Name → Type 0
MakesRepository (Entered user repo want answer) name = (name ≡ repo) × (answer ≡ Created)
MakesRepository (Pushed place pack commands atomic outcomes made) name = Contains made name
MakesRepository (Permitted user repo asked answer) name = ⊥
MakesRepository (Looked user) name = ⊥

-- A repository that wasn't there before an event is there after it only where the event makes it.
abbrev pub NewWasMade : Type 0
NewWasMade =
    (admin : Name) (before : List Entry) (entry : Entry) (name : Name) → IsLegal admin (before ++ entry ∷ []) → ¬ MakesRepository entry.event name
    → get (replay admin before).repositories name ≡ None → get (replay admin (before ++ entry ∷ [])).repositories name ≡ None

-- it is a plain repository of the rules in force
abbrev pub IsPlainIn : State → Name → Type 0
IsPlainIn state name = (patterns : Patterns) → AreTrue patterns → (rules : Flat) × AreInForce patterns state.conf rules × Contains rules.plain name

-- A repository that a push records as made wasn't there before it. After it the repository is there, empty
-- and without a creator, and is a plain repository of the rules in force.
abbrev pub MadeIsOfTheConf : Type 0
MadeIsOfTheConf =
    (admin : Name) (before : List Entry) (entry : Entry) (place : ℕ) (pack : List Content) (commands : List Command) (atomic : Bool) (outcomes : List Outcome) (made : List Name) (name : Name)
    → IsLegal admin (before ++ entry ∷ []) → entry.event ≡ Pushed place pack commands atomic outcomes made → Contains made name
    → (get (replay admin before).repositories name ≡ None) × (get (replay admin (before ++ entry ∷ [])).repositories name ≡ Some (empty_repository None)) × IsPlainIn (replay admin (before ++ entry ∷ [])) name

-- Each plain repository of the rules in force is there.
abbrev pub PlainAreThere : Type 0
PlainAreThere =
    (admin : Name) (log : List Entry) → is_user_name admin ≡ true → IsLegal admin log → (patterns : Patterns) → AreTrue patterns → (rules : Flat) → AreInForce patterns (replay admin log).conf rules
    → (name : Name) → Contains rules.plain name → (repository : Repository) × (get (replay admin log).repositories name ≡ Some repository)

-- ---- what is done

-- A change has these facts, and by them the rules that are in force let it be made for who opened the
-- repository.
pub record IsLet (patterns : Patterns) (force : InForce) (pinned : Pinned) (objects : List Content) (change : Command) : Type 0 where
  pub rules : Flat
  pub are_in_force : AreInForce patterns force.conf rules
  pub facts : Facts
  pub are_facts : AreFacts objects change.name change.old change.new facts
  pub lets : LetsBeMade patterns rules.rules (asked_by patterns rules force pinned) objects change facts

-- A command that is past the rules at its opening was let be made by them, by its facts; and so by those just
-- before the push, where it is past those too.
pub record PastIsLetByItsFacts : Type 0 where
  pub opening :
      (admin : Name) (before : List Entry) (entry : Entry) (pinned : Pinned) (command : Command) (outcome : Outcome) → IsLegal admin (before ++ entry ∷ []) → IsPastTheOpening outcome
      → (tells : TellsCommand admin before entry pinned command outcome) → (patterns : Patterns) → AreTrue patterns → IsLet patterns (pinned_in_force pinned) pinned (objects_of tells) command
  pub push :
      (admin : Name) (before : List Entry) (entry : Entry) (pinned : Pinned) (command : Command) (outcome : Outcome) → IsLegal admin (before ++ entry ∷ []) → IsPastTheRules outcome
      → (tells : TellsCommand admin before entry pinned command outcome) → (patterns : Patterns) → AreTrue patterns → IsLet patterns (in_force (replay admin before) pinned.repo) pinned (objects_of tells) command

-- ---- what a repository has

-- Each ref has a name that a ref may have.
abbrev pub RefsAreNamed : Type 0
RefsAreNamed = OfEachRepository (λ repository. HasRefNames repository.refs)

-- A repository has at most 4,294,967,295 objects, as many as a pack's head can count.
abbrev pub ObjectsAreFew : Type 0
ObjectsAreFew = OfEachRepository (λ repository. length repository.objects ≤ 4294967295)

-- ---- one log

-- the caller of an entry, and the request without its answer
abbrev pub asked_in : Entry → ℕ × Request
asked_in entry = (entry.caller, request_of entry.event)

-- Two legal logs of one admin that have the same callers and requests, in the same order, are one log.
abbrev pub OneLog : Type 0
OneLog = (admin : Name) (one other : List Entry) → IsLegal admin one → IsLegal admin other → map asked_in one ≡ map asked_in other → one ≡ other

-- ---- some answer

-- a request, other than a push, has names, and asks for a role's text that is short enough
abbrev pub IsAsked : Request → Type 0
IsAsked (Enter user repo want) = AreNames user repo
IsAsked (Push place pack commands atomic) = ⊥
IsAsked (Permit user repo change) = AreNames user repo × IsOfUser change × HasShortRole change
IsAsked (Look user) = is_user_name user ≡ true

-- After a legal log some answer is due to each such request.
abbrev pub SomeAnswerIsDue : Type 0
SomeAnswerIsDue =
    (admin : Name) (log : List Entry) → is_user_name admin ≡ true → IsLegal admin log → (patterns : Patterns) → AreTrue patterns → (request : Request) → IsAsked request
    → (event : Event) × (request_of event ≡ request) × IsDue patterns (history admin log) event

-- So are outcomes to a push within the limits, after an opening for writing, whatever outcomes its commands
-- have by the opening and by the rules just before it.
abbrev pub SomeOutcomesAreDue : Type 0
SomeOutcomesAreDue =
    (admin : Name) (log : List Entry) (patterns : Patterns) (place : ℕ) (pack : List Content) (commands : List Command) (atomic : Bool) (pinned : Pinned) (judged : List (Option Outcome))
    → opening_at (history admin log) place ≡ Some pinned → pinned.want ≡ Write → AreWithinLimits commands → FitOnePack pack → JudgesAllAtPush patterns (in_force (replay admin log) pinned.repo) pinned pack commands judged
    → (outcomes : List Outcome) × (made : List Name) × IsDue patterns (history admin log) (Pushed place pack commands atomic outcomes made)
