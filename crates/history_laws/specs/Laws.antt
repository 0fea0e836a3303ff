-- Laws of legal logs: what is refused by the rules isn't let by them, and what is opened, or is past the
-- rules, is.
use Rattle.std.specs.Prelude.{◌≡◌, ◌⊎◌, ℕ, ◌<◌, true, IsTrue, List, [], ◌∷◌, ◌++◌, Option, None, Some}
use Rattle.std.specs.List.{slice_get}
use Rattle.std.specs.FinMap.{get}
use Rattle.git_object.specs.Content.{Content}
use Rattle.git_object.specs.declared.object_id.ObjectId.{ObjectId}
use Rattle.ancestry.specs.declared.facts.Facts.{Facts}
use Rattle.ref_store.specs.Refs.{Name}
use Rattle.ref_store.specs.declared.command.Command.{Command}
use Rattle.rule_compile.specs.Flat.{Flat}
use Rattle.rule_compile.specs.Patterns.{AreTrue, Patterns}
use Rattle.rule_compile.specs.declared.fault.PolicyFault.{PolicyFault}
use Rattle.rule_compile.specs.declared.rule.Rule.{Rule}
use Rattle.access_check.specs.Users.{Asked, asked}
use Rattle.access_check.specs.Verdicts.{decide, first_stage, holds_vref, may_create, unborn_stage}
use Rattle.access_check.specs.declared.letters.Letter.{Letter}
use Rattle.access_check.specs.declared.verdicts.Verdict.{Verdict}
use Rattle.access_check.specs.declared.verdicts.Verdict.TheVariants.{DeniedBy}
use Rattle.access_check.specs.declared.verdicts.Vref.TheVariants as vref
use Rattle.access_check.specs.declared.verdicts.Want.{Want}
use Rattle.vref.specs.Facts.{AreFacts}
use Rattle.vref.specs.Paths.{DifferTooMuch, IsChanged}
use Rattle.vref.specs.Root.{root_of}
use Rattle.vref.specs.Rows.{Path}
use Rattle.update_check.specs.Laws.{IsAllowed, LetsBeMade}
use Rattle.update_check.specs.Rules.{letter_for, merge_check_name, path_name}
use Rattle.hub_history.specs.declared.entry.EnterKept.{EnterKept}
use Rattle.hub_history.specs.declared.entry.EnterKept.TheVariants as opened
use Rattle.hub_history.specs.declared.entry.Entry.{Entry}
use Rattle.hub_history.specs.declared.entry.Event.TheVariants.{Entered}
use Rattle.hub_history.specs.declared.outcome.Outcome.{Outcome}
use Rattle.hub_history.specs.declared.outcome.Outcome.TheVariants.{AtomicOther, ConfRefused, Denied, DeniedNow, DirFile, ManyPaths, ManyPathsNow, Stale}
use Rattle.hub_history.specs.Conf.{AreInForce}
use Rattle.hub_history.specs.History.{IsLegal, replay}
use Rattle.hub_history.specs.Laws.{HasNoRefusal, TellsCommand}
use Rattle.hub_history.specs.Opening.{Pinned, pinned_in_force}
use Rattle.hub_history.specs.State.{InForce, Repository, in_force, wild_of}

-- ---- openings

-- Of each opening of a legal log that has this answer, this holds by the rules that were in force just before
-- it, of the repository that the name had just before it, if it had one.
abbrev pub OfEachOpening : EnterKept → (Patterns → Flat → Option Repository → Name → Name → Want → Type 0) → Type 0
OfEachOpening answer Holds =
    (admin : Name) (before : List Entry) (entry : Entry) (user repo : Name) (want : Want) → IsLegal admin (before ++ entry ∷ []) → entry.event ≡ Entered user repo want answer
    → (patterns : Patterns) → AreTrue patterns
    → (rules : Flat) × AreInForce patterns (replay admin before).conf rules × Holds patterns rules (get (replay admin before).repositories repo) user repo want

-- the first stage's verdict: for a repository that is there by its creator and its roles, and for one that
-- isn't as if the asker were its creator
abbrev pub stage_of : Patterns → Flat → Option Repository → Name → Name → Want → Verdict
stage_of patterns rules (Some repository) user repo want = first_stage patterns rules (asked patterns rules (wild_of repository) repo user) want
stage_of patterns rules None user repo want = unborn_stage patterns rules repo user want

-- An opening that was granted or created was let.
pub record OpenedIsLet : Type 0 where
  -- where it was granted the repository was there, and the first stage allowed it
  pub granted : OfEachOpening opened.Granted (λ patterns rules there user repo want.
      (repository : Repository) × (there ≡ Some repository) × IsAllowed (first_stage patterns rules (asked patterns rules (wild_of repository) repo user) want))
  -- where it was created there was none, the first stage allowed it with the asker as the creator, and the
  -- asker was allowed to make the repository
  pub created : OfEachOpening opened.Created (λ patterns rules there user repo want.
      (there ≡ None) × IsAllowed (unborn_stage patterns rules repo user want) × IsAllowed (may_create patterns rules repo user))

-- An opening that was refused wasn't let.
pub record RefusedIsNotLet : Type 0 where
  -- where it was denied it was told the first stage's verdict, which doesn't allow
  pub denied : (verdict : Verdict) → OfEachOpening (opened.Denied verdict) (λ patterns rules there user repo want.
      (verdict ≡ stage_of patterns rules there user repo want) × ¬ IsAllowed verdict)
  -- where it was told that there is no such repository there was none, the first stage allowed it, and the
  -- asker wasn't allowed to make the repository
  pub lacking : OfEachOpening opened.NoRepo (λ patterns rules there user repo want.
      (there ≡ None) × IsAllowed (unborn_stage patterns rules repo user want) × ¬ IsAllowed (may_create patterns rules repo user))

-- ---- commands of pushes

-- what is asked of rules for who opened a repository, by the creator and the roles that are in force
abbrev pub asked_by : Patterns → Flat → InForce → Pinned → Asked
asked_by patterns rules force pinned = asked patterns rules force.wild pinned.repo pinned.user

-- The rules that are in force don't let a change be made for who opened the repository; and by these rules
-- and the facts of the change this holds.
pub record IsNotLet (patterns : Patterns) (force : InForce) (pinned : Pinned) (objects : List Content) (change : Command) (Holds : Flat → Facts → Type 0) : Type 0 where
  pub rules : Flat
  pub are_in_force : AreInForce patterns force.conf rules
  pub facts : Facts
  pub are_facts : AreFacts objects change.name change.old change.new facts
  pub not_let : ¬ LetsBeMade patterns rules.rules (asked_by patterns rules force pinned) objects change facts
  pub why : Holds rules facts

-- The rules that are in force let a change be made for who opened the repository, whatever facts it has.
abbrev pub AreLetting : Patterns → InForce → Pinned → List Content → Command → Type 0
AreLetting patterns force pinned objects change =
    (rules : Flat) × AreInForce patterns force.conf rules × ((facts : Facts) → AreFacts objects change.name change.old change.new facts
    → LetsBeMade patterns rules.rules (asked_by patterns rules force pinned) objects change facts)

-- a rule denies
abbrev pub IsDenied : Verdict → Type 0
IsDenied verdict = (seq : ℕ) × (verdict ≡ DeniedBy seq)

module _ (patterns : Patterns) (rules : List Rule) (a : Asked) (objects : List Content) (change : Command) where
  -- the name is the ref's, and no rule allows it
  abbrev pub DeniesRef : Verdict → List ℕ → Type 0
  DeniesRef verdict name = (name ≡ change.name) × ¬ IsAllowed verdict

  -- the name is that of the merge check, which is asked; a merge is brought, and a rule denies the name
  abbrev pub DeniesMerge : Facts → Verdict → List ℕ → Type 0
  DeniesMerge facts verdict name = (name ≡ merge_check_name change.name) × IsTrue (holds_vref patterns rules a vref.MergeCheck) × IsTrue facts.merge × IsDenied verdict

  -- the name is that of a changed path; changed paths are asked, and a rule denies the name
  abbrev pub DeniesPath : Verdict → List ℕ → Type 0
  DeniesPath verdict name =
      (path : Path) × (name ≡ path_name path) × IsTrue (holds_vref patterns rules a vref.Name) × IsChanged objects (root_of objects change.old) (root_of objects change.new) path × IsDenied verdict

  -- A denial: the letter is the one that the change needs, the verdict is that of the rules on the name, and
  -- that denies the change.
  pub record IsDenial (facts : Facts) (verdict : Verdict) (letter : Letter) (name : List ℕ) : Type 0 where
    pub letter_is : letter ≡ letter_for patterns rules a facts
    pub verdict_is : verdict ≡ decide patterns rules a letter name
    pub denies : DeniesRef verdict name ⊎ DeniesMerge facts verdict name ⊎ DeniesPath verdict name

  -- changed paths are asked, and they are too many
  abbrev pub HasManyPaths : Type 0
  HasManyPaths = IsTrue (holds_vref patterns rules a vref.Name) × DifferTooMuch objects (root_of objects change.old) (root_of objects change.new)

-- the objects by which a command is judged: those that the repository had at the opening, and behind them the
-- pack's
abbrev pub objects_of : {admin : Name} {before : List Entry} {entry : Entry} {pinned : Pinned} {command : Command} {outcome : Outcome} → TellsCommand admin before entry pinned command outcome → List Content
objects_of {admin} {before} {entry} {pinned} tells = pinned.repository.objects ++ tells.pack

-- the rules that are in force don't let a command be made, and this is their denial
abbrev pub IsDeniedBy : Patterns → InForce → Pinned → List Content → Command → Verdict → Letter → List ℕ → Type 0
IsDeniedBy patterns force pinned objects command verdict letter name =
    IsNotLet patterns force pinned objects command (λ rules facts. IsDenial patterns rules.rules (asked_by patterns rules force pinned) objects command facts verdict letter name)

-- nor do they where changed paths are too many
abbrev pub HasManyPathsBy : Patterns → InForce → Pinned → List Content → Command → Type 0
HasManyPathsBy patterns force pinned objects command = IsNotLet patterns force pinned objects command (λ rules facts. HasManyPaths patterns rules.rules (asked_by patterns rules force pinned) objects command)

-- A command that is denied wasn't let be made by the rules at its opening, and the denial that it is told is
-- theirs.
abbrev pub DeniedIsNotLet : Type 0
DeniedIsNotLet =
    (admin : Name) (before : List Entry) (entry : Entry) (pinned : Pinned) (command : Command) (verdict : Verdict) (letter : Letter) (name : List ℕ) → IsLegal admin (before ++ entry ∷ [])
    → (tells : TellsCommand admin before entry pinned command (Denied verdict letter name)) → (patterns : Patterns) → AreTrue patterns
    → IsDeniedBy patterns (pinned_in_force pinned) pinned (objects_of tells) command verdict letter name

-- Nor was one that is told of too many paths, and they are.
abbrev pub ManyPathsIsNotLet : Type 0
ManyPathsIsNotLet =
    (admin : Name) (before : List Entry) (entry : Entry) (pinned : Pinned) (command : Command) → IsLegal admin (before ++ entry ∷ [])
    → (tells : TellsCommand admin before entry pinned command ManyPaths) → (patterns : Patterns) → AreTrue patterns
    → HasManyPathsBy patterns (pinned_in_force pinned) pinned (objects_of tells) command

-- A command that is told that it is denied now wasn't let be made by the rules just before the push, by its
-- repository's creator and roles then, and the denial that it is told is theirs.
abbrev pub DeniedNowIsNotLet : Type 0
DeniedNowIsNotLet =
    (admin : Name) (before : List Entry) (entry : Entry) (pinned : Pinned) (command : Command) (verdict : Verdict) (letter : Letter) (name : List ℕ) → IsLegal admin (before ++ entry ∷ [])
    → (tells : TellsCommand admin before entry pinned command (DeniedNow verdict letter name)) → (patterns : Patterns) → AreTrue patterns
    → IsDeniedBy patterns (in_force (replay admin before) pinned.repo) pinned (objects_of tells) command verdict letter name

-- Nor was one that is told of too many paths now, and they are.
abbrev pub ManyPathsNowIsNotLet : Type 0
ManyPathsNowIsNotLet =
    (admin : Name) (before : List Entry) (entry : Entry) (pinned : Pinned) (command : Command) → IsLegal admin (before ++ entry ∷ [])
    → (tells : TellsCommand admin before entry pinned command ManyPathsNow) → (patterns : Patterns) → AreTrue patterns
    → HasManyPathsBy patterns (in_force (replay admin before) pinned.repo) pinned (objects_of tells) command

-- a command is past the rules, those at its opening and those just before the push: it is done, or another of
-- its atomic push is refused; it is stale, or a ref is in its way
abbrev pub IsPastTheRules : Outcome → Type 0
IsPastTheRules outcome = HasNoRefusal outcome ⊎ ((is : ObjectId) × (outcome ≡ Stale is)) ⊎ ((r : Name) × (outcome ≡ DirFile r))

-- the rules just before the push refuse it
abbrev pub IsRefusedNow : Outcome → Type 0
IsRefusedNow outcome = ((verdict : Verdict) × (letter : Letter) × (name : List ℕ) × (outcome ≡ DeniedNow verdict letter name)) ⊎ (outcome ≡ ManyPathsNow)

-- a command is past the rules at its opening: it is past all rules, its conf is refused, or the rules just
-- before the push refuse it
abbrev pub IsPastTheOpening : Outcome → Type 0
IsPastTheOpening outcome = IsPastTheRules outcome ⊎ ((fault : PolicyFault) × (outcome ≡ ConfRefused fault)) ⊎ IsRefusedNow outcome

-- A command that is past rules was let be made by them, whether it is done or not.
pub record PastTheRulesIsLet : Type 0 where
  pub opening :
      (admin : Name) (before : List Entry) (entry : Entry) (pinned : Pinned) (command : Command) (outcome : Outcome) → IsLegal admin (before ++ entry ∷ []) → IsPastTheOpening outcome
      → (tells : TellsCommand admin before entry pinned command outcome) → (patterns : Patterns) → AreTrue patterns → AreLetting patterns (pinned_in_force pinned) pinned (objects_of tells) command
  pub push :
      (admin : Name) (before : List Entry) (entry : Entry) (pinned : Pinned) (command : Command) (outcome : Outcome) → IsLegal admin (before ++ entry ∷ []) → IsPastTheRules outcome
      → (tells : TellsCommand admin before entry pinned command outcome) → (patterns : Patterns) → AreTrue patterns → AreLetting patterns (in_force (replay admin before) pinned.repo) pinned (objects_of tells) command

-- ---- atomic pushes

-- the command at this place is refused, and none before it is
pub record IsFirstRefused (outcomes : List Outcome) (place : ℕ) : Type 0 where
  pub outcome : Outcome
  pub outcome_is : slice_get outcomes place ≡ Some outcome
  pub refused : ¬ HasNoRefusal outcome
  pub before : (earlier : ℕ) (other : Outcome) → earlier < place → slice_get outcomes earlier ≡ Some other → HasNoRefusal other

-- A command is told of another exactly where its push is atomic, it has no refusal of its own, and some
-- command has one. It is told the place of the first that has.
pub record AtomicOtherNamesTheFirst : Type 0 where
  pub only : (admin : Name) (before : List Entry) (entry : Entry) (pinned : Pinned) (command : Command) (place : ℕ) → IsLegal admin (before ++ entry ∷ [])
      → (tells : TellsCommand admin before entry pinned command (AtomicOther place)) → (tells.atomic ≡ true) × IsFirstRefused tells.outcomes place
  pub all : (admin : Name) (before : List Entry) (entry : Entry) (pinned : Pinned) (command : Command) (outcome : Outcome) (place : ℕ) → IsLegal admin (before ++ entry ∷ [])
      → (tells : TellsCommand admin before entry pinned command outcome) → tells.atomic ≡ true → IsFirstRefused tells.outcomes place → HasNoRefusal outcome → outcome ≡ AtomicOther place
