-- What the answers of a hub's calls say.
use Rattle.std.specs.Prelude.{◌≡◌, List, length, map, Option, None, Some, Bool}
use Rattle.std.specs.Option.{IfSome}
use Rattle.std.specs.FinMap.{entries}
use Rattle.git_object.specs.Content.{Content}
use Rattle.ref_store.specs.Refs.{Name}
use Rattle.ref_store.specs.declared.command.Command.{Command}
use Rattle.rule_compile.specs.Flat.{Flat}
use Rattle.rule_compile.specs.Patterns.{AreTrue, Patterns}
use Rattle.access_check.specs.declared.verdicts.Want.{Want}
use Rattle.wild_perms.specs.declared.answer.PermsAnswer.{PermsAnswer}
use Rattle.wild_perms.specs.declared.answer.PermsAnswer.TheVariants as perms
use Rattle.repo_listing.specs.Listing as listed
use Rattle.repo_listing.specs.Listing.{listing}
use Rattle.repo_listing.specs.declared.lines.LookLine.{LookLine}
use Rattle.hub_history.specs.declared.entry.EnterKept.{EnterKept}
use Rattle.hub_history.specs.declared.entry.EnterKept.TheVariants as kept_as
use Rattle.hub_history.specs.declared.entry.Event.{Event}
use Rattle.hub_history.specs.declared.entry.Event.TheVariants as event
use Rattle.hub_history.specs.declared.entry.PermChange.{PermChange}
use Rattle.hub_history.specs.declared.entry.PermsKept.{PermsKept}
use Rattle.hub_history.specs.Conf.{AreInForce}
use Rattle.hub_history.specs.History.{Stands}
use Rattle.hub_history.specs.Laws.{IsDueBehind}
use Rattle.hub_history.specs.Opening.{Opening}
use Rattle.hub_history.specs.State.{Repository, State, repository_at, wild_of}
use Rattle.hub.specs.declared.answer.Entered.{Entered}
use Rattle.hub.specs.declared.answer.Entered.TheVariants.{Granted, Created, Denied, NoRepo, NoMemory}
use Rattle.hub.specs.declared.answer.Pushed.{Pushed}
use Rattle.hub.specs.declared.answer.Pushed.TheVariants as push
use Rattle.hub.specs.declared.answer.Looked.{Looked}
use Rattle.hub.specs.declared.answer.Looked.TheVariants as look
use Rattle.hub.specs.Hub.{HubView, state_of}

-- ---- the event that an answer leaves

-- what the log keeps of an answer to an opening
abbrev pub kept : Entered → Option EnterKept
kept (Granted pin) = Some kept_as.Granted
kept (Created pin) = Some kept_as.Created
kept (Denied verdict conf) = Some (kept_as.Denied verdict)
kept NoRepo = Some kept_as.NoRepo
kept NoMemory = None

abbrev pub opened : Name → Name → Want → Option EnterKept → Option Event
opened user repo want None = None
opened user repo want (Some answer) = Some (event.Entered user repo want answer)

abbrev pub settled : Opening → List Content → List Command → Bool → Pushed → Option Event
settled pin pack commands atomic (push.Settled outcomes made conf) = Some (event.Pushed pin.place pack commands atomic outcomes made)
settled pin pack commands atomic (push.NoMemory back) = None

abbrev pub permitted : Name → Name → PermChange → Option PermsKept → Option Event
permitted user repo asked None = None
permitted user repo asked (Some answer) = Some (event.Permitted user repo asked answer)

abbrev pub looked : Name → Looked → Option Event
looked user (look.Lines lines) = Some (event.Looked user)
looked user look.NoMemory = None

-- the event of an answer is due behind the log before it
abbrev pub IsDueIn : HubView → Option Event → Type 0
IsDueIn old made = IfSome made (λ event. IsDueBehind old.admin old.log event)

-- ---- what else an answer says

-- the pin of the opening that the log now ends with
pub record IsPinOf (old new : HubView) (user repo : Name) (want : Want) (pin : Opening) : Type 0 where
  pub place : pin.place ≡ length old.log
  pub user_is : pin.pinned.user ≡ user
  pub repo_is : pin.pinned.repo ≡ repo
  pub want_is : pin.pinned.want ≡ want
  pub stands : Stands pin new.admin new.log

-- the pin is that of the opening; a denial comes with the conf by whose rules it is due
abbrev pub AnswersOpening : HubView → HubView → Name → Name → Want → Entered → Type 0
AnswersOpening old new user repo want (Granted pin) = IsPinOf old new user repo want pin
AnswersOpening old new user repo want (Created pin) = IsPinOf old new user repo want pin
AnswersOpening old new user repo want (Denied verdict conf) = conf ≡ (state_of old).conf
AnswersOpening old new user repo want NoRepo = Unit {0}
AnswersOpening old new user repo want NoMemory = Unit {0}

-- the conf is the one that was in force just before the push; without memory the pin comes back
abbrev pub AnswersPush : HubView → Opening → Pushed → Type 0
AnswersPush old pin (push.Settled outcomes made conf) = conf ≡ (state_of old).conf
AnswersPush old pin (push.NoMemory back) = back ≡ pin

-- the roles that are listed are those of the repository
abbrev pub AnswersChange : HubView → Name → PermsAnswer → Type 0
AnswersChange old repo (perms.Listed roles) = roles ≡ (repository_at (state_of old) repo).roles
AnswersChange old repo other = Unit {0}

-- a repository by its name, as a listing goes through it
abbrev pub listed_repo : Name × Repository → listed.Repository
listed_repo named = record { name = named.0; wild = wild_of named.1 }

-- the lines for a user by rules, of all repositories in the byte order of their names
abbrev pub lines_for : Patterns → Flat → State → Name → List LookLine
lines_for patterns rules state user = listing patterns rules (map listed_repo (entries state.repositories)) user

-- the lines are those that the rules in force give
abbrev pub AnswersLook : HubView → Name → Looked → Type 0
AnswersLook old user (look.Lines lines) =
    (patterns : Patterns) → AreTrue patterns → (rules : Flat) × AreInForce patterns (state_of old).conf rules × (lines ≡ lines_for patterns rules (state_of old) user)
AnswersLook old user look.NoMemory = Unit {0}
