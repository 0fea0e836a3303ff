-- Logs: the state that a log leads to, and which logs are legal.
use Rattle.std.specs.Prelude.{◌≡◌, ℕ, ◌≤◌, Bool, true, List, [], ◌∷◌, ◌++◌, length, map, Option, None, Some}
use Rattle.std.specs.List.{slice_get}
use Rattle.conf_lex.specs.Names.{is_repo_name, is_user_name}
use Rattle.git_object.specs.Content.{Content}
use Rattle.git_object.specs.Object.{FitOnePack}
use Rattle.ref_store.specs.Refs.{Name}
use Rattle.ref_store.specs.declared.command.Command.{Command}
use Rattle.rule_compile.specs.Patterns.{AreTrue, Patterns}
use Rattle.access_check.specs.declared.verdicts.Want.TheVariants.{Write}
use Rattle.hub_history.specs.declared.outcome.Outcome.{Outcome}
use Rattle.hub_history.specs.declared.entry.Entry.{Entry}
use Rattle.hub_history.specs.declared.entry.Event.{Event}
use Rattle.hub_history.specs.declared.entry.Event.TheVariants.{Entered, Pushed, Permitted, Looked}
use Rattle.hub_history.specs.declared.entry.PermChange.{PermChange}
use Rattle.hub_history.specs.declared.entry.PermChange.TheVariants as change
use Rattle.hub_history.specs.Opening.{IsDueOpening, Opening, Pinned, made_by, pins}
use Rattle.hub_history.specs.Push.{AreWithinLimits, JudgesAllAtPush, Makes, conf_put, repository_left, outcomes_in}
use Rattle.hub_history.specs.Roles.{IsDueChange, given_by}
use Rattle.hub_history.specs.State.{Change, Repository, State, changed, empty_repository, in_force, put_in_place, repository_at, start}

-- what a log has led to: the state, and at each place of the log what the opening there pinned, if one stands
-- there that pins
pub record History : Type 0 where
  pub state : State
  pub openings : List (Option Pinned)

abbrev pub joined : {X : Type 0} → Option (Option X) → Option X
joined None = None
joined (Some x) = x

-- what the opening at a place pinned
abbrev pub opening_at : History → ℕ → Option Pinned
opening_at h place = joined (slice_get h.openings place)

-- ---- what follows an event, by what it records

-- empty repositories of these names, without creator
abbrev pub made_empty : List Name → List (Name × Repository)
made_empty names = map (λ name. (name, empty_repository None)) names

-- what a push changes that was told these outcomes, and whose conf made these repositories
unfoldable pub push_change : State → Pinned → List Content → List Command → List Outcome → List Name → Change
push_change state pinned pack commands outcomes made = record {
  repositories = put_in_place pinned.repo (repository_left (repository_at state pinned.repo) pack commands outcomes) ++ made_empty made;
  conf = conf_put pinned pack commands outcomes;
}

abbrev pub after_push : State → Option Pinned → List Content → List Command → List Outcome → List Name → State
after_push state None pack commands outcomes made = state
after_push state (Some pinned) pack commands outcomes made = changed state (push_change state pinned pack commands outcomes made)

-- the state after an event
abbrev pub step : History → Event → State
step h (Entered user repo want answer) = changed h.state (made_by user repo answer)
step h (Pushed place pack commands atomic outcomes made) = after_push h.state (opening_at h place) pack commands outcomes made
step h (Permitted user repo asked answer) = changed h.state (given_by h.state repo asked answer)
step h (Looked user) = h.state

-- what an event pins of the state after it
abbrev pub pinned_by : State → Event → Option Pinned
pinned_by after (Entered user repo want answer) = pins after user repo want answer
pinned_by after (Pushed place pack commands atomic outcomes made) = None
pinned_by after (Permitted user repo asked answer) = None
pinned_by after (Looked user) = None

abbrev pub after : History → Event → History
after h event = record { state = step h event; openings = h.openings ++ pinned_by (step h event) event ∷ [] }

abbrev pub history_from : History → List Entry → History
history_from h [] = h
history_from h (e ∷ es) = history_from (after h e.event) es

abbrev pub new_history : Name → History
new_history admin = record { state = start admin; openings = [] }

-- the history of a log, from the setup for an admin
abbrev pub history : Name → List Entry → History
history admin log = history_from (new_history admin) log

-- the state that a log leads to
abbrev pub replay : Name → List Entry → State
replay admin log = (history admin log).state

-- ---- what an event has to record

-- A push names an opening for writing that was granted, is within the limits, and has objects that fit one
-- pack. It records what each command is told, by that opening and by the state just before the push, and the
-- repositories that its conf makes.
pub record IsDuePush (patterns : Patterns) (state : State) (pinned : Pinned) (pack : List Content) (commands : List Command) (atomic : Bool) (outcomes : List Outcome) (made : List Name) : Type 0 where
  pub for_writing : pinned.want ≡ Write
  pub within : AreWithinLimits commands
  pub fit : FitOnePack pack
  pub judged : List (Option Outcome)
  pub judges : JudgesAllAtPush patterns (in_force state pinned.repo) pinned pack commands judged
  pub told : outcomes ≡ outcomes_in (repository_at state pinned.repo) pack commands atomic judged
  pub makes : Makes patterns state (conf_put pinned pack commands outcomes) made

abbrev pub IsDueAfter : Patterns → State → Option Pinned → List Content → List Command → Bool → List Outcome → List Name → Type 0
IsDueAfter patterns state None pack commands atomic outcomes made = ⊥
IsDueAfter patterns state (Some pinned) pack commands atomic outcomes made = IsDuePush patterns state pinned pack commands atomic outcomes made

-- who asks has a user's name, and what is asked for has a repository's
pub record AreNames (user repo : Name) : Type 0 where
  pub asker : is_user_name user ≡ true
  pub asked_for : is_repo_name repo ≡ true

-- who is to get or to lose a role has a user's name
abbrev pub IsOfUser : PermChange → Type 0
IsOfUser (change.Grant role user) = is_user_name user ≡ true
IsOfUser (change.Revoke role user) = is_user_name user ≡ true
IsOfUser change.List = Unit {0}

-- the text of the role that is asked for; a listing asks for none
abbrev pub role_text : PermChange → List ℕ
role_text (change.Grant role user) = role
role_text (change.Revoke role user) = role
role_text change.List = []

-- it has at most 65,516 bytes
abbrev pub HasShortRole : PermChange → Type 0
HasShortRole asked = length (role_text asked) ≤ 65516

-- the names are names, what is asked for is short enough, and the answer that an event records is the one
-- that is due by what stands before it
abbrev pub IsDue : Patterns → History → Event → Type 0
IsDue patterns h (Entered user repo want answer) = AreNames user repo × IsDueOpening patterns h.state user repo want answer
IsDue patterns h (Pushed place pack commands atomic outcomes made) = IsDueAfter patterns h.state (opening_at h place) pack commands atomic outcomes made
IsDue patterns h (Permitted user repo asked answer) = AreNames user repo × IsOfUser asked × HasShortRole asked × IsDueChange patterns h.state user repo asked answer
IsDue patterns h (Looked user) = is_user_name user ≡ true

abbrev pub IsLegalFrom : Patterns → History → List Entry → Type 0
IsLegalFrom patterns h [] = Unit {0}
IsLegalFrom patterns h (e ∷ es) = IsDue patterns h e.event × IsLegalFrom patterns (after h e.event) es

-- each recorded answer is the one that is due by what stands before it, whatever answers about patterns are
-- true
abbrev pub IsLegal : Name → List Entry → Type 0
IsLegal admin log = (patterns : Patterns) → AreTrue patterns → IsLegalFrom patterns (new_history admin) log

-- the opening at the pin's place pinned what the pin has
abbrev pub Stands : Opening → Name → List Entry → Type 0
Stands opening admin log = opening_at (history admin log) opening.place ≡ Some opening.pinned
